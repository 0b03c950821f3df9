-- THE SCRIPT OF A DEBUGGER: the command of each line, and its rules.
--
-- A line is `step N`, `back N`, `until R LIT N`, `show` or `row`, or empty. A line of another form violates rule 39 at its first token, a count of
-- cycles over 100,000 violates rule 40 at the count, and if R is no register's name, or LIT isn't a value of its width, rule 41 is violated at the
-- name or else at the literal. Of the rules that a line violates the one with the lowest number counts, and of the lines that violate one the first.
use Rattle.std.specs.Prelude.{ℕ, ◌+◌, Bool, true, false, ◌==◌, nat_le, if◌then◌else◌, List, [], ◌∷◌, codes, position, Option, Some, None, Result, Ok, Err, drop}
use Rattle.std.specs.Str.{bytes_eq}
use Rattle.kp_base.specs.{declared.refusal.Refusal.Refusal, Lines.Piece, Lines.lines_of, Lines.words_of}
use Rattle.kp_bits.specs.{Word.Word, Literals.is_number, Literals.number_of, Literals.literal_of, Literals.fit_of, declared.literal.Literal.Literal}
use Rattle.kp_bits.specs.declared.literal.LiteralFault.{LiteralFault, TheVariants.BadDigit}
use Rattle.kp_ast.specs.{Expressions.is_same_name, declared.tree.Decl.Decl}
use Rattle.kp_ast.specs.declared.tree.Decl.TheVariants as decls
use Rattle.kp_width.specs.Declarations.{name_of}
use Rattle.kp_debug_script.specs.Faults.{ScriptFinding, finding_of, verdict_of}
use Rattle.kp_debug_script.specs.declared.{command.Command.Command, command.Verb.Verb, command.Register.Register, fault.Fault.Fault, fault.ScriptFault.ScriptFault}
use Rattle.kp_debug_script.specs.declared.command.Command.TheVariants as commands
use Rattle.kp_debug_script.specs.declared.command.Verb.TheVariants as verbs
use Rattle.kp_debug_script.specs.declared.fault.ScriptFault.TheVariants as faults

abbrev pub broken : {X : Type 0} → ScriptFault → ℕ → Result X Fault
broken kind at = Err (record { kind = kind; at = at })

-- ---- tokens

abbrev pub verb_of : List ℕ → Option Verb
verb_of word =
    if bytes_eq word (codes "step") then Some verbs.Step else (if bytes_eq word (codes "back") then Some verbs.Back
    else (if bytes_eq word (codes "until") then Some verbs.Until else (if bytes_eq word (codes "show") then Some verbs.Show
    else (if bytes_eq word (codes "row") then Some verbs.Row else None))))

-- digits, a letter for a base and digits, of any size
abbrev pub has_form : Result Literal LiteralFault → Bool
has_form (Err BadDigit) = false
has_form _ = true

abbrev pub is_literal : List ℕ → Bool
is_literal word = has_form (literal_of word)

-- the register that a declaration declares, if it has this name; its target would have number t
abbrev pub register_in : ℕ → Decl → List ℕ → Option Register
register_in t (decls.Reg n width start) name = if bytes_eq n.name name then Some (record { target = t; width = width.value; declared = n.at }) else None
register_in t _ name = None

-- registers and files are targets
abbrev pub targets_in : Decl → ℕ
targets_in (decls.Reg n width start) = 1
targets_in (decls.File n width address) = 1
targets_in _ = 0

abbrev pub or_else : Option Register → Option Register → Option Register
or_else (Some r) other = Some r
or_else None other = other

-- the register with this name among declarations, the first register or file of which is target t
abbrev pub register_from : ℕ → List Decl → List ℕ → Option Register
register_from t [] name = None
register_from t (d ∷ ds) name = or_else (register_in t d name) (register_from (t + targets_in d) ds name)

-- ---- a command

-- the number of cycles that a token denotes
abbrev pub count_within : ℕ → Option ℕ → Result ℕ Fault
count_within at None = broken faults.ManyCycles at
count_within at (Some n) = if nat_le n 100000 then Ok n else broken faults.ManyCycles at

abbrev pub count_of : Piece → Result ℕ Fault
count_of p = count_within p.at (number_of p.bytes)

-- the value of a register that a token denotes
abbrev pub value_fitting : ℕ → Literal → Result Word LiteralFault → Result Word Fault
value_fitting at l (Err e) = broken (faults.Value l.value l.width) at
value_fitting at l (Ok v) = Ok v

abbrev pub value_within : ℕ → Register → Result Literal LiteralFault → Result Word Fault
value_within at r (Err e) = broken faults.LargeValue at
value_within at r (Ok l) = if l.width == r.width then value_fitting at l (fit_of l) else broken (faults.Width l.width r.width l.value r.declared) at

abbrev pub value_of : Register → Piece → Result Word Fault
value_of r p = value_within p.at r (literal_of p.bytes)

-- the only token after the keyword counts cycles
abbrev pub one_count : Verb → ℕ → List Piece → Result ℕ Fault
one_count verb at (n ∷ []) = if is_number n.bytes then count_of n else broken (faults.NoCount verb n.at) at
one_count verb at _ = broken (faults.Words verb) at

abbrev pub with_count : Result ℕ Fault → (ℕ → Command) → Result Command Fault
with_count (Err e) command = Err e
with_count (Ok n) command = Ok (command n)

-- there is no token after the keyword
abbrev pub alone : Verb → ℕ → List Piece → Command → Result Command Fault
alone verb at [] command = Ok command
alone verb at _ command = broken (faults.Words verb) at

-- a register, a value of it and a count follow the keyword
abbrev pub with_value : ℕ → ℕ → Result Word Fault → Result Command Fault
with_value target n (Err e) = Err e
with_value target n (Ok v) = Ok (commands.Until target v n)

-- how a name violates E41 that is none of a register: its declaration, the first of the name, declares something else, or there is none
abbrev pub no_register : Option ℕ → ScriptFault
no_register None = faults.Undeclared
no_register (Some number) = faults.NoRegister number

abbrev pub declared_as : List Decl → List ℕ → Option ℕ
declared_as ds name = position (λ d. is_same_name (name_of d).name name) ds

abbrev pub with_register : List Decl → Piece → Option Register → Piece → ℕ → Result Command Fault
with_register ds name None literal n = broken (no_register (declared_as ds name.bytes)) name.at
with_register ds name (Some r) literal n = with_value r.target n (value_of r literal)

abbrev pub until_at : List Decl → Piece → Piece → Result ℕ Fault → Result Command Fault
until_at ds name literal (Err e) = Err e
until_at ds name literal (Ok n) = with_register ds name (register_from 0 ds name.bytes) literal n

abbrev pub until_by : List Decl → ℕ → List Piece → Result Command Fault
until_by ds at (r ∷ l ∷ n ∷ []) =
    if is_literal l.bytes
    then (if is_number n.bytes then until_at ds r l (count_of n) else broken (faults.NoCount verbs.Until n.at) at)
    else broken (faults.NoLiteral l.at) at
until_by ds at _ = broken (faults.Words verbs.Until) at

-- the command with this keyword at this offset and these arguments
abbrev pub command_by : List Decl → ℕ → Option Verb → List Piece → Result Command Fault
command_by ds at None args = broken faults.NoCommand at
command_by ds at (Some verbs.Step) args = with_count (one_count verbs.Step at args) commands.Step
command_by ds at (Some verbs.Back) args = with_count (one_count verbs.Back at args) commands.Back
command_by ds at (Some verbs.Until) args = until_by ds at args
command_by ds at (Some verbs.Show) args = alone verbs.Show at args commands.Show
command_by ds at (Some verbs.Row) args = alone verbs.Row at args commands.Row

-- ---- the script

-- the command that the tokens of a line form, if it has any tokens
abbrev pub command_in : List Decl → List Piece → Option (Result Command Fault)
command_in ds [] = None
command_in ds (verb ∷ args) = Some (command_by ds verb.at (verb_of verb.bytes) args)

-- the command of a line, before those of the lines after it
abbrev pub with_line : Option (Result Command Fault) → Result (List Command) Fault → Result (List Command) Fault
with_line None rest = rest
with_line (Some (Err e)) rest = Err e
with_line (Some (Ok c)) (Err e) = Err e
with_line (Some (Ok c)) (Ok cs) = Ok (c ∷ cs)

abbrev pub commands_of : List Decl → List Piece → Result (List Command) Fault
commands_of ds [] = Ok []
commands_of ds (line ∷ lines) = with_line (command_in ds (words_of line)) (commands_of ds lines)

-- a violation, with its place in the text
abbrev pub placed : {X : Type 0} → List ℕ → Result X Fault → Result X ScriptFinding
placed text (Ok x) = Ok x
placed text (Err f) = Err (finding_of text f)

-- THE SCRIPT that starts at this offset of a text, for a job with these declarations, or the first violation in it
abbrev pub script_in : List Decl → List ℕ → ℕ → Result (List Command) ScriptFinding
script_in ds text from = placed text (commands_of ds (lines_of (record { at = from; bytes = drop from text })))

-- the same, or the rule that is violated
abbrev pub script_of : List Decl → List ℕ → ℕ → Result (List Command) Refusal
script_of ds text from = verdict_of (script_in ds text from)
