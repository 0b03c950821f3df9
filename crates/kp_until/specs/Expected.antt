-- WHAT IS EXPECTED of the end of a run, a line each: `R = V`, `F[3] = V, V`, `F[..] = V`, `after N`, `retired = N`, `retired <= N`, `cycles = N` or `cycles <= N`.
-- `//` begins a comment. A line of another form violates rule 1 (X1); a word that the job doesn't have, or a value that doesn't fit, violates rule 2 (X2).
use Rattle.std.specs.Prelude.{◌≡◌, ℕ, suc, ◌+◌, ◌^◌, ◌<◌, ◌≤◌, Bool, true, false, ◌&&◌, ◌==◌, nat_lt, if◌then◌else◌, List, [], ◌∷◌, ◌++◌, codes, length, Option, Some, None, Result, Ok, Err, ⊤}
use Rattle.std.specs.{Str.bytes_eq, List.list_any}
use Rattle.kp_base.specs.Lines.{Piece, lines_of, words_of}
use Rattle.kp_bits.specs.{Word.Word, Literals.number_of as number_read}
use Rattle.kp_ast.specs.declared.tree.Job.{Job}
use Rattle.kp_machine.specs.{Slots.Slot, Slots.targets_of, Slots.is_register, Words.HasWord, Words.target}
use Rattle.kp_until.specs.Parts.{ends_in, front, part_of, value_of}
use Rattle.kp_until.specs.declared.part.{Index.Index, Part.Part, PartFault.PartFault, ValueFault.ValueFault}
use Rattle.kp_until.specs.declared.part.Index.TheVariants.{Whole, One, Between, Others as Rest}
use Rattle.kp_until.specs.declared.part.PartFault.TheVariants.{NoTarget, NoWord}
use Rattle.kp_until.specs.declared.part.ValueFault.TheVariants.{NoNumber, TooWide}
use Rattle.kp_until.specs.declared.expected.{Bound.Bound, Check.Check, Expected.Expected, LineFault.LineFault, LineRule.LineRule}
use Rattle.kp_until.specs.declared.expected.Check.TheVariants.{Word as Has, Others, Retired, Cycles}
use Rattle.kp_until.specs.declared.expected.LineRule.TheVariants as rules
use Rattle.kp_until.specs.declared.lines.LineRefused.{LineRefused, TheVariants.Fault, TheVariants.NoMemory}
use Rattle.kp_pipeline.specs.Machine.{State}

-- ---- reading

abbrev pub begins_comment : List ℕ → Bool
begins_comment (a ∷ b ∷ rest) = a == 47 && b == 47
begins_comment _ = false

-- the tokens before the first that begins a comment
abbrev pub uncommented : List Piece → List Piece
uncommented [] = []
uncommented (p ∷ ps) = if begins_comment p.bytes then [] else p ∷ uncommented ps

abbrev pub tokens_of : Piece → List Piece
tokens_of line = uncommented (words_of line)

-- the checks of the lines so far, or the rule that this line violates
abbrev pub Outcome : Type 0
Outcome = Result (List Check) LineRule

abbrev pub value_rule : ℕ → ValueFault → LineRule
value_rule t NoNumber = rules.Form
value_rule t TooWide = rules.NoValue t

abbrev pub part_rule : PartFault → LineRule
part_rule NoTarget = rules.Form
part_rule (NoWord t) = rules.NoWord t

abbrev pub with_word : ℕ → ℕ → List Check → Result Word ValueFault → Outcome
with_word t a done (Ok v) = Ok (done ++ Has t a v ∷ [])
with_word t a done (Err fault) = Err (value_rule t fault)

-- the word of a target at an address has this value
abbrev pub one_value : Job → ℕ → ℕ → List Check → List ℕ → Outcome
one_value job t a done bytes =
    if nat_lt a (2 ^ (target job t).address) then with_word t a done (value_of (target job t).width bytes) else Err (rules.NoWord t)

abbrev pub continued : Outcome → (List Check → Outcome) → Outcome
continued (Ok done) more = more done
continued (Err rule) more = Err rule

-- the words from an address on have these values, with a comma after each but the last
abbrev pub values_from : Job → ℕ → ℕ → List Check → List Piece → Outcome
values_from job t a done [] = Err rules.Form
values_from job t a done (v ∷ rest) =
    if length rest == 0 then one_value job t a done v.bytes
    else (if ends_in 44 v.bytes then continued (one_value job t a done (front v.bytes)) (λ more. values_from job t (a + 1) more rest) else Err rules.Form)

abbrev pub with_others : ℕ → List Check → Result Word ValueFault → Outcome
with_others t done (Ok v) = Ok (done ++ Others t v ∷ [])
with_others t done (Err fault) = Err (value_rule t fault)

-- all other words have a value
abbrev pub others_from : Job → ℕ → List Check → List Piece → Outcome
others_from job t done (v ∷ []) = with_others t done (value_of (target job t).width v.bytes)
others_from job t done _ = Err rules.Form

abbrev pub indexed : Job → ℕ → Slot → Index → List Check → List Piece → Outcome
indexed job t s Whole done values = if is_register s then values_from job t 0 done values else Err rules.Form
indexed job t s (One a) done values = values_from job t a done values
indexed job t s (Between a b) done values = Err rules.Form
indexed job t s Rest done values = others_from job t done values

abbrev pub on_part : Job → Result Part PartFault → List Check → List Piece → Outcome
on_part job (Err fault) done values = Err (part_rule fault)
on_part job (Ok part) done values = indexed job part.target (target job part.target) part.index done values

-- a bound on the number of cycles, or of instructions
abbrev pub counter : Bool → Bound → Check
counter cycles bound = if cycles then Cycles bound else Retired bound

-- `=` or `<=`
abbrev pub relation_of : List ℕ → Option Bool
relation_of word = if bytes_eq word (codes "=") then Some false else (if bytes_eq word (codes "<=") then Some true else None)

abbrev pub bounded : Option Bool → Option ℕ → (Bound → Check) → List Check → Outcome
bounded (Some most) (Some n) check done = Ok (done ++ check (record { most = most; number = n }) ∷ [])
bounded _ _ check done = Err rules.Form

abbrev pub count_from : (Bound → Check) → List ℕ → List Check → List Piece → Outcome
count_from check relation done (n ∷ []) = bounded (relation_of relation) (number_read n.bytes) check done
count_from check relation done _ = Err rules.Form

abbrev pub compared_to : Job → List ℕ → List ℕ → List Check → List Piece → Outcome
compared_to job first relation done values =
    if bytes_eq first (codes "retired") then count_from (counter false) relation done values
    else (if bytes_eq first (codes "cycles") then count_from (counter true) relation done values
    else (if bytes_eq relation (codes "=") then on_part job (part_of job first) done values else Err rules.Form))

abbrev pub after_first : Job → List ℕ → List Check → List Piece → Outcome
after_first job first done [] = Err rules.Form
after_first job first done (second ∷ rest) =
    if bytes_eq first (codes "after") then count_from (counter false) (codes "=") done (second ∷ rest) else compared_to job first second.bytes done rest

-- THE CHECKS of a line, after those of earlier lines
abbrev pub line_read : Job → List Check → List Piece → Outcome
line_read job done [] = Ok done
line_read job done (first ∷ rest) = after_first job first.bytes done rest

-- the number of lines that expect something, and what they expect
pub record Script : Type 0 where
  pub lines : ℕ
  pub checks : List Check

abbrev pub counted : ℕ → List Piece → ℕ
counted lines [] = lines
counted lines (first ∷ rest) = lines + 1

abbrev pub next_line : Outcome → ℕ → (List Check → Result Script LineFault) → Result Script LineFault
next_line (Ok done) line more = more done
next_line (Err rule) line more = Err (record { line = line; rule = rule })

-- the lines of a text, the first of which has this number
abbrev pub read_from : Job → ℕ → List Check → ℕ → List Piece → Result Script LineFault
read_from job lines done line [] = Ok (record { lines = lines; checks = done })
read_from job lines done line (p ∷ ps) =
    next_line (line_read job done (tokens_of p)) line (λ more. read_from job (counted lines (tokens_of p)) more (line + 1) ps)

-- THE EXPECTATIONS of a text, or the first line that violates a rule
unfoldable pub expected_of : Job → List ℕ → Result Script LineFault
expected_of job text = read_from job 0 [] 1 (lines_of (record { at = 0; bytes = text }))

abbrev pub script_of : Expected → Script
script_of e = record { lines = e.lines; checks = e.checks.items }

abbrev pub Reads : Result Expected LineRefused → Result Script LineFault → Type 0
Reads (Ok e) verdict = verdict ≡ Ok (script_of e)
Reads (Err (Fault fault)) verdict = verdict ≡ Err fault
Reads (Err NoMemory) verdict = ⊤

-- ---- meaning

-- the end of a run: its state, and the numbers of instructions and cycles
pub record End : Type 0 where
  pub state : State
  pub retired : ℕ
  pub cycles : ℕ

abbrev pub IsBoundedBy : Bool → ℕ → ℕ → Type 0
IsBoundedBy true number n = n ≤ number
IsBoundedBy false number n = n ≡ number

abbrev pub IsBounded : Bound → ℕ → Type 0
IsBounded b n = IsBoundedBy b.most b.number n

-- the check names the word of a target at an address
abbrev pub names : ℕ → ℕ → Check → Bool
names t a (Has s b v) = (s == t) && (b == a)
names t a _ = false

-- A CHECK, which is one of these, is met
abbrev pub Meets : Job → List Check → End → Check → Type 0
Meets job checks e (Has t a v) = e.state t a ≡ v.value
Meets job checks e (Others t v) = (a : ℕ) → HasWord job t a → list_any (names t a) checks ≡ false → e.state t a ≡ v.value
Meets job checks e (Retired b) = IsBounded b e.retired
Meets job checks e (Cycles b) = IsBounded b e.cycles

-- the words of a check are words of the job
abbrev pub IsCheck : Job → Check → Type 0
IsCheck job (Has t a v) = HasWord job t a
IsCheck job (Others t v) = t < length (targets_of job.decls)
IsCheck job _ = ⊤
