-- The effect of one line more on the complete script.
use Rattle.std.proofs.Common.{◌≡◌, ℕ, ◌+◌, ◌-◌, ◌<◌, ◌≤◌, true, List, [], ◌∷◌, ◌++◌, length, get_or, take, drop, Option, Some, None, Result, Ok, Err, refl, sym, ap, ◌∙◌, append_assoc, arith}
use Rattle.std.{proofs.lemmas.List.take_all, proofs.lemmas.List.length-drop, specs.Prelude.OnOk, specs.Prelude.IfErr}
use Rattle.kp_debug_script.specs.Faults.{ScriptFinding, finding_of, Reads}
use Rattle.kp_base.specs.Lines.{is_break, pieces, lines_of, words_of, piece_of}
use Rattle.kp_base.proofs.Splitting.{Clean, between, first_piece, last_piece, lines_left}
use Rattle.kp_ast.specs.declared.tree.Decl.{Decl}
use Rattle.kp_debug_script.specs.Scripts.{command_in, with_line, commands_of, placed}
use Rattle.kp_debug_script.specs.{inner.Reading.behind, inner.Reading.IsAdded, inner.Reading.IsBroken, declared.command.Command.Command}
use Rattle.kp_debug_script.specs.declared.fault.{Fault.Fault, Misread.Misread}
use Rattle.kp_debug_script.specs.declared.fault.Misread.TheVariants as misread

-- ---- one line

-- it is empty
pub no_words : (line : Option (Result Command Fault)) (old : List Command) → None ≡ line → (rest : Result (List Command) Fault) → behind old (with_line line rest) ≡ behind old rest
no_words line old none rest = ap (λ (l : Option (Result Command Fault)). behind old (with_line l rest)) (sym none)

grown : (old : List Command) (c : Command) (rest : Result (List Command) Fault) → behind old (with_line (Some (Ok c)) rest) ≡ behind (old ++ c ∷ []) rest
grown old c (Err e) = refl
grown old c (Ok cs) = ap Ok (sym (append_assoc old (c ∷ []) cs))

-- it has a command
pub one_command : (line : Option (Result Command Fault)) (old new : List Command) (c : Command) → Some (Ok c) ≡ line → new ≡ old ++ c ∷ [] → (rest : Result (List Command) Fault)
    → behind old (with_line line rest) ≡ behind new rest
one_command line old new c has is rest =
    ap (λ (l : Option (Result Command Fault)). behind old (with_line l rest)) (sym has) ∙ grown old c rest ∙ ap (λ (cs : List Command). behind cs rest) (sym is)

-- it violates a rule
pub one_fault : (text : List ℕ) (line : Option (Result Command Fault)) (f : Fault) → Some (Err f) ≡ line → (rest : Result (List Command) Fault)
    → placed text (with_line line rest) ≡ Err (finding_of text f)
one_fault text line f breaks rest = ap (λ (l : Option (Result Command Fault)). placed text (with_line l rest)) (sym breaks)

-- ---- the lines that are left

behind_none : (all : Result (List Command) Fault) → behind [] all ≡ all
behind_none (Err e) = refl
behind_none (Ok cs) = refl

-- a rule that the rest violates is violated by the complete script
pub left_breaks : (text : List ℕ) (old : List Command) (left all : Result (List Command) Fault) (found : ScriptFinding) → behind old left ≡ behind [] all → placed text left ≡ Err found
    → placed text all ≡ Err found
left_breaks text old (Ok cs) all found same breaks = absurd (cc breaks)
left_breaks text old (Err f) all found same breaks = ap (placed text) (sym (same ∙ behind_none all)) ∙ breaks

nil_behind : (cs : List Command) → cs ++ [] ≡ cs
nil_behind [] = refl
nil_behind (c ∷ cs) = ap (λ (l : List Command). c ∷ l) (nil_behind cs)

-- a line violates a rule, and so the script does
pub breaks : {T : Type 0} (text : List ℕ) (line : Option (Result Command Fault)) (old : List Command) (left rest all : Result (List Command) Fault) (value : T → List Command) (e : Misread)
    → behind old left ≡ behind [] all → left ≡ with_line line rest → IsBroken text line e → Reads (Err e) (placed text all) value
breaks text line old left rest all value (misread.Found found) same is broken = left_breaks text old left all found same (ap (placed text) is ∙ broken rest)
breaks text line old left rest all value misread.NoMemory same is broken = tt

-- nothing is left
pub all_read : (text : List ℕ) (line : Option (Result Command Fault)) (old new : List Command) (left all : Result (List Command) Fault) → behind old left ≡ behind [] all → left ≡ with_line line (Ok [])
    → IsAdded line old new → placed text all ≡ Ok new
all_read text line old new left all same is added =
    ap (placed text) (sym (behind_none all) ∙ sym same ∙ ap (behind old) is ∙ added (Ok [])) ∙ ap Ok (nil_behind new)

-- the last line was read
pub last_line : {T : Type 0} (text : List ℕ) (line : Option (Result Command Fault)) (old new : List Command) (left all : Result (List Command) Fault) (result : Result T Misread)
    → behind old left ≡ behind [] all → left ≡ with_line line (Ok []) → OnOk result (IsAdded line old new) → IfErr result (λ e. IsBroken text line e) → Reads result (placed text all) (λ _. new)
last_line text line old new left all (Ok x) same is added broken = all_read text line old new left all same is added
last_line text line old new left all (Err e) same is added broken = breaks text line old left (Ok []) all (λ _. new) e same is broken

-- the loop over the lines
abbrev pub left_from : List ℕ → List Decl → ℕ → Result (List Command) Fault
left_from text ds n = commands_of ds (lines_left text n)

pub all_left : (text : List ℕ) (ds : List Decl) (from : ℕ) → from ≤ length text → left_from text ds from ≡ commands_of ds (lines_of (record { at = from; bytes = drop from text }))
all_left text ds from h = ap (λ (bytes : List ℕ). commands_of ds (pieces is_break from bytes)) (take_all (length text - from) (drop from text) (omega (arith, length-drop from text)))

module _ (text : List ℕ) (ds : List Decl) (at end : ℕ) where
  abbrev pub this_line : Option (Result Command Fault)
  this_line = command_in ds (words_of (piece_of text (record { at = at; end = end })))

  -- a line ends here
  pub line_more : at ≤ end → end < length text → Clean is_break text at end → is_break (get_or text end 0) ≡ true
      → left_from text ds at ≡ with_line this_line (left_from text ds (end + 1))
  line_more h within clean on = ap (commands_of ds) (first_piece is_break text at end (length text) h within (omega arith) clean on)

  -- the last line ends here
  pub line_last : at ≤ end → end ≡ length text → Clean is_break text at end → left_from text ds at ≡ with_line this_line (Ok [])
  line_last h here clean =
      ap (λ (e : ℕ). commands_of ds (between is_break text at e)) (sym here)
      ∙ ap (commands_of ds) (last_piece is_break text at end h (omega (arith, here)) clean)
