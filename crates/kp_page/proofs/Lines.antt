-- The steps of the loops that write the states.
use Rattle.std.proofs.Common.{◌≡◌, ◌∙◌, ℕ, suc, ◌+◌, ◌-◌, ◌<◌, ◌≤◌, List, [], ◌∷◌, ◌++◌, length, get_or, drop, ap, ap₂, sym, subst, arith}
use Rattle.std.{proofs.lemmas.List.drop_more, specs.declared.option.Option.Option, specs.declared.result.Result.Result, specs.Io.KnownBytes.Appends}
use Rattle.kp_base.specs.Bytes.{AppendsPart, Writes}
use Rattle.kp_ast.specs.declared.tree.{Decl.Decl, Job.Job}
use Rattle.kp_cycle.specs.Steps.{Running}
use Rattle.kp_debug.specs.Inspecting.{at_line}
use Rattle.kp_net.specs.Netlist.{Net}
use Rattle.kp_report.specs.States.{State, targets_in}
use Rattle.kp_page.specs.States.{change_line, changes_of_words, changes_of, change_lines, all_zero, earlier, recorded_in, recorded_from}
use Rattle.kp_page.specs.{Runs.after_cycles, inner.Seen.seen, inner.Seen.states_of}

module _ (name : List ℕ) (width : ℕ) (old new : ℕ → ℕ) (address count : ℕ) where
  pub words_next : address < count → changes_of_words name width old new address (count - address)
      ≡ change_line name width address (old address) (new address) ++ changes_of_words name width old new (address + 1) (count - (address + 1))
  unfolding changes_of_words
  words_next h = let one : count - address ≡ suc (count - (address + 1)) = omega (arith, h) in ap (changes_of_words name width old new address) one

  pub words_end : count ≤ address → changes_of_words name width old new address (count - address) ≡ []
  unfolding changes_of_words
  words_end h = let none : count - address ≡ 0 = omega (arith, h) in ap (changes_of_words name width old new address) none

-- one declaration more
pub state_next : (ds : List Decl) (i : ℕ) (x : Decl) → i < length ds → x ≡ get_or ds i x → (t : ℕ) (old new : State)
    → change_lines t old new (drop i ds) ≡ changes_of x (old t) (new t) ++ change_lines (t + targets_in x) old new (drop (i + 1) ds)
state_next ds i x h is t old new =
    ap (change_lines t old new) (drop_more ds i x h ∙ ap (λ (y : Decl). y ∷ drop (i + 1) ds) (sym is))

module _ (ds : List Decl) (visible : ℕ → State) where
  -- the text of a cycle that isn't the first
  pub later_is : (T : ℕ) → at_line (T + 1) ++ change_lines 0 (visible T) (visible (T + 1)) ds ≡ recorded_in ds visible (T + 1)
  later_is T =
      let one : T + 1 ≡ suc T = omega arith in
      ap (λ (o : State). at_line (T + 1) ++ change_lines 0 o (visible (T + 1)) ds) (sym (ap (earlier visible) one))

  -- one cycle more
  pub cycles_next : (n k : ℕ) → k < n → recorded_from ds visible (k + 1) (n - k) ≡ recorded_in ds visible (k + 1) ++ recorded_from ds visible (k + 1 + 1) (n - (k + 1))
  cycles_next n k h = let one : n - k ≡ suc (n - (k + 1)) = omega (arith, h) in ap (recorded_from ds visible (k + 1)) one

  pub cycles_end : (n k : ℕ) → n ≤ k → recorded_from ds visible (k + 1) (n - k) ≡ []
  cycles_end n k h = let none : n - k ≡ 0 = omega (arith, h) in ap (recorded_from ds visible (k + 1)) none

-- the text of a cycle that isn't the first, in terms of two simulators
module _ (job : Job) (net : Net) (k : ℕ) (before now : Running) (behind : before ≡ after_cycles job net k) (ahead : now ≡ after_cycles job net (k + 1)) where
  pub cycle_is : at_line (k + 1) ++ change_lines 0 (seen job before) (seen job now) job.decls ≡ recorded_in job.decls (states_of job net) (k + 1)
  cycle_is =
      ap₂ (λ (x y : Running). at_line (k + 1) ++ change_lines 0 (seen job x) (seen job y) job.decls) behind ahead
      ∙ later_is job.decls (states_of job net) k

-- and of the first cycle
pub first_is : (job : Job) (now : Running) → now ≡ after_cycles job now.net 0
    → at_line 0 ++ change_lines 0 all_zero (seen job now) job.decls ≡ recorded_in job.decls (states_of job now.net) 0
first_is job now is = ap (λ (s : Running). at_line 0 ++ change_lines 0 all_zero (seen job s) job.decls) is

-- the same text, as another term
pub appends_as : (a b : Option (List ℕ)) (x y : List ℕ) → x ≡ y → Appends a b x → Appends a b y
appends_as a b x y e h = subst (λ (text : List ℕ). Appends a b text) e h

pub part_as : (a b : Option (List ℕ)) (x y : List ℕ) → x ≡ y → AppendsPart a b x → AppendsPart a b y
part_as a b x y e h = subst (λ (text : List ℕ). AppendsPart a b text) e h

pub writes_as : {T E : Type 0} (a b : Option (List ℕ)) (x y : List ℕ) (result : Result T E) → x ≡ y → Writes a b x result → Writes a b y result
writes_as a b x y result e h = subst (λ (text : List ℕ). Writes a b text result) e h
