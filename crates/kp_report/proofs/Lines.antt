-- The steps of the loops that write a state.
use Rattle.std.proofs.Common.{◌≡◌, ◌∙◌, ℕ, zero, suc, ◌+◌, ◌-◌, ◌<◌, ◌≤◌, List, [], ◌∷◌, ◌++◌, length, get_or, drop, ap, sym, subst, arith}
use Rattle.std.{proofs.lemmas.List.drop_more, proofs.lemmas.List.drop-drop, specs.declared.option.Option.Option, specs.List.All}
use Rattle.kp_base.specs.inner.Bytes.{WrittenUpTo}
use Rattle.kp_ast.specs.declared.tree.{Decl.Decl, Job.Job}
use Rattle.kp_ast.specs.declared.tree.Decl.TheVariants as decls
use Rattle.kp_machine.specs.{Slots.Slot, Slots.targets_of, Words.no_slot}
use Rattle.kp_report.specs.States.{State, Behind, line_of_word, lines_of_words, lines_of, targets_in, state_lines}
use Rattle.kp_report.specs.inner.Targets.{IsTarget, StandsAt, IsSmall}

-- the text that is left is the same
pub left_is : (whole rest same : List ℕ) (a b : Option (List ℕ)) → rest ≡ same → WrittenUpTo whole rest a b → WrittenUpTo whole same a b
left_is whole rest same a b e written = subst (λ (text : List ℕ). WrittenUpTo whole text a b) e written

module _ (name : List ℕ) (width : ℕ) (behind : Option ℕ) (values : ℕ → ℕ) (address count : ℕ) where
  pub words_next : address < count → lines_of_words name width behind values address (count - address) ≡ line_of_word name width behind address (values address) ++ lines_of_words name width behind values (address + 1) (count - (address + 1))
  unfolding lines_of_words
  words_next h = let one : count - address ≡ suc (count - (address + 1)) = omega arith in ap (lines_of_words name width behind values address) one

  pub words_end : count ≤ address → lines_of_words name width behind values address (count - address) ≡ []
  unfolding lines_of_words
  words_end h = let none : count - address ≡ 0 = omega arith in ap (lines_of_words name width behind values address) none

pub slot_at : (ss : List Slot) (t : ℕ) (s : Slot) (more : List Slot) → drop t ss ≡ s ∷ more → (t < length ss) × (get_or ss t no_slot ≡ s)
slot_at [] zero s more e = cc
slot_at [] (suc t) s more e = cc
slot_at (x ∷ ss) zero s more e = (omega arith, cc)
slot_at (x ∷ ss) (suc t) s more e = let h = slot_at ss t s more e in (omega (arith, h.0), h.1)

pub past_one : (ss : List Slot) (t : ℕ) (s : Slot) (more : List Slot) → drop t ss ≡ s ∷ more → drop (t + 1) ss ≡ more
past_one ss t s more e = sym (drop-drop 1 t ss) ∙ ap (drop 1) e

pub past_none : (ss : List Slot) (t : ℕ) (more : List Slot) → drop t ss ≡ more → drop (t + 0) ss ≡ more
past_none ss t more e = let same : t + 0 ≡ t = omega arith in ap (λ (k : ℕ). drop k ss) same ∙ e

module _ (ds : List Decl) (i : ℕ) (x : Decl) (h : i < length ds) (is : x ≡ get_or ds i x) where
  at : drop i ds ≡ x ∷ drop (i + 1) ds
  at = drop_more ds i x h ∙ ap (λ (y : Decl). y ∷ drop (i + 1) ds) (sym is)

  pub state_next : (t : ℕ) (behind : Behind) (state : State) → state_lines t behind state (drop i ds) ≡ lines_of x (behind t) (state t) ++ state_lines (t + targets_in x) behind state (drop (i + 1) ds)
  state_next t behind state = ap (state_lines t behind state) at

  small_at : All IsSmall ds → IsSmall x
  small_at all = subst IsSmall (sym is) (all i x h)

  target_at : (job : Job) (t : ℕ) (s : Slot) (more : List Slot) → targets_of ds ≡ targets_of job.decls → drop t (targets_of ds) ≡ s ∷ more → IsTarget job t s
  target_at job t s more same e =
      let there = slot_at (targets_of job.decls) t s more (ap (drop t) (sym same) ∙ e) in
      record { within = there.0; is = there.1 }

  stands_by : (job : Job) (t : ℕ) (d : Decl) → targets_of ds ≡ targets_of job.decls → IsSmall d → drop t (targets_of ds) ≡ targets_of (d ∷ drop (i + 1) ds) → StandsAt job t d
  stands_by job t (decls.Reg n width start) same small e = target_at job t _ _ same e
  stands_by job t (decls.File n width address) same small e = (target_at job t _ _ same e, small)
  stands_by job t _ same small e = tt

  -- a register or file of the list is the target whose number has been counted so far
  pub stands : (job : Job) (t : ℕ) → targets_of ds ≡ targets_of job.decls → All IsSmall ds → drop t (targets_of ds) ≡ targets_of (drop i ds) → StandsAt job t x
  stands job t same all e = stands_by job t x same (small_at all) (e ∙ ap targets_of at)

  past_by : (t : ℕ) (d : Decl) → drop t (targets_of ds) ≡ targets_of (d ∷ drop (i + 1) ds) → drop (t + targets_in d) (targets_of ds) ≡ targets_of (drop (i + 1) ds)
  past_by t (decls.Reg n width start) e = past_one (targets_of ds) t _ _ e
  past_by t (decls.File n width address) e = past_one (targets_of ds) t _ _ e
  past_by t _ e = past_none (targets_of ds) t _ e

  -- and then the next one
  pub past : (t : ℕ) → drop t (targets_of ds) ≡ targets_of (drop i ds) → drop (t + targets_in x) (targets_of ds) ≡ targets_of (drop (i + 1) ds)
  past t e = past_by t x (e ∙ ap targets_of at)

pub at_most_one : (d : Decl) → targets_in d ≤ 1
at_most_one (decls.Reg n width start) = omega arith
at_most_one _ = omega arith
