-- The arrows in the row of a read are the cells of the table.
use Rattle.std.proofs.Common.{◌≡◌, ◌∙◌, ◌⊎◌, inl, inr, ℕ, zero, suc, ◌+◌, ◌≤◌, ◌<◌, Bool, true, false, refl, cond, [], ◌∷◌, ◌++◌, ap, sym, subst, arith}
use Rattle.std.proofs.Math.Nat.{eq-or-lt_of_le}
use Rattle.std.proofs.lemmas.List.Elements.{Contains-append_left, Contains-append_right, Contains-append_cases}
use Rattle.std.specs.List.{Contains}
use Rattle.kp_ast.specs.declared.tree.{Job.Job, ReadStmt.ReadStmt}
use Rattle.kp_paths.specs.{declared.cell.Cell.Cell, Table.cell_at, Arrows.Arrow, Arrows.arrow_of, Arrows.arrows, Arrows.arrows_from, Arrows.is_shown}
use Rattle.kp_paths.specs.ArrowClaims.{ShowsCells}

abbrev arrow_at : Job → ReadStmt → ℕ → ℕ → Arrow
arrow_at job r k j = record { stage = j; cell = cell_at job r k j }

-- an arrow of a stage and a cell is there where the cell is shown, and is no other one
own : (j : ℕ) (c : Cell) → is_shown c ≡ true → Contains (arrow_of j c) (record { stage = j; cell = c })
own j c e = rw e (0, omega arith, refl)

abbrev IsOwn : ℕ → Cell → Arrow → Type 0
IsOwn j c a = (a.stage ≡ j) × (a.cell ≡ c) × (is_shown c ≡ true)

is_own : (j : ℕ) (c : Cell) (a : Arrow) (b : Bool) → is_shown c ≡ b → Contains (cond b (record { stage = j; cell = c } ∷ []) []) a → IsOwn j c a
is_own j c a true e (zero, lt, same) = (sym (ap (λ (x : Arrow). x.stage) same), sym (ap (λ (x : Arrow). x.cell) same), e)
is_own j c a true e (suc i, lt, same) = absurd (omega (arith, lt))
is_own j c a false e (i, lt, same) = absurd (omega (arith, lt))

module _ (job : Job) (r : ReadStmt) (k : ℕ) where
  -- an arrow of the first stage, or of a later one
  has_either : (from count j : ℕ) → is_shown (cell_at job r k j) ≡ true → (from ≡ j) ⊎ (from < j)
      → (from < j → Contains (arrows_from job r k (from + 1) count) (arrow_at job r k j)) → Contains (arrows_from job r k from (suc count)) (arrow_at job r k j)
  has_either from count j e (inl same) rest =
      subst (λ (i : ℕ). Contains (arrow_of i (cell_at job r k i) ++ arrows_from job r k (i + 1) count) (arrow_at job r k j)) (sym same)
      (Contains-append_left (arrow_of j (cell_at job r k j)) (arrows_from job r k (j + 1) count) (arrow_at job r k j) (own j (cell_at job r k j) e))
  has_either from count j e (inr later) rest =
      Contains-append_right (arrow_of from (cell_at job r k from)) (arrows_from job r k (from + 1) count) (arrow_at job r k j) (rest later)

  -- among those from `count` stages from `from` on
  has : (from count j : ℕ) → from ≤ j → j < from + count → is_shown (cell_at job r k j) ≡ true
      → Contains (arrows_from job r k from count) (arrow_at job r k j)
  has from zero j low high e = absurd (omega (arith, low, high))
  has from (suc count) j low high e =
      has_either from count j e (eq-or-lt_of_le low) (λ later. has (from + 1) count j (omega (arith, later)) (omega (arith, high)) e)

  -- each of them is from one of these stages, and shows its cell
  abbrev IsFrom : ℕ → ℕ → Arrow → Type 0
  IsFrom from count a = (a.stage < from + count) × (is_shown a.cell ≡ true) × (cell_at job r k a.stage ≡ a.cell)

  one_from : (from count : ℕ) (a : Arrow) → IsOwn from (cell_at job r k from) a → IsFrom from (suc count) a
  one_from from count a (stage, cell, shown) = (omega (arith, stage), ap is_shown cell ∙ shown, ap (cell_at job r k) stage ∙ sym cell)

  more_from : (from count : ℕ) (a : Arrow) → IsFrom (from + 1) count a → IsFrom from (suc count) a
  more_from from count a (within, shown, cell) = (omega (arith, within), shown, cell)

  each_either : (from count : ℕ) (a : Arrow) → Contains (arrow_of from (cell_at job r k from)) a ⊎ Contains (arrows_from job r k (from + 1) count) a
      → (Contains (arrows_from job r k (from + 1) count) a → IsFrom (from + 1) count a) → IsFrom from (suc count) a
  each_either from count a (inl here) rest = one_from from count a (is_own from (cell_at job r k from) a (is_shown (cell_at job r k from)) refl here)
  each_either from count a (inr later) rest = more_from from count a (rest later)

  each : (from count : ℕ) (a : Arrow) → Contains (arrows_from job r k from count) a → IsFrom from count a
  each from zero a (i, lt, same) = absurd (omega (arith, lt))
  each from (suc count) a h =
      each_either from count a (Contains-append_cases (arrow_of from (cell_at job r k from)) (arrows_from job r k (from + 1) count) a h)
      (λ later. each (from + 1) count a later)

-- the same of all stages
all_from : (job : Job) (r : ReadStmt) (k : ℕ) (a : Arrow) → IsFrom job r k 0 job.stages.value a
    → (a.stage < job.stages.value) × (is_shown a.cell ≡ true) × (cell_at job r k a.stage ≡ a.cell)
all_from job r k a (within, shown, cell) = (omega (arith, within), shown, cell)

pub shows_cells : (job : Job) → ShowsCells job
unfolding arrows
shows_cells job = record {
  all = λ r k j within e. has job r k 0 job.stages.value j (omega arith) (omega (arith, within)) e;
  only = λ r k a h. all_from job r k a (each job r k 0 job.stages.value a h);
}
