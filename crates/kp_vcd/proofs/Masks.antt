-- The rows of a netlist, as values of signals.
use Rattle.std.proofs.Common.{◌≡◌, ◌∙◌, ℕ, zero, suc, ◌+◌, ◌*◌, ◌/◌, ◌%◌, ◌^◌, ◌<◌, ◌≤◌, List, [], ◌∷◌, ◌++◌, length, Bool, true, false, refl, ap, sym, arith}
use Rattle.std.proofs.{Math.Nat.pow-suc, Math.Nat.div-div-eq-div-mul, lemmas.Bool.eqb-true, lemmas.Bool.eqb-false, lemmas.Nat.mod-pow-add}
use Rattle.std.specs.Prelude.{◌==◌, cond}
use Rattle.kp_base.specs.declared.row.Row as masks
use Rattle.kp_pipeline.specs.{Machine.Machine, Pipeline.PipelineState, Pipeline.Inputs, Pipeline.back, Pipeline.cycle, Pipeline.greatest, Pipeline.mismatches}
use Rattle.kp_pipeline.specs.Rows.{Row, bits, one_if, rows_from}
use Rattle.kp_sched.specs.Rows.{bit_of, row_seen}
use Rattle.kp_vcd.specs.{Dumps.number, Dumps.row_values, Dumps.no_row, Dumps.output_values, inner.Shown.mask_values}

-- ---- the number of bits

lowest : (x : ℕ) → one_if (x % 2 == 1) ≡ x % 2
lowest x = go (x % 2 == 1) refl
  where
    go : (b : Bool) → (x % 2 == 1) ≡ b → one_if b ≡ x % 2
    go true e = sym (eqb-true (x % 2) 1 e)
    go false e = let other = eqb-false (x % 2) 1 e in grind (arith, other)

halved : (m k : ℕ) → m / 2 ^ suc k ≡ m / 2 ^ k / 2
halved m k = ap (λ (d : ℕ). m / d) (pow-suc 2 k) ∙ sym (div-div-eq-div-mul m (2 ^ k) 2)

number_from : (m n k : ℕ) → number (bits (bit_of m) n k) ≡ m / 2 ^ k % 2 ^ n
number_from m zero k = omega arith
number_from m (suc n) k =
    let x = m / 2 ^ k in
    let low = lowest x in
    let rest : number (bits (bit_of m) n (suc k)) ≡ x / 2 % 2 ^ n = number_from m n (suc k) ∙ ap (λ (y : ℕ). y % 2 ^ n) (halved m k) in
    let one : suc n ≡ n + 1 = omega arith in
    let split : x % 2 ^ suc n ≡ x / 2 % 2 ^ n * 2 + x % 2 = ap (λ (j : ℕ). x % 2 ^ j) one ∙ mod-pow-add x n 1 in
    omega (arith, low, rest, split)

number_is : (m n : ℕ) → number (bits (bit_of m) n 0) ≡ m % 2 ^ n
number_is m n = number_from m n 0 ∙ ap (λ (x : ℕ). x % 2 ^ n) (let e : m / 2 ^ 0 ≡ m = omega arith in e)

pub masks_are : (n : ℕ) (r : masks.Row) → r.back ≤ 12 → mask_values n r ≡ row_values n (row_seen n r)
masks_are n r low =
    let back_is : r.back % 2 ^ 4 ≡ r.back = omega arith in
    rw (number_is r.full n, number_is r.ue n, back_is) refl

-- ---- the rows of a run

-- no row of a run rolls back from a stage that doesn't exist
abbrev pub RollBackBelow : ℕ → List Row → Type 0
RollBackBelow n [] = Unit {0}
RollBackBelow n (r ∷ rows) = (r.back ≤ n) × RollBackBelow n rows

greatest_below : (p : ℕ → Bool) (n : ℕ) → greatest p n ≤ n
greatest_below p zero = omega arith
greatest_below p (suc n) = go (p n) (greatest_below p n)
  where
    go : (b : Bool) → greatest p n ≤ n → cond b (suc n) (greatest p n) ≤ suc n
    go true h = omega arith
    go false h = omega (arith, h)

back_below : (m : Machine) (st : PipelineState) (i : Inputs) → back m st i ≤ m.stages
unfolding back
back_below m st i = greatest_below (mismatches m st i) m.stages

pub run_below : (m : Machine) (st : PipelineState) (ins : List Inputs) → RollBackBelow m.stages (rows_from m st ins)
run_below m st [] = tt
run_below m st (i ∷ ins) = (back_below m st i, run_below m (cycle m st i) ins)

pub output_first : (n : ℕ) (rows more : List Row) (T : ℕ) → T < length rows → output_values n (rows ++ more) T ≡ output_values n rows T
output_first n [] more T h = absurd (omega (arith, h))
output_first n (r ∷ rows) more zero h = refl
output_first n (r ∷ rows) more (suc T) h = output_first n rows more T (omega (arith, h))

pub output_last : (n : ℕ) (rows : List Row) (r : Row) (T : ℕ) → length rows ≡ T → output_values n (rows ++ r ∷ []) T ≡ row_values n r
output_last n [] r zero h = refl
output_last n [] r (suc T) h = absurd (omega (arith, h))
output_last n (x ∷ rows) r zero h = absurd (omega (arith, h))
output_last n (x ∷ rows) r (suc T) h = output_last n rows r T (omega (arith, h))

pub output_none : (n : ℕ) (rows : List Row) (T : ℕ) → length rows ≤ T → output_values n rows T ≡ no_row
output_none n [] T h = refl
output_none n (r ∷ rows) zero h = absurd (omega (arith, h))
output_none n (r ∷ rows) (suc T) h = output_none n rows T (omega (arith, h))
