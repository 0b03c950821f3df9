-- What rollbacks cost.
use Rattle.std.proofs.Common.{◌≡◌, ℕ, zero, suc, ◌+◌, ◌<◌, ◌≤◌, min, Bool, true, false, cond, List, [], ◌∷◌, Option, Some, None, refl, ap, ⊎_elim, arith, le-leb}
use Rattle.std.proofs.lemmas.Bool.{cases_Bool, cases_lt, cond-true, cond-false, lt-leb, not_from_true, not_from_false}
use Rattle.std.{proofs.lemmas.List.Sums.sum_by-cons, specs.Prelude.sum_by}
use Rattle.kp_pipeline.specs.Rows.{Row, bit}
use Rattle.kp_diagram.specs.Diagram.{Account, Loss, Filling, DataHazard, WrongGuess, Outside, account, account_from, and_cycle, is_squashed, loss_of_wait, losses_after, lost_to}

abbrev wrong : Loss → ℕ
wrong WrongGuess = 1
wrong _ = 0

abbrev wrong_cycle : Option Loss → ℕ
wrong_cycle None = 0
wrong_cycle (Some loss) = wrong loss

-- how many of the first k stages are empty for a wrong guess
abbrev wrong_below : (ℕ → Loss) → ℕ → ℕ
wrong_below loss zero = 0
wrong_below loss (suc k) = wrong (loss k) + wrong_below loss k

wait-right : (ext : ℕ → Bool) (k : ℕ) → wrong (loss_of_wait ext k) ≡ 0
wait-right ext k = ⊎_elim (λ (e : ext k ≡ true). ap wrong (cond-true (ext k) Outside DataHazard e)) (λ e. ap wrong (cond-false (ext k) Outside DataHazard e)) (cases_Bool (ext k))

wait-or : (full : Bool) (a b : Loss) → wrong a ≡ 0 → wrong (cond full a b) ≤ wrong b
wait-or true a b e = omega arith
wait-or false a b e = omega arith

-- the bubbles of wrong guesses move up, and a rollback makes as many as it squashes stages
bubbles : (ext : ℕ → Bool) (r : Row) (loss : ℕ → Loss) (k : ℕ) → wrong_below (losses_after ext r loss) (suc k) ≤ min r.back k + wrong_below loss k
bubbles ext r loss zero = omega arith
bubbles ext r loss (suc k) =
    let x = bubbles ext r loss k in
    ⊎_elim
    (λ (b : k < r.back).
    let y : wrong (losses_after ext r loss (suc k)) ≡ 1 = ap wrong (cond-true (is_squashed r k) WrongGuess _ (not_from_false _ (lt-leb r.back k b))) in
    omega arith)
    (λ (b : r.back ≤ k).
    let y : wrong (losses_after ext r loss (suc k)) ≡ wrong (cond (bit r.full k) (loss_of_wait ext k) (loss k)) = ap wrong (cond-false (is_squashed r k) WrongGuess _ (not_from_true _ (le-leb r.back k b))) in
    let z = wait-or (bit r.full k) (loss_of_wait ext k) (loss k) (wait-right ext k) in
    omega arith)
    (cases_lt k r.back)

-- a cycle is lost to a wrong guess where such a bubble is in the last stage
lost : (last : ℕ) (ext : ℕ → Bool) (r : Row) (loss : ℕ → Loss) → wrong_cycle (lost_to last ext r loss) ≤ wrong (loss last)
lost last ext r loss =
    ⊎_elim
    (λ (u : bit r.ue last ≡ true). let x : wrong_cycle (lost_to last ext r loss) ≡ 0 = ap wrong_cycle (cond-true (bit r.ue last) None _ u) in omega arith)
    (λ (u : bit r.ue last ≡ false).
    let x : wrong_cycle (lost_to last ext r loss) ≡ wrong (cond (bit r.full last) (loss_of_wait ext last) (loss last)) = ap wrong_cycle (cond-false (bit r.ue last) None _ u) in
    let y = wait-or (bit r.full last) (loss_of_wait ext last) (loss last) (wait-right ext last) in
    omega arith)
    (cases_Bool (bit r.ue last))

counted : (o : Option Loss) (a : Account) → (and_cycle o a).guesses ≡ wrong_cycle o + a.guesses
counted None a = omega arith
counted (Some Filling) a = omega arith
counted (Some DataHazard) a = omega arith
counted (Some WrongGuess) a = omega arith
counted (Some Outside) a = omega arith

guesses-from : (last : ℕ) (ext : ℕ → ℕ → Bool) (T : ℕ) (loss : ℕ → Loss) (rows : List Row)
    → (account_from last ext T loss rows).guesses ≤ sum_by (λ (r : Row). r.back) rows + wrong_below loss (suc last)
guesses-from last ext T loss [] = omega arith
guesses-from last ext T loss (r ∷ rows) =
    let x = guesses-from last ext (suc T) (losses_after (ext T) r loss) rows in
    let y : (account_from last ext T loss (r ∷ rows)).guesses ≡ wrong_cycle (lost_to last (ext T) r loss) + (account_from last ext (suc T) (losses_after (ext T) r loss) rows).guesses =
    counted (lost_to last (ext T) r loss) (account_from last ext (suc T) (losses_after (ext T) r loss) rows) in
    let z = lost last (ext T) r loss in
    let w = bubbles (ext T) r loss last in
    let u = sum_by-cons (λ (q : Row). q.back) r rows in
    omega arith

none_at_first : (k : ℕ) → wrong_below (λ j. Filling) k ≡ 0
none_at_first zero = refl
none_at_first (suc k) = let x = none_at_first k in omega arith

pub rollbacks_lose : (last : ℕ) (ext : ℕ → ℕ → Bool) (rows : List Row) → (account last ext rows).guesses ≤ sum_by (λ (r : Row). r.back) rows
rollbacks_lose last ext rows =
    let x = guesses-from last ext 0 (λ k. Filling) rows in
    let y = none_at_first (suc last) in
    omega arith
