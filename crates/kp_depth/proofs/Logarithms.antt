-- The table of logarithms.
use Rattle.std.proofs.Common.{◌≡◌, ◌∙◌, ◌<◌, ◌≤◌, ℕ, Bool, true, false, leb, List, length, get_or, refl, sym, arith, ⊎_elim}
use Rattle.std.specs.Prelude.{min, nat_le}
use Rattle.std.proofs.lemmas.{Bool.leb-true, Bool.false≢true, Bool.cases_lt, List.get_or_past, List.Folds.list_all_at}
use Rattle.std.specs.List.{list_all}
use Rattle.kp_depth.specs.Delay.{logarithm}
use Rattle.kp_depth.specs.declared.delay.TheConstants.{LOGARITHMS}

-- each number of a list that passes is small
few_at : (xs : List ℕ) (i : ℕ) → list_all (λ x. nat_le x 600) xs ≡ true → get_or xs i 0 ≤ 600
few_at xs i h = ⊎_elim (λ (l : i < length xs). inside l (leb (get_or xs i 0) 600) refl) (λ (l : length xs ≤ i). past (get_or_past xs i 0 l)) (cases_lt i (length xs))
  where
    past : get_or xs i 0 ≡ 0 → get_or xs i 0 ≤ 600
    past e = omega (arith, e)

    inside : i < length xs → (b : Bool) → leb (get_or xs i 0) 600 ≡ b → get_or xs i 0 ≤ 600
    inside l true e = leb-true (get_or xs i 0) 600 e
    inside l false e = absurd (false≢true (sym (list_all_at (λ x. nat_le x 600) xs i 0 l e) ∙ h))

pub logarithm_few : (n : ℕ) → logarithm n ≤ 600
logarithm_few n = few_at LOGARITHMS (min n 64) refl
