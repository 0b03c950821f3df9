-- A search from the front finds the first answer.
use Rattle.std.proofs.Common.{◌≡◌, ℕ, suc, ◌<◌, length, get_or, List, [], ◌∷◌, ◌++◌, Option, Some, None, refl, arith}
use Rattle.kp_base.specs.First.{first}

-- past answers that are None
pub first_append_none : {X : Type 0} (xs ys : List (Option X)) → first xs ≡ None → first (xs ++ ys) ≡ first ys
first_append_none [] ys e = refl
first_append_none (None ∷ xs) ys e = first_append_none xs ys e
first_append_none (Some x ∷ xs) ys e = cc

-- all answers are None
pub first_of_none : {X : Type 0} (xs : List (Option X)) → ((k : ℕ) → k < length xs → get_or xs k None ≡ None) → first xs ≡ None
first_of_none [] none = refl
first_of_none (None ∷ xs) none = first_of_none xs (λ k within. none (suc k) (omega arith))
first_of_none (Some x ∷ xs) none = none 0 (omega arith)

-- the first answer after those that are None
pub first_behind_none : {X : Type 0} (xs ys : List (Option X)) (x : X) → ((k : ℕ) → k < length xs → get_or xs k None ≡ None) → first (xs ++ Some x ∷ ys) ≡ Some x
first_behind_none xs ys x none = first_append_none xs (Some x ∷ ys) (first_of_none xs none)
