-- Lists in which one element is replaced, or that get one more.
use Rattle.std.proofs.Common.{◌≡◌, ◌≢◌, ℕ, ◌<◌, ◌≤◌, List, [], ◌∷◌, ◌++◌, length, get_or, set, refl, sym, subst, arith, ⊎_elim}
use Rattle.std.proofs.lemmas.{Bool.cases_lt, Bool.cases_eq, List.get_or-set_other, List.get_or_append_left, List.get_or_push, List.length_push}
use Rattle.std.proofs.lemmas.Grind.{get_or-set_at}

-- a property of the elements of a list in which one is replaced
pub set_has : {X : Type 0} (P : ℕ → X → Type 0) (xs : List X) (i : ℕ) (y d : X) (j : ℕ) → i < length xs → (j ≡ i → P j y) → (j ≢ i → P j (get_or xs j d)) → P j (get_or (set xs i y) j d)
set_has P xs i y d j h here other =
    ⊎_elim
    (λ (e : j ≡ i). subst (P j) (sym (get_or-set_at xs i j y d e h)) (here e))
    (λ (apart : j ≢ i). subst (P j) (sym (get_or-set_other xs i j y d apart)) (other apart))
    (cases_eq j i)

-- of the elements of a list and one more
pub each_more : {X : Type 0} (xs : List X) (x d : X) (P : ℕ → X → Type 0) → ((k : ℕ) → k < length xs → P k (get_or xs k d)) → P (length xs) x
    → (k : ℕ) → k < length (xs ++ x ∷ []) → P k (get_or (xs ++ x ∷ []) k d)
each_more xs x d P old new k l =
    ⊎_elim
    (λ (low : k < length xs). subst (P k) (sym (get_or_append_left xs (x ∷ []) d k low)) (old k low))
    (λ (high : length xs ≤ k). let e : length xs ≡ k = omega (arith, l, length_push xs x) in
    subst (P k) (sym (get_or_push xs x d k e)) (subst (λ n. P n x) e new))
    (cases_lt k (length xs))

-- and of one of them
pub some_more : {X : Type 0} (xs : List X) (x d : X) (P : X → Type 0) → (k : ℕ) × (k < length xs) × P (get_or xs k d) → (k : ℕ) × (k < length (xs ++ x ∷ [])) × P (get_or (xs ++ x ∷ []) k d)
some_more xs x d P m = let l = m.1 in (m.0, omega (arith, l, length_push xs x), subst P (sym (get_or_append_left xs (x ∷ []) d m.0 l)) m.2)

pub some_last : {X : Type 0} (xs : List X) (x d : X) (P : X → Type 0) → P x → (k : ℕ) × (k < length (xs ++ x ∷ [])) × P (get_or (xs ++ x ∷ []) k d)
some_last xs x d P h = (length xs, omega (arith, length_push xs x), subst P (sym (get_or_push xs x d (length xs) refl)) h)
