-- The values of codes, in order, and the scratch space that they need.
use Rattle.std.proofs.Common.{◌≡◌, ◌∙◌, ℕ, ◌+◌, ◌<◌, ◌≤◌, List, [], ◌∷◌, ◌++◌, length, get_or, set, take, map, ap, sym, arith}
use Rattle.std.proofs.lemmas.List.{take_more_set, map_more, Elements.All-cons, Sums.sum_by-cons}
use Rattle.std.specs.Prelude.{All, sum_by}

-- if the space suffices for all together, it suffices for each one
pub each_fits : {X : Type 0} (f : X → ℕ) (xs : List X) (r : ℕ) → sum_by f xs ≤ r → All (λ x. f x ≤ r) xs
each_fits f [] r h = λ k d l. absurd (omega arith)
each_fits f (x ∷ xs) r h =
    let s = sum_by-cons f x xs in
    All-cons (λ y. f y ≤ r) x xs (omega arith) (each_fits f xs r (omega arith))

-- one more number of a list
pub filled_more : {X : Type 0} (f : X → ℕ) (es : List X) (vs : List ℕ) (i : ℕ) (e : X) (v : ℕ) → i < length es → length es ≡ length vs → e ≡ get_or es i e
    → v ≡ f e → take i vs ≡ map f (take i es) → take (i + 1) (set vs i v) ≡ map f (take (i + 1) es)
filled_more {X} f es vs i e v l n is h so =
    take_more_set vs i v (omega arith)
    ∙ ap (λ xs. xs ++ v ∷ []) so
    ∙ ap (λ x. map f (take i es) ++ x ∷ []) (h ∙ ap f is)
    ∙ sym (map_more f es i e l)
