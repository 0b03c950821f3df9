-- Lists that grow by an element or by a list.
use Rattle.std.proofs.Common.{◌≡◌, ◌∙◌, ◌+◌, ◌<◌, ◌≤◌, ℕ, suc, List, [], ◌∷◌, ◌++◌, length, get_or, sym, ap, subst, arith, append_assoc, length-append, ⊎_elim}
use Rattle.std.proofs.Math.{ListN.get_or-append, Seq.get_or-append_seam}
use Rattle.std.proofs.lemmas.Bool.{cases_lt}
use Rattle.kp_depth.specs.declared.ends.End.{End}
use Rattle.kp_depth.specs.Ends.{each_below}

pub each_more : (f : ℕ → List End) (front : List End) (i : ℕ) → (front ++ each_below f i) ++ f i ≡ front ++ each_below f (i + 1)
each_more f front i =
    let more : suc i ≡ i + 1 = omega arith in
    append_assoc front (each_below f i) (f i) ∙ ap (λ (k : ℕ). front ++ each_below f k) more

pub pushed : {A : Type 0} (P : ℕ → A → Type 0) (d : A) (xs ys : List A) (x : A) (n : ℕ) → length xs ≡ n → ((k : ℕ) → k < length xs → P k (get_or xs k d)) → P n x
    → ys ≡ xs ++ x ∷ [] → (length ys ≡ n + 1) × ((k : ℕ) → k < length ys → P k (get_or ys k d))
pushed {A} P d xs ys x n count each new same = (long, λ k h. subst (λ (zs : List A). P k (get_or zs k d)) (sym same) (go k h))
  where
    long : length ys ≡ n + 1
    long = let l = length-append xs (x ∷ []) in let s = ap (λ (zs : List A). length zs) same in omega (arith, l, s, count)

    last : get_or (xs ++ x ∷ []) n d ≡ x
    last = ap (λ (j : ℕ). get_or (xs ++ x ∷ []) j d) (sym count) ∙ get_or-append_seam xs x [] d

    go : (k : ℕ) → k < length ys → P k (get_or (xs ++ x ∷ []) k d)
    go k h =
        ⊎_elim
        (λ (l : k < length xs). subst (λ (y : A). P k y) (sym (get_or-append xs (x ∷ []) d k l)) (each k l))
        (λ (l : length xs ≤ k).
        let e : n ≡ k = omega (arith, l, h, long, count) in
        subst (λ (j : ℕ). P j (get_or (xs ++ x ∷ []) j d)) e (subst (λ (y : A). P n y) (sym last) new))
        (cases_lt k (length xs))
