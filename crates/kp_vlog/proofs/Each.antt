-- Lists that represent parts one by one.
use Rattle.std.proofs.Common.{◌≡◌, ◌∙◌, ℕ, List, ◌∷◌, ◌++◌, get_or, map, true, refl, ap}
use Rattle.std.proofs.lemmas.Bool.{cond-true, cond-false, or_left, or_right}
use Rattle.std.proofs.lemmas.List.Elements.{All-nil, All-cons, All-head, All-tail}
use Rattle.std.specs.Prelude.{All, if◌then◌else◌}
use Rattle.kp_net.specs.Names.{same, among, Differ}
use Rattle.kp_vlog.proofs.{Tests.same_refl, Sentence.ShowsEach, Sentence.none_shown, Sentence.one_shown, Distinct.apart_all}

module _ {X Y : Type 0} (make : X → (ℕ → ℕ) → Y) where
  -- what passes over each of them passes over all
  pub past_each : {A : Type 0} (g : List Y → A) → ((x : X) (p : ℕ → ℕ) (zs : List Y) → g (make x p ∷ zs) ≡ g zs) → (xs : List X) (ys zs : List Y) → ShowsEach make xs ys → g (ys ++ zs) ≡ g zs
  past_each g one _ _ zs none_shown = refl
  past_each g one _ _ zs (one_shown {x = x} {xs = xs} {ys = ys} p h) = one x p (ys ++ zs) ∙ past_each g one xs ys zs h

  -- what is collected from each of them
  pub map_each : {V : Type 0} (g : List Y → List V) (v : X → V) (Fine : X → Type 0) → ((x : X) (p : ℕ → ℕ) (zs : List Y) → Fine x → g (make x p ∷ zs) ≡ v x ∷ g zs)
      → (xs : List X) (ys zs : List Y) → ShowsEach make xs ys → All Fine xs → g (ys ++ zs) ≡ map v xs ++ g zs
  map_each g v Fine one _ _ zs none_shown k = refl
  map_each g v Fine one _ _ zs (one_shown {x = x} {xs = xs} {ys = ys} p h) k =
      one x p (ys ++ zs) (All-head Fine x xs k) ∙ ap (λ t. v x ∷ t) (map_each g v Fine one xs ys zs h (All-tail Fine x xs k))

  module _ (name : X → List ℕ) where
    -- names that each of them adds
    pub among_each : (g : List Y → List (List ℕ)) → ((x : X) (p : ℕ → ℕ) (zs : List Y) → g (make x p ∷ zs) ≡ name x ∷ g zs) → (xs : List X) (ys zs : List Y) → ShowsEach make xs ys
        → All (λ x. among (g (ys ++ zs)) (name x) ≡ true) xs
    among_each g one _ _ zs none_shown = All-nil (λ x. among (g zs) (name x) ≡ true)
    among_each g one _ _ zs (one_shown {x = x} {xs = xs} {ys = ys} p h) =
        All-cons (λ z. among (g (make x p ∷ (ys ++ zs))) (name z) ≡ true) x xs (ap (λ t. among t (name x)) (one x p (ys ++ zs)) ∙ or_left _ _ (same_refl (name x)))
        (λ i d l. let n = name (get_or xs i d) in ap (λ t. among t n) (one x p (ys ++ zs)) ∙ or_right (same n (name x)) _ (among_each g one xs ys zs h i d l))

    -- what is found under each of names that differ
    pub found_each : {V : Type 0} (look : List Y → List ℕ → V) (value : X → V) → ((x : X) (p : ℕ → ℕ) (zs : List Y) (n : List ℕ) → look (make x p ∷ zs) n ≡ (if same n (name x) then value x else look zs n))
        → (xs : List X) (ys zs : List Y) → ShowsEach make xs ys → Differ (map name xs) → All (λ x. look (ys ++ zs) (name x) ≡ value x) xs
    found_each look value one _ _ zs none_shown d = All-nil (λ x. look zs (name x) ≡ value x)
    found_each look value one _ _ zs (one_shown {x = x} {xs = xs} {ys = ys} p h) d =
        All-cons (λ z. look (make x p ∷ (ys ++ zs)) (name z) ≡ value z) x xs (one x p (ys ++ zs) (name x) ∙ cond-true (same (name x) (name x)) (value x) (look (ys ++ zs) (name x)) (same_refl (name x)))
        (λ i e l. let n = name (get_or xs i e) in
        one x p (ys ++ zs) n ∙ cond-false (same n (name x)) (value x) (look (ys ++ zs) n) (apart_all name (name x) xs d.0 i e l) ∙ found_each look value one xs ys zs h d.1 i e l)
