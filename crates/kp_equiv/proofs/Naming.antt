-- Tables of names with their indices.
use Rattle.std.proofs.Common.{◌≡◌, ◌∙◌, ℕ, ◌+◌, ◌<◌, ◌||◌, Bool, true, false, cond, List, [], ◌∷◌, length, map, get_or, drop, refl, sym, ap, subst, arith, Option, None, Some, MatchOption}
use Rattle.std.{proofs.lemmas.List.drop_more, specs.Prelude.nat_eq, specs.Prelude.not, specs.Option.is_some, specs.Map.lookup}
use Rattle.kp_net.specs.Names.{same, among}
use Rattle.kp_equiv.specs.{Classes.place, inner.Indexed.index_from, inner.Indexed.HasIndices}

nat_same : (a b : ℕ) → nat_eq a b ≡ nat_eq b a
nat_same a b = grind arith

turned : (xs ys : List ℕ) → same xs ys ≡ same ys xs
turned [] [] = refl
turned [] (y ∷ ys) = refl
turned (x ∷ xs) [] = refl
turned (x ∷ xs) (y ∷ ys) = rw (nat_same x y, turned xs ys) refl

-- one more name before the others
pub one_before : {X : Type 0} (f : X → List ℕ) (xs : List X) (i : ℕ) (x : X) (old new : List (List ℕ × ℕ)) → i < length xs → x ≡ get_or xs i x
    → ((q : List ℕ) → lookup (same q) new ≡ cond (same (f x) q) (Some i) (lookup (same q) old)) → HasIndices old (i + 1) (map f (drop (i + 1) xs)) → HasIndices new i (map f (drop i xs))
one_before f xs i x old new l is put h =
    subst (λ ys. HasIndices new i (map f ys)) (sym (drop_more xs i x l ∙ ap (λ y. y ∷ drop (i + 1) xs) (sym is)))
    (record { index = λ q. put q ∙ ap (λ b. cond b (Some i) (lookup (same q) old)) (turned (f x) q) ∙ ap (cond (same q (f x)) (Some i)) (h.index q) })

-- what a look-up finds
abbrev Placed : ℕ → List (List ℕ) → List ℕ → Option ℕ → Type 0
Placed k ns q r = MatchOption r (place ns q ≡ length ns) (λ i. (i < k + length ns) × (k + place ns q ≡ i))

placed_from : (k : ℕ) (ns : List (List ℕ)) (q : List ℕ) → Placed k ns q (index_from k ns q)
placed_from k [] q = refl
placed_from k (n ∷ ns) q = by (same q n) (index_from (k + 1) ns q) (placed_from (k + 1) ns q)
  where
    by : (b : Bool) (r : Option ℕ) → Placed (k + 1) ns q r
        → MatchOption (cond b (Some k) r) (cond (not b) (1 + place ns q) 0 ≡ length (n ∷ ns)) (λ i. (i < k + length (n ∷ ns)) × (k + cond (not b) (1 + place ns q) 0 ≡ i))
    by true r h = (omega arith, omega arith)
    by false None h = omega (arith, h)
    by false (Some i) h = let l = h.0 in let e = h.1 in (omega (arith, l), omega (arith, e))

pub placed : (entries : List (List ℕ × ℕ)) (ns : List (List ℕ)) (q : List ℕ) (r : Option ℕ) → HasIndices entries 0 ns → r ≡ lookup (same q) entries
    → MatchOption r (place ns q ≡ length ns) (λ i. (i < length ns) × (place ns q ≡ i))
placed entries ns q r h e = by r (subst (Placed 0 ns q) (sym (e ∙ h.index q)) (placed_from 0 ns q))
  where
    by : (o : Option ℕ) → Placed 0 ns q o → MatchOption o (place ns q ≡ length ns) (λ i. (i < length ns) × (place ns q ≡ i))
    by None p = p
    by (Some i) p = let l = p.0 in let f = p.1 in (omega (arith, l), omega (arith, f))

present_from : (k : ℕ) (ns : List (List ℕ)) (q : List ℕ) → is_some (index_from k ns q) ≡ among ns q
present_from k [] q = refl
present_from k (n ∷ ns) q = by (same q n) (index_from (k + 1) ns q) (present_from (k + 1) ns q)
  where
    by : (b : Bool) (r : Option ℕ) → is_some r ≡ among ns q → is_some (cond b (Some k) r) ≡ (b || among ns q)
    by true r h = refl
    by false r h = h

pub present : (entries : List (List ℕ × ℕ)) (ns : List (List ℕ)) (q : List ℕ) → HasIndices entries 0 ns → is_some (lookup (same q) entries) ≡ among ns q
present entries ns q h = ap is_some (h.index q) ∙ present_from 0 ns q
