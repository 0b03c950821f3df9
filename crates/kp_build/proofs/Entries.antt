-- A map in which a name gets a value, seen by a look-up.
use Rattle.std.proofs.Common.{◌≡◌, ◌∙◌, ℕ, List, [], ◌∷◌, Some, Bool, true, false, cond, nat_eq, refl, ap, sym}
use Rattle.std.specs.{Map.lookup, Cmp.Lexicographic.pointwise, Cmp.Lexicographic.nat_list_eq_equiv}
use Rattle.indexmap.specs.IndexMap.{insert_entry}

by_test : {G : Type 0} (b : Bool) → (b ≡ true → G) → (b ≡ false → G) → G
by_test true then_so else_so = then_so refl
by_test false then_so else_so = else_so refl

swapped : {X : Type 0} (a b : Bool) (x y r : X) → (a ≡ true → b ≡ false) → cond b y (cond a x r) ≡ cond a x (cond b y r)
swapped true true x y r h = cc (h refl)
swapped true false x y r h = refl
swapped false b x y r h = refl

twice : {X : Type 0} (a b : Bool) (x y r : X) → a ≡ b → cond b x r ≡ cond a x (cond b y r)
twice true true x y r h = refl
twice false false x y r h = refl
twice true false x y r h = cc
twice false true x y r h = cc

module _ {V : Type 0} (n : List ℕ) (v : V) (q : List ℕ) where
  pub lookup-with_entry : (es : List (List ℕ × V))
      → lookup (pointwise nat_eq q) (insert_entry (pointwise nat_eq) es n v) ≡ cond (pointwise nat_eq q n) (Some v) (lookup (pointwise nat_eq q) es)
  lookup-with_entry [] = refl
  lookup-with_entry (e ∷ es) = by_test (pointwise nat_eq n e.0)
      (λ y.
      ap (λ b. lookup (pointwise nat_eq q) (cond b ((e.0, v) ∷ es) (e ∷ insert_entry (pointwise nat_eq) es n v))) y
      ∙ twice (pointwise nat_eq q n) (pointwise nat_eq q e.0) (Some v) (Some e.1) (lookup (pointwise nat_eq q) es)
      (nat_list_eq_equiv.symm q n ∙ nat_list_eq_equiv.congr n e.0 q y ∙ nat_list_eq_equiv.symm e.0 q))
      (λ m.
      ap (λ b. lookup (pointwise nat_eq q) (cond b ((e.0, v) ∷ es) (e ∷ insert_entry (pointwise nat_eq) es n v))) m
      ∙ ap (cond (pointwise nat_eq q e.0) (Some e.1)) (lookup-with_entry es)
      ∙ swapped (pointwise nat_eq q n) (pointwise nat_eq q e.0) (Some v) (Some e.1) (lookup (pointwise nat_eq q) es)
      (λ y. nat_list_eq_equiv.congr q n e.0 y ∙ m))
