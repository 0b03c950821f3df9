-- Texts that are made of pieces.
use Rattle.std.proofs.Common.{◌≡◌, ℕ, List, [], ◌∷◌, refl}
use Rattle.std.specs.Prelude.{flat_map}

pub three_pieces : {X : Type 0} (text : X → List ℕ) (a b c : X) (k l m : List ℕ) → text a ≡ k → text b ≡ l → text c ≡ m
    → flat_map text (a ∷ b ∷ c ∷ []) ≡ flat_map (λ part. part) (k ∷ l ∷ m ∷ [])
three_pieces text a b c k l m first second third = rw (first, second, third) refl
