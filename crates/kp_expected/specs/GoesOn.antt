-- What can follow the beginning of a text.
use Rattle.std.specs.Prelude.{ℕ, ◌≡◌, ◌↔◌, List, ◌∷◌, ◌++◌, Bool, true, Some, slice_get}
use Rattle.kp_grammar.specs.Grammar.{Grammar, IsSentence}

-- Some sentence of the name begins with these tokens, and this one after them.
abbrev pub GoesOn : {W B X S : Type 0} → Grammar W B X S → ℕ → S → List X → X → Type 0
GoesOn {W} {B} {X} {S} g n v front t = (rest : List X) × (built : S) × IsSentence g n v (front ++ t ∷ rest) built

-- For each of the items the answer at its index is whether it has the property.
abbrev pub AreAnswers : {A : Type 0} → (A → Type 0) → List A → List Bool → Type 0
AreAnswers {A} P items answers = (k : ℕ) (a : A) → slice_get items k ≡ Some a → (b : Bool) × (slice_get answers k ≡ Some b) × ((b ≡ true) ↔ P a)
