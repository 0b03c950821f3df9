-- What a code means in terms of a plan whose names have values of known widths.
use Rattle.std.specs.Prelude.{◌≡◌, ◌≤◌, ℕ, List, [], ◌∷◌, Option, Some, None}
use Rattle.kp_bits.specs.Word.{Word, word, IsWord}
use Rattle.kp_seq_plan.specs.{Plans.Slots, declared.code.Typed.Typed, Codes.value_of, Codes.space_of}

-- a value exists, and it is the word of this width and this number
pub record Holds (found : Option Word) (width value : ℕ) : Type 0 where
  pub there : found ≡ Some (word width value)
  pub word : IsWord (word width value)

-- the value under an index, if its width is known; without a width there is no value
abbrev pub Suits : Option ℕ → Option Word → ℕ → Type 0
Suits None found value = found ≡ None
Suits (Some width) found value = Holds found width value

-- the same for each index
abbrev pub AllSuit : List (Option ℕ) → Slots → List ℕ → Type 0
AllSuit [] slots values = (slots ≡ []) × (values ≡ [])
AllSuit (w ∷ ws) [] values = ⊥
AllSuit (w ∷ ws) (s ∷ slots) [] = ⊥
AllSuit (w ∷ ws) (s ∷ slots) (v ∷ values) = Suits w s v × AllSuit ws slots values

-- a code computes the plan's values, whenever the values under the indices are words of these widths, in at most this much scratch space
pub record IsTyped (widths : List (Option ℕ)) (found : Slots → Option Word) (room : ℕ) (c : Typed) : Type 0 where
  pub positive : 1 ≤ c.width
  pub at_most : c.width ≤ 64
  pub value : (slots : Slots) (values : List ℕ) → AllSuit widths slots values → Holds (found slots) c.width (value_of c.code values)
  pub space : space_of c.code ≤ room

-- or the plan has no value there
abbrev pub Gives : List (Option ℕ) → (Slots → Option Word) → ℕ → Option Typed → Type 0
Gives widths found room None = (slots : Slots) (values : List ℕ) → AllSuit widths slots values → found slots ≡ None
Gives widths found room (Some c) = IsTyped widths found room c
