-- The words of targets, each with its target's width.
use Rattle.std.specs.Prelude.{◌≡◌, ℕ, ◌^◌, ◌<◌, List, [], ◌∷◌, length, slice_index}
use Rattle.kp_machine.specs.Slots.{Slot}

-- the words of a target: one for each address, each with the target's width
pub record FitsSlot (s : Slot) (words : List ℕ) : Type 0 where
  pub count : length words ≡ 2 ^ s.address
  pub fits : (a : ℕ) → slice_index words a < 2 ^ s.width

-- the words of all of these targets
abbrev pub FitSlots : List Slot → List (List ℕ) → Type 0
FitSlots [] words = words ≡ []
FitSlots (s ∷ ss) [] = ⊥
FitSlots (s ∷ ss) (w ∷ words) = FitsSlot s w × FitSlots ss words
