-- THE TOKENS OF A TEXT, each with its position.
use Rattle.std.specs.Prelude.{ℕ, ◌==◌, ◌||◌, Bool, List, [], ◌∷◌, ◌++◌, if◌then◌else◌}
use Rattle.kp_base.specs.{Place.place_after, declared.place.Place.Place}

-- space, tab, carriage return and line feed separate tokens
abbrev pub is_layout : ℕ → Bool
is_layout byte = byte == 32 || byte == 9 || byte == 13 || byte == 10

pub record Spot : Type 0 where
  pub place : Place
  pub bytes : List ℕ

-- a token that ends here, after this prefix of the text; without bytes it is none
abbrev pub ended : List ℕ → List ℕ → List Spot → List Spot
ended front [] spots = spots
ended front (b ∷ bs) spots = record { place = place_after front; bytes = b ∷ bs } ∷ spots

-- the tokens of the rest of a text, if these bytes of a token have been read already after a prefix of the text
abbrev pub words_from : List ℕ → List ℕ → List ℕ → List Spot
words_from front bytes [] = ended front bytes []
words_from front bytes (b ∷ rest) =
    if is_layout b then ended front bytes (words_from (front ++ (bytes ++ b ∷ [])) [] rest) else words_from front (bytes ++ b ∷ []) rest

abbrev pub words_of : List ℕ → List Spot
words_of text = words_from [] [] text
