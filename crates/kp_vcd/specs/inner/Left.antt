-- The rest of a text.
use Rattle.std.specs.Prelude.{ℕ, List, [], take, drop}
use Rattle.kp_base.specs.{Place.place_after, declared.place.Place.Place}
use Rattle.kp_vcd.specs.Words.{Spot, words_from}

-- the tokens that are left, and the end of the text
pub record Left : Type 0 where
  pub words : List Spot
  pub end : Place

-- after the given number of bytes of a text
unfoldable pub left_at : List ℕ → ℕ → Left
left_at text i = record { words = words_from (take i text) [] (drop i text); end = place_after text }

-- the token after the given number of bytes
abbrev pub spot_at : List ℕ → ℕ → List ℕ → Spot
spot_at text start bytes = record { place = place_after (take start text); bytes = bytes }
