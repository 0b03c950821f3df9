-- The length of the token at the head of a text.
use Rattle.std.specs.Prelude.{ℕ, ◌+◌, ◌==◌, ◌&&◌, ◌||◌, Bool, List, [], ◌∷◌, drop, take, if◌then◌else◌}
use Rattle.kp_base.specs.{Characters.run_length, Characters.is_word, declared.place.Place.Place}
use Rattle.kp_view_excerpt.specs.Lines.{from_place}

-- `->`, `==`, `<<` and `>>`
abbrev pub is_pair : ℕ → ℕ → Bool
is_pair a b = (a == 45 && b == 62) || (a == b && (a == 61 || a == 60 || a == 62))

-- an operator of two characters, or one byte
abbrev pub sign_length : List ℕ → ℕ
sign_length [] = 0
sign_length (a ∷ []) = 1
sign_length (a ∷ b ∷ rest) = if is_pair a b then 2 else 1

-- what follows the width of a literal: a quote, and letters and digits
abbrev pub quoted_length : List ℕ → ℕ
quoted_length [] = 0
quoted_length (byte ∷ rest) = if byte == 39 then 1 + run_length is_word rest else 0

-- THE TOKEN: letters and digits, with what is quoted after them, as `4'b01`; or an operator
abbrev pub word_or_sign : ℕ → List ℕ → ℕ
word_or_sign word text = if word == 0 then sign_length text else word + quoted_length (drop word text)

abbrev pub token_length : List ℕ → ℕ
token_length text = word_or_sign (run_length is_word text) text

-- THE TOKEN at a place of a text
abbrev pub token_at : List ℕ → Place → List ℕ
token_at text place = take (token_length (from_place text place)) (from_place text place)
