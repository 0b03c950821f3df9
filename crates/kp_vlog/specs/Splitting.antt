-- WHERE THE FIRST OF TWO MODULES IN ONE TEXT ENDS.
use Rattle.std.specs.Prelude.{ℕ, ◌+◌, ◌≡◌, List, length, drop}
use Rattle.kp_vlog.specs.{declared.token.Keyword.Keyword, Tokens.Word, Tokens.keyword, Tokens.front, Tokens.finish, Tokens.skips, Tokens.takes, Tokens.broken}

-- The first module of the text that is left at an offset ends at this offset: after the first keyword `endmodule` that is a token with no invalid
-- token before it, or else at the end of the text.
pub data FirstEnds : ℕ → List ℕ → ℕ → Type 0 where
  closes : {at : ℕ} {text : List ℕ} (n : ℕ) → front text ≡ takes (keyword Keyword.Endmodule) n → FirstEnds at text (at + n)
  over : {at : ℕ} {text : List ℕ} → front text ≡ finish → FirstEnds at text (at + length text)
  faulty : {at : ℕ} {text : List ℕ} → front text ≡ broken → FirstEnds at text (at + length text)
  past_gap : {at : ℕ} {text : List ℕ} {to : ℕ} (n : ℕ) → front text ≡ skips n → FirstEnds (at + n) (drop n text) to → FirstEnds at text to
  past_token : {at : ℕ} {text : List ℕ} {to : ℕ} (w : Word) (n : ℕ) → front text ≡ takes w n → (w ≡ keyword Keyword.Endmodule → ⊥)
      → FirstEnds (at + n) (drop n text) to → FirstEnds at text to
