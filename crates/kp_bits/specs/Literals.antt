-- What a byte string denotes: a decimal number, or a literal such as `8'h0b`, which is the number 11 in 8 bits.
--
-- A literal is a sized constant of Verilog (IEEE 1364-2005, clause 3.5.1), here without spaces, and with leading zeros in the width allowed.
use Rattle.std.specs.Prelude.{ℕ, ◌+◌, ◌*◌, ◌^◌, Bool, false, ◌&&◌, ◌||◌, nat_lt, nat_le, ◌==◌, if◌then◌else◌, List, [], ◌∷◌, Option, Some, None, Result, Ok, Err, fold, length, take, drop, position, ◌≡◌, ◌++◌, IsTrue}
use Rattle.std.specs.{List.list_all, Char.digit_value, Char.is_digit, Char.to_ascii_lowercase}
use Rattle.kp_bits.specs.{Word.Word, Word.word, declared.literal.Literal.Literal, declared.literal.LiteralFault.LiteralFault}
use Rattle.kp_bits.specs.declared.literal.LiteralFault.TheVariants.{BadDigit, TooBig, BadWidth}

-- the byte is a `'`
abbrev pub is_quote : ℕ → Bool
is_quote c = c == 39

-- the byte is a `_`
abbrev pub is_underscore : ℕ → Bool
is_underscore c = c == 95

-- one or more decimal digits, and nothing else
abbrev pub is_number : List ℕ → Bool
is_number run = nat_lt 0 (length run) && list_all (λ c. is_digit c 10) run

-- digits of the base, where `_` may occur anywhere but first
abbrev pub is_numeral : ℕ → List ℕ → Bool
is_numeral base [] = false
is_numeral base (c ∷ cs) = is_digit c base && list_all (λ d. is_digit d base || is_underscore d) cs

-- the number denoted once one more byte follows n; `_` is skipped
abbrev pub numeral_next : (base before byte : ℕ) → ℕ
numeral_next base n c = if is_underscore c then n else n * base + digit_value c

-- the number that digits denote in the base
abbrev pub numeral_value : ℕ → List ℕ → ℕ
numeral_value base digits = fold (numeral_next base) 0 digits

-- a number, if it fits in 64 bits
abbrev pub number_within : ℕ → Option ℕ
number_within n = if nat_lt n (2 ^ 64) then Some n else None

-- the number that a byte string denotes, if it is one and fits in 64 bits
abbrev pub number_of : List ℕ → Option ℕ
number_of run = if is_number run then number_within (numeral_value 10 run) else None

-- the base that a letter names: b, o, d and h, in either case
abbrev pub base_of : ℕ → Option ℕ
base_of letter = let c = to_ascii_lowercase letter in if c == 98 then Some 2 else (if c == 111 then Some 8 else (if c == 100 then Some 10 else (if c == 104 then Some 16 else None)))

-- the literal of these two numbers, if each fits in 64 bits
abbrev pub literal_within : ℕ → ℕ → Result Literal LiteralFault
literal_within width value = if nat_lt width (2 ^ 64) && nat_lt value (2 ^ 64) then Ok (record { width = width; value = value }) else Err TooBig

-- the literal with this width and these digits in the base, if a letter names one
abbrev pub literal_in_base : Option ℕ → List ℕ → List ℕ → Result Literal LiteralFault
literal_in_base None width digits = Err BadDigit
literal_in_base (Some base) width digits = if is_number width && is_numeral base digits then literal_within (numeral_value 10 width) (numeral_value base digits) else Err BadDigit

-- the literal of the text before the `'`, and the letter and the digits after it
abbrev pub literal_of_parts : List ℕ → List ℕ → Result Literal LiteralFault
literal_of_parts width [] = Err BadDigit
literal_of_parts width (letter ∷ digits) = literal_in_base (base_of letter) width digits

-- the literal of a byte string with its first `'` at this position, if it has one
abbrev pub literal_at : Option ℕ → List ℕ → Result Literal LiteralFault
literal_at None run = Err BadDigit
literal_at (Some quote) run = literal_of_parts (take quote run) (drop (quote + 1) run)

-- the literal that a byte string denotes: `BadDigit` if it has no such form, else `TooBig` if one of its numbers does not fit in 64 bits
abbrev pub literal_of : List ℕ → Result Literal LiteralFault
literal_of run = literal_at (position is_quote run) run

-- the word that a literal denotes: `BadWidth` if its width is not in 1 to 64, else `TooBig` if its value does not fit
abbrev pub fit_of : Literal → Result Word LiteralFault
fit_of a = if nat_le 1 a.width && nat_le a.width 64 then (if nat_lt a.value (2 ^ a.width) then Ok (word a.width a.value) else Err TooBig) else Err BadWidth

-- the form of a literal: a number, a `'`, a letter that names a base, and digits of that base
pub record IsLiteral (run : List ℕ) : Type 0 where
  pub width : List ℕ
  pub letter : ℕ
  pub base : ℕ
  pub digits : List ℕ
  pub joined : run ≡ width ++ 39 ∷ letter ∷ digits
  pub width_ok : IsTrue (is_number width)
  pub base_ok : base_of letter ≡ Some base
  pub digits_ok : IsTrue (is_numeral base digits)
