-- The textual form of a word: the number 11 in 8 bits is `8'h0b`, a sized constant of Verilog (IEEE 1364-2005, clause 3.5.1).
use Rattle.std.specs.Prelude.{ℕ, zero, suc, ◌+◌, ◌/◌, ◌%◌, ◌^◌, List, [], ◌∷◌, ◌++◌, map, codes}
use Rattle.std.specs.{Char.digit_char, Int.Digits.digits_of}
use Rattle.kp_bits.specs.Word.{Word}

-- a number in decimal, without leading zeros
abbrev pub decimal_digits : ℕ → List ℕ
decimal_digits n = map digit_char (digits_of 10 n)

-- the n lowest hexadecimal digits of a number, the highest first
abbrev pub hex_digits : ℕ → ℕ → List ℕ
hex_digits zero n = []
hex_digits (suc count) n = digit_char (n / 16 ^ count % 16) ∷ hex_digits count n

-- the number of hexadecimal digits of n bits: a quarter, rounded up
abbrev pub quarters : ℕ → ℕ
quarters width = (width + 3) / 4

-- the canonical form: the width in decimal, `'h`, and the value with a lower-case hexadecimal digit for each four bits of the width, rounded up
abbrev pub spelling : Word → List ℕ
spelling a = decimal_digits a.width ++ (codes "'h" ++ hex_digits (quarters a.width) a.value)
