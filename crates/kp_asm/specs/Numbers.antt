-- The numbers and the registers that tokens denote.
use Rattle.std.specs.Prelude.{ℕ, ◌-◌, ◌%◌, ◌^◌, ◌==◌, ◌&&◌, nat_le, List, [], ◌∷◌, length, drop, Bool, false, if◌then◌else◌, Option, Some, None, unwrap_or}
use Rattle.std.specs.List.{list_all}
use Rattle.kp_base.specs.Characters.{is_digit}
use Rattle.kp_bits.specs.Literals.{numeral_value, number_within, number_of}

-- it begins with `-`
abbrev pub is_negative : List ℕ → Bool
is_negative [] = false
is_negative (first ∷ rest) = first == 45

-- it begins with `0x`
abbrev pub is_hexadecimal : List ℕ → Bool
is_hexadecimal (first ∷ second ∷ rest) = first == 48 && second == 120
is_hexadecimal _ = false

-- the absolute value of a number, if it fits 64 bits
abbrev pub magnitude : List ℕ → Option ℕ
magnitude run =
    if is_hexadecimal run then number_within (numeral_value 16 (drop 2 run))
    else if is_negative run then number_within (numeral_value 10 (drop 1 run))
    else number_within (numeral_value 10 run)

-- there is a number, and it is at most the limit
abbrev pub is_at_most : Option ℕ → ℕ → Bool
is_at_most None limit = false
is_at_most (Some n) limit = nat_le n limit

-- a number is in -low to high
abbrev pub in_range : ℕ → ℕ → List ℕ → Bool
in_range low high run = is_at_most (magnitude run) (if is_negative run then low else high)

-- minus a number, in two's complement
abbrev pub negated : (width number : ℕ) → ℕ
negated width n = (2 ^ width - n % 2 ^ width) % 2 ^ width

-- a number in this many bits: itself modulo 2 to the width
abbrev pub number : ℕ → List ℕ → ℕ
number width run = if is_negative run then negated width (unwrap_or (magnitude run) 0) else unwrap_or (magnitude run) 0 % 2 ^ width

-- `r` and 1 to 20 decimal digits
abbrev pub is_register : List ℕ → Bool
is_register [] = false
is_register (first ∷ digits) = first == 114 && nat_le 1 (length digits) && nat_le (length digits) 20 && list_all is_digit digits

-- the number of a register is at most 31
abbrev pub is_low : List ℕ → Bool
is_low run = is_at_most (number_of (drop 1 run)) 31

-- the number of a register, in five bits
abbrev pub register : List ℕ → ℕ
register run = unwrap_or (number_of (drop 1 run)) 0 % 32
