-- The words of the sample processors: the fields of an instruction, and numbers of 32 bits.
use Rattle.std.specs.Prelude.{ℕ, ◌+◌, ◌-◌, ◌/◌, ◌%◌, ◌^◌, Bool, true, false, not, nat_lt, if◌then◌else◌}

-- the bits of a number from position hi down to position lo
abbrev pub bits : (number high low : ℕ) → ℕ
bits n hi lo = n / 2 ^ lo % 2 ^ (hi + 1 - lo)

-- the fields of an instruction
pub record Fields : Type 0 where
  pub op : ℕ
  pub rs1 : ℕ
  pub rs2 : ℕ
  pub rd : ℕ
  pub fn : ℕ
  pub imm : ℕ
  pub far : ℕ

abbrev pub fields : ℕ → Fields
fields i = record { op = bits i 31 26; rs1 = bits i 25 21; rs2 = bits i 20 16; rd = bits i 15 11; fn = bits i 5 0; imm = bits i 15 0; far = bits i 25 0 }

-- the number of the word at an address
abbrev pub word_at : ℕ → ℕ
word_at address = bits address 11 2

-- the low 32 bits
abbrev pub low : ℕ → ℕ
low n = n % 2 ^ 32

-- a number of n bits in two's complement, in 32 bits
abbrev pub extended : (bits number : ℕ) → ℕ
extended n x = if nat_lt x (2 ^ (n - 1)) then x else x + (2 ^ 32 - 2 ^ n)

-- whether a is below b, both in two's complement
abbrev pub is_negative : ℕ → Bool
is_negative a = not (nat_lt a (2 ^ 31))

abbrev pub is_below : ℕ → ℕ → Bool
is_below a b = if is_negative a then (if is_negative b then nat_lt a b else true) else (if is_negative b then false else nat_lt a b)

abbrev pub one_if : Bool → ℕ
one_if b = if b then 1 else 0
