-- Words (bit vectors), and the operations on them, as arithmetic on natural numbers.
--
-- The meaning is that of Verilog's operators on unsigned vectors (IEEE 1364-2005, clause 5), where both operands and
-- the result have one width unless a definition says otherwise, and the result is truncated to the width. At other
-- widths each definition still yields some word, so that a meaning that is built from them is total.
use Rattle.std.specs.Prelude.{ℕ, ◌+◌, ◌-◌, ◌*◌, ◌/◌, ◌%◌, ◌^◌, ◌<◌, ◌≤◌, nat_lt, if◌then◌else◌, ◌==◌, bit_and, bit_or, bit_xor, ℤ, pos, neg_ℤ}

-- a word: its number of bits, and its value as a number
pub record Word : Type 0 where
  pub width : ℕ
  pub value : ℕ

-- the word of this width and this value
abbrev pub word : ℕ → ℕ → Word
word width value = record { width = width; value = value }

-- the width is in 1 to 64, and the value fits it
pub record IsWord (a : Word) : Type 0 where
  pub positive : 1 ≤ a.width
  pub at_most : a.width ≤ 64
  pub fits : a.value < 2 ^ a.width

-- `~a`: 1 for each 0 and 0 for each 1, so that a and `~a` add up to the greatest number
abbrev pub not_of : Word → Word
not_of a = word a.width (2 ^ a.width - 1 - a.value)

-- `a & b`: 1 where both bits are 1
abbrev pub and_of : Word → Word → Word
and_of a b = word a.width (bit_and a.value b.value)

-- `a | b`: 1 where one bit or both are 1
abbrev pub or_of : Word → Word → Word
or_of a b = word a.width (bit_or a.value b.value)

-- `a ^ b`: 1 where one bit is 1 and the other is 0
abbrev pub xor_of : Word → Word → Word
xor_of a b = word a.width (bit_xor a.value b.value)

-- `a + b`, modulo 2 to the width
abbrev pub add_of : Word → Word → Word
add_of a b = word a.width ((a.value + b.value) % 2 ^ a.width)

-- `a - b`, modulo 2 to the width
abbrev pub sub_of : Word → Word → Word
sub_of a b = word a.width ((a.value + 2 ^ a.width - b.value) % 2 ^ a.width)

-- `a * b`, modulo 2 to the width
abbrev pub mul_of : Word → Word → Word
mul_of a b = word a.width (a.value * b.value % 2 ^ a.width)

-- `a == b`: one bit, 1 if they are equal
abbrev pub eq_of : Word → Word → Word
eq_of a b = word 1 (if a.value == b.value then 1 else 0)

-- `a < b`: one bit, 1 if a is below b
abbrev pub lt_of : Word → Word → Word
lt_of a b = word 1 (if nat_lt a.value b.value then 1 else 0)

-- `a << b`: b zeros are shifted in at the low end, and the result is 0 if b is at least the width
abbrev pub shl_of : Word → Word → Word
shl_of a b = word a.width (if nat_lt b.value a.width then a.value * 2 ^ b.value % 2 ^ a.width else 0)

-- `a >> b`: b zeros are shifted in at the high end, and the result is 0 if b is at least the width
abbrev pub shr_of : Word → Word → Word
shr_of a b = word a.width (if nat_lt b.value a.width then a.value / 2 ^ b.value else 0)

-- `test ? a : b`: a where the test is 1, else b
abbrev pub mux_of : Word → Word → Word → Word
mux_of test a b = if test.value == 1 then a else b

-- `{high, low}`: the bits of high, and then those of low
abbrev pub concat_of : Word → Word → Word
concat_of high low = word (high.width + low.width) (high.value * 2 ^ low.width + low.value)

-- `a[hi:lo]`: the bits from position hi down to position lo, where the lowest bit has position 0
abbrev pub slice_of : Word → ℕ → ℕ → Word
slice_of a hi lo = word (hi + 1 - lo) (a.value / 2 ^ lo % 2 ^ (hi + 1 - lo))

-- `zext(a, width)`: the same number in more bits
abbrev pub zext_of : Word → ℕ → Word
zext_of a width = word width a.value

-- `sext(a, width)`: each new bit is the highest bit of a, so that the number in two's complement stays the same
abbrev pub sext_of : Word → ℕ → Word
sext_of a width = word width (if nat_lt a.value (2 ^ (a.width - 1)) then a.value else a.value + (2 ^ width - 2 ^ a.width))

-- the number that a denotes in two's complement: negative if its highest bit is 1
abbrev pub signed_of : Word → ℤ
signed_of a = if nat_lt a.value (2 ^ (a.width - 1)) then pos a.value else neg_ℤ (pos (2 ^ a.width - a.value))
