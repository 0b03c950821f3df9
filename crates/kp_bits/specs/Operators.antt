-- The table of the binary operators of the languages, and concatenation.
use Rattle.std.specs.Prelude.{ℕ, ◌+◌, ◌-◌, ◌*◌, ◌/◌, ◌%◌, ◌^◌, ◌==◌, nat_lt, if◌then◌else◌, bit_and, bit_or, bit_xor, Bool, true, false, List, [], ◌∷◌, fold, Option, Some, None, codes}
use Rattle.kp_bits.specs.Word.{Word, word, and_of, or_of, xor_of, add_of, sub_of, mul_of, eq_of, lt_of, shl_of, shr_of, concat_of}
use Rattle.kp_bits.specs.declared.operator.BinOp.{BinOp}

-- the default for an expression without a value; no accepted job evaluates one
abbrev pub no_word : Word
no_word = word 0 0

-- how it is written
abbrev pub symbol : BinOp → List ℕ
symbol BinOp.And = codes "&"
symbol BinOp.Or = codes "|"
symbol BinOp.Xor = codes "^"
symbol BinOp.Add = codes "+"
symbol BinOp.Sub = codes "-"
symbol BinOp.Mul = codes "*"
symbol BinOp.Eq = codes "=="
symbol BinOp.Lt = codes "<"
symbol BinOp.Shl = codes "<<"
symbol BinOp.Shr = codes ">>"

-- `<<` and `>>`, whose right operand may have any width
abbrev pub is_shift : BinOp → Bool
is_shift BinOp.Shl = true
is_shift BinOp.Shr = true
is_shift _ = false

-- `==` and `<`, whose result has one bit
abbrev pub is_comparison : BinOp → Bool
is_comparison BinOp.Eq = true
is_comparison BinOp.Lt = true
is_comparison _ = false

-- the width of the result, where the left operand has this width
abbrev pub result_width : BinOp → ℕ → ℕ
result_width op width = if is_comparison op then 1 else width

-- `& | ^ + * ==`, whose operands may change places
abbrev pub commutes : BinOp → Bool
commutes BinOp.And = true
commutes BinOp.Or = true
commutes BinOp.Xor = true
commutes BinOp.Add = true
commutes BinOp.Mul = true
commutes BinOp.Eq = true
commutes _ = false

-- the zero of `&` and `|` in this width, which is the result wherever it is an operand; its complement is the unit, where the result is the other operand
abbrev pub masking_zero : BinOp → ℕ → Option ℕ
masking_zero BinOp.And width = Some 0
masking_zero BinOp.Or width = Some (2 ^ width - 1)
masking_zero _ width = None

-- the result on words
abbrev pub binary_of : BinOp → Word → Word → Word
binary_of BinOp.And a b = and_of a b
binary_of BinOp.Or a b = or_of a b
binary_of BinOp.Xor a b = xor_of a b
binary_of BinOp.Add a b = add_of a b
binary_of BinOp.Sub a b = sub_of a b
binary_of BinOp.Mul a b = mul_of a b
binary_of BinOp.Eq a b = eq_of a b
binary_of BinOp.Lt a b = lt_of a b
binary_of BinOp.Shl a b = shl_of a b
binary_of BinOp.Shr a b = shr_of a b

-- the result on numbers of 64 bits, by operations of a machine: the operands have this width, and the mask has its bits
abbrev pub on_words : BinOp → ℕ → ℕ → ℕ → ℕ → ℕ
on_words BinOp.And a b width mask = bit_and a b
on_words BinOp.Or a b width mask = bit_or a b
on_words BinOp.Xor a b width mask = bit_xor a b
on_words BinOp.Add a b width mask = bit_and ((a + b) % 2 ^ 64) mask
on_words BinOp.Sub a b width mask = bit_and ((a + (2 ^ 64 - b)) % 2 ^ 64) mask
on_words BinOp.Mul a b width mask = bit_and (a * b % 2 ^ 64) mask
on_words BinOp.Eq a b width mask = if a == b then 1 else 0
on_words BinOp.Lt a b width mask = if nat_lt a b then 1 else 0
on_words BinOp.Shl a b width mask = if nat_lt b width then bit_and (a * 2 ^ bit_and b 63 % 2 ^ 64) mask else 0
on_words BinOp.Shr a b width mask = if nat_lt b width then a / 2 ^ bit_and b 63 else 0

-- `{a, b, c}`: the concatenation of all parts, the first in the high bits
abbrev pub joined_of : List Word → Word
joined_of [] = no_word
joined_of (a ∷ rest) = fold concat_of a rest
