-- The value of a code.
use Rattle.std.specs.Prelude.{◌+◌, ◌-◌, ◌*◌, ◌/◌, ◌%◌, ◌^◌, ◌==◌, ℕ, nat_lt, if◌then◌else◌, bit_and, bit_or, length, List, map, sum, slice_index}
use Rattle.std.specs.Int.{bit_at}
use Rattle.kp_bits.specs.Operators.{on_words}
use Rattle.kp_seq_plan.specs.declared.code.Code.{Code, TheOpen.Code-F, TheFolds.fold-Code}
use Rattle.kp_seq_plan.specs.declared.code.Code.TheOpen as level

-- whether a number is in a set of numbers below 64: the bit of the set at this number
abbrev pub member : (set number : ℕ) → ℕ
member set n = if nat_lt n 64 then bit_at set n else 0

-- one level: the value of a code, given those of its parts, for these values by index
abbrev pub value_level : Code-F (List ℕ → ℕ) → List ℕ → ℕ
value_level (level.Word w) s = w
value_level (level.Name place) s = slice_index s place
value_level (level.Not a mask) s = (mask + (2 ^ 64 - a s)) % 2 ^ 64
value_level (level.Binary op a b width mask) s = on_words op (a s) (b s) width mask
value_level (level.Mux test a b) s = if test s == 1 then a s else b s
value_level (level.Join high low width) s = bit_or (high s * 2 ^ bit_and width 63 % 2 ^ 64) (low s)
value_level (level.Slice a lo mask) s = bit_and (a s / 2 ^ bit_and lo 63) mask
value_level (level.Sext a top more) s = if nat_lt top (a s) then (a s + more) % 2 ^ 64 else a s
value_level (level.Call args body) s = body (map (λ p. p s) args)
value_level (level.Same place word) s = if slice_index s place == word then 1 else 0
value_level (level.Field place lo mask) s = bit_and (slice_index s place / 2 ^ bit_and lo 63) mask
value_level (level.Flip place mask) s = (mask + (2 ^ 64 - slice_index s place)) % 2 ^ 64
value_level (level.Among place set) s = member set (slice_index s place)
value_level (level.Case place word a b) s = if slice_index s place == word then a s else b s

abbrev pub value_of : Code → List ℕ → ℕ
value_of = fold-Code (List ℕ → ℕ) value_level

-- one level: an upper bound on how many arguments are stored at a time
abbrev pub space_level : Code-F ℕ → ℕ
space_level (level.Not a mask) = a
space_level (level.Binary op a b width mask) = a + b
space_level (level.Mux test a b) = test + (a + b)
space_level (level.Join high low width) = high + low
space_level (level.Slice a lo mask) = a
space_level (level.Sext a top more) = a
space_level (level.Call args body) = body + (length args + sum args)
space_level (level.Case place word a b) = a + b
space_level _ = 0

abbrev pub space_of : Code → ℕ
space_of = fold-Code ℕ space_level
