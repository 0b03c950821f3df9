-- The operations on words, defined only for operands of the specified widths.
use Rattle.std.specs.Prelude.{ℕ, ◌+◌, Bool, ◌&&◌, ◌||◌, ◌==◌, nat_lt, nat_le, if◌then◌else◌, List, [], ◌∷◌, Option, None, Some}
use Rattle.std.specs.Result.{result_ok}
use Rattle.kp_bits.specs.{Literals.fit_of, Operators.is_shift, Operators.binary_of}
use Rattle.kp_bits.specs.{Word.Word, Word.mux_of, Word.concat_of, Word.slice_of, Word.zext_of, Word.sext_of, declared.literal.Literal.Literal}
use Rattle.kp_bits.specs.declared.operator.BinOp.{BinOp}

-- a value if a test passes
abbrev pub where_so : Bool → Word → Option Word
where_so test value = if test then Some value else None

-- the width is in 1 to 64, and the value fits it
abbrev pub checked_literal : Literal → Option Word
checked_literal l = result_ok (fit_of l)

-- the operands have the same width, except for shifts
abbrev pub checked_binary : BinOp → Word → Word → Option Word
checked_binary op a b = where_so (is_shift op || a.width == b.width) (binary_of op a b)

-- the test has one bit, and the branches have one width
abbrev pub checked_mux : Word → Word → Word → Option Word
checked_mux test a b = where_so (test.width == 1 && a.width == b.width) (mux_of test a b)

-- the parts have at most 64 bits in total
abbrev pub checked_join : Word → List Word → Option Word
checked_join a [] = Some a
checked_join a (b ∷ rest) = if nat_le (a.width + b.width) 64 then checked_join (concat_of a b) rest else None

abbrev pub checked_joined : List Word → Option Word
checked_joined [] = None
checked_joined (a ∷ rest) = checked_join a rest

-- the word has these bits, and hi is not below lo
abbrev pub checked_slice : ℕ → ℕ → Word → Option Word
checked_slice hi lo a = where_so (nat_le lo hi && nat_lt hi a.width) (slice_of a hi lo)

-- an extension to at least the present width, and at most 64 bits
abbrev pub is_extension : ℕ → Word → Bool
is_extension width a = nat_le a.width width && nat_le width 64

abbrev pub checked_zext : ℕ → Word → Option Word
checked_zext width a = where_so (is_extension width a) (zext_of a width)

abbrev pub checked_sext : ℕ → Word → Option Word
checked_sext width a = where_so (is_extension width a) (sext_of a width)
