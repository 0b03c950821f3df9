-- How messages write the instructions of the assembler (docs/DLX.md).
use Rattle.std.specs.Prelude.{ℕ, Bool, true, false, if◌then◌else◌, List, [], ◌∷◌, codes}
use Rattle.kp_asm.specs.declared.mnemonic.Piece.{Piece}
use Rattle.kp_asm.specs.declared.mnemonic.Piece.TheVariants as pieces

-- the second piece is a register
abbrev pub is_register : Piece → Bool
is_register pieces.Register = true
is_register _ = false

abbrev pub has_register : List Piece → Bool
has_register (_ ∷ piece ∷ rest) = is_register piece
has_register _ = false

abbrev pub is_open : Piece → Bool
is_open pieces.Open = true
is_open _ = false

abbrev pub begins_with_open : List Piece → Bool
begins_with_open (piece ∷ rest) = is_open piece
begins_with_open [] = false

-- what follows a register, where this is the second operand
abbrev pub operands_text : Piece → List Piece → List ℕ
operands_text pieces.Register rest = if has_register rest then codes " rd, ra, rb" else codes " rd, ra, number"
operands_text pieces.Label rest = codes " ra, label"
operands_text _ rest = if begins_with_open rest then codes " rd, number(ra)" else codes " rd, number"

-- what follows a register, up to the end of the line
abbrev pub after_register : List Piece → List ℕ
after_register (_ ∷ second ∷ rest) = operands_text second rest
after_register _ = codes " ra"

-- how a message writes what follows a mnemonic of this form
abbrev pub form_text : List Piece → List ℕ
form_text (pieces.Register ∷ rest) = after_register rest
form_text (pieces.Label ∷ rest) = codes " label"
form_text (pieces.End ∷ rest) = codes ""
form_text _ = codes " number"

-- how a message names a piece of an instruction: the punctuation by itself, and a number of any range in the same way
abbrev pub piece_text : Piece → List ℕ
piece_text pieces.Register = codes "a register such as `r1`"
piece_text pieces.Signed = codes "a number"
piece_text pieces.Unsigned = codes "a number"
piece_text pieces.Any = codes "a number"
piece_text pieces.Label = codes "a label"
piece_text pieces.Comma = codes "`,`"
piece_text pieces.Open = codes "`(`"
piece_text pieces.Close = codes "`)`"
piece_text pieces.End = codes "the end of the line"
