-- The text of a piece.
use Rattle.std.specs.Prelude.{ℕ, List, decimal}
use Rattle.kp_diagram_text.specs.{declared.pieces.Piece.Piece, Text.in_column, Text.spaces}
use Rattle.kp_diagram_text.specs.declared.pieces.Piece.TheVariants.{Text, Number, Column, Spaces}

abbrev pub piece_text : Piece → List ℕ
piece_text (Text text) = text.now
piece_text (Number number) = decimal number
piece_text (Column width number) = in_column width (decimal number)
piece_text (Spaces count) = spaces count
