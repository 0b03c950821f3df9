-- The text of a piece.
use Rattle.std.specs.Prelude.{ℕ, ◌==◌, List, ◌++◌, codes, decimal, if◌then◌else◌}
use Rattle.kp_bits.specs.Spelling.{spelling}
use Rattle.kp_report.specs.{declared.pieces.Piece.Piece, Texts.ending_of}
use Rattle.kp_report.specs.declared.pieces.Piece.TheVariants.{Text, Count, Number, Value, Ending, Samples}

-- ` samples 1`, if there are any, and the end of the line
abbrev pub samples_text : ℕ → List ℕ
samples_text count = if count == 0 then codes "\n" else codes " samples " ++ decimal count ++ codes "\n"

abbrev pub piece_text : Piece → List ℕ
piece_text (Text text) = text.now
piece_text (Count count) = decimal count
piece_text (Number number) = decimal number
piece_text (Value value) = spelling value
piece_text (Ending behind) = ending_of behind
piece_text (Samples count) = samples_text count
