-- The marks of the code as those of the diagram.
use Rattle.kp_diagram.specs.Diagram as diagram
use Rattle.kp_diagram_text.specs.declared.cells.Mark.{Mark}
use Rattle.kp_diagram_text.specs.declared.cells.Mark.TheVariants as marks

abbrev pub shown : Mark → diagram.Mark
shown marks.Moves = diagram.Moves
shown marks.WaitsForValue = diagram.WaitsForValue
shown marks.WaitsForStage = diagram.WaitsForStage
shown marks.Held = diagram.Held
shown marks.Squashed = diagram.Squashed
