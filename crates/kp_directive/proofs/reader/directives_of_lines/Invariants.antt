use Rattle.std.proofs.Common.{◌≡◌, ◌++◌, All, drop, map}
use Rattle.kp_base.specs.Lines.{piece_of}
use Rattle.kp_directive.specs.Directives.{AreWithin, directives_from}
use Rattle.kp_directive.proofs.reader.directives_of_lines.Given as goal

abbrev pub invariant-loop-line : goal.invariant-loop-line
invariant-loop-line l =
    (l.found.items ++ directives_from (map (piece_of l.text) (drop l.line-index l.lines)) ≡ directives_from (map (piece_of l.text) l.lines))
    × All (AreWithin l.text) l.found.items
