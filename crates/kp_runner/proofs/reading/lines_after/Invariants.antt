use Rattle.std.proofs.Common.{◌≡◌, take}
use Rattle.kp_runner.specs.Reading.{lines_after}
use Rattle.kp_runner.proofs.reading.lines_after.Given as goal

abbrev pub invariant-loop-directive : goal.invariant-loop-directive
invariant-loop-directive l = l.lines.items ≡ lines_after l.text (take l.directive-index l.directives)
