use Rattle.std.proofs.Common.{◌≡◌, map, take}
use Rattle.kp_runner.specs.Reading.{spaced}
use Rattle.kp_runner.proofs.reading.with_blanks.Given as goal

abbrev pub invariant-loop-c : goal.invariant-loop-c
invariant-loop-c l = l.text.items ≡ map spaced (take l.c-index l.list)
