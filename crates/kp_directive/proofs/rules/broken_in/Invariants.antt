use Rattle.std.proofs.Common.{◌≡◌, drop}
use Rattle.kp_directive.specs.Faults.{broken_from}
use Rattle.kp_directive.proofs.rules.broken_in.Given as goal

abbrev pub invariant-loop-i : goal.invariant-loop-i
invariant-loop-i l = broken_from l.directives l.i (drop l.i l.directives) ≡ broken_from l.directives 0 l.directives
