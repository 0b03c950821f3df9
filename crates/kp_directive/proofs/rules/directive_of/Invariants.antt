use Rattle.std.proofs.Common.{◌≡◌, drop}
use Rattle.kp_directive.specs.Faults.{directive_of}
use Rattle.kp_directive.proofs.rules.directive_of.Given as goal

abbrev pub invariant-loop-directive : goal.invariant-loop-directive
invariant-loop-directive l = directive_of l.verb (drop l.directive-index l.directives) ≡ directive_of l.verb l.directives
