use Rattle.std.proofs.Common.{◌≡◌, drop}
use Rattle.kp_depth.specs.Statements.{stage_in}
use Rattle.kp_depth.proofs.statements.stage_in.Given as goal

abbrev pub invariant-loop-wire : goal.invariant-loop-wire
invariant-loop-wire l = stage_in (drop l.wire-index l.wires) l.node.0 ≡ stage_in l.wires l.node.0
