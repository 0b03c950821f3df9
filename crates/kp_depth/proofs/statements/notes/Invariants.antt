use Rattle.std.proofs.Common.{◌≡◌, take}
use Rattle.kp_depth.specs.Text.{notes}
use Rattle.kp_depth.proofs.statements.notes.Given as goal

abbrev pub invariant-loop-wire : goal.invariant-loop-wire
invariant-loop-wire l = l.notes.items ≡ notes l.source.layout.now (take l.wire-index l.source.wires.now) l.from l.node.0
