use Rattle.std.{proofs.Common.◌≡◌, proofs.Common.take, specs.Prelude.flat_map}
use Rattle.kp_wires.specs.Comments.{entry}
use Rattle.kp_wires.proofs.comments.entries.Given as goal

abbrev pub invariant-loop-wire : goal.invariant-loop-wire
invariant-loop-wire l = l.text.items ≡ flat_map (entry l.job l.node) (take l.wire-index l.wires)
