use Rattle.std.proofs.Common.{◌≡◌, ◌≤◌, [], fold, take, length}
use Rattle.kp_depth.specs.{Times.times_more, inner.Bounds.Bounded}
use Rattle.kp_depth.proofs.time.Times.of.Given as goal

abbrev pub invariant-loop-node : goal.invariant-loop-node
invariant-loop-node l = (l.all.items ≡ fold (times_more l.nodes l.inside) [] (take l.node-index l.nodes)) × Bounded l.all.items × (length l.all.items ≡ l.node-index)
