use Rattle.std.proofs.Common.{ℕ, ◌<◌, get_or}
use Rattle.kp_net.specs.{Widths.no_node, Parts.CellOk}
use Rattle.kp_test_circuits.proofs.checks.cells_fit.Given as goal

abbrev pub invariant-loop-i : goal.invariant-loop-i
invariant-loop-i l = (k : ℕ) → k < l.i → CellOk l.pool.nodes l.parts (get_or l.pool.nodes k no_node).width (get_or l.pool.nodes k no_node).kind
