use Rattle.std.proofs.Common.{◌≡◌, ◌*◌, length}
use Rattle.kp_net.specs.Growth.{Grown}
use Rattle.kp_synth_next.specs.Control.{NextsFrom}
use Rattle.kp_synth_next.proofs.next_values.next_nodes.Given as goal

abbrev pub invariant-loop-r : goal.invariant-loop-r
invariant-loop-r l = record {
  count : length l.nexts.items ≡ l.r;
  nexts : NextsFrom l.layout l.pool l.outs l.nexts.items;
  grown : Grown l.fn.pool l.pool (9 * l.r);
}
