use Rattle.std.proofs.Common.{◌≡◌, ◌*◌, length}
use Rattle.kp_net.specs.Growth.{Grown}
use Rattle.kp_synth_next.specs.Control.{PortsFrom}
use Rattle.kp_synth_next.proofs.write_ports.write_ports.Given as goal

abbrev pub invariant-loop-t : goal.invariant-loop-t
invariant-loop-t l = record {
  count : length l.ports.items ≡ l.t;
  ports : PortsFrom l.layout l.pool l.ports.items;
  grown : Grown l.fn.pool l.pool (9 * l.t);
}
