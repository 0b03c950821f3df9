use Rattle.std.proofs.Common.{◌≡◌, length}
use Rattle.kp_synth_registers.specs.{Meaning.Added, inner.First.FirstRead}
use Rattle.kp_synth_registers.proofs.registers.registers.Given as goal

abbrev pub invariant-loop-r : goal.invariant-loop-r
invariant-loop-r l = record {
  count : length l.nodes.items ≡ l.r;
  read : FirstRead l.layout l.pool l.nodes.items;
  added : Added l.layout l.fn.pool l.pool l.r;
}
