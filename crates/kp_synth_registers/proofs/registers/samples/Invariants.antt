use Rattle.std.proofs.Common.{◌≡◌, length}
use Rattle.kp_synth_registers.specs.{Meaning.Added, inner.First.FirstSamples}
use Rattle.kp_synth_registers.proofs.registers.samples.Given as goal

abbrev pub invariant-loop-x : goal.invariant-loop-x
invariant-loop-x l = record {
  count : length l.nodes.items ≡ l.x;
  read : FirstSamples l.layout l.pool l.nodes.items;
  added : Added l.layout l.fn.pool l.pool l.x;
}
