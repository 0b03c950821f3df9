use Rattle.std.proofs.Common.{◌≡◌, ◌-◌, ◌<◌, ℕ, length}
use Rattle.kp_synth_registers.specs.Meaning.{node_at}
use Rattle.kp_synth_next.proofs.outputs.reversed.Given as goal

abbrev pub invariant-loop-k : goal.invariant-loop-k
invariant-loop-k l = record {
  len : length l.parts ≡ 12;
  turned : (j : ℕ) → j < l.k → node_at l.parts j ≡ node_at l.bits (l.n - 1 - j);
}
