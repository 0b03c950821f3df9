use Rattle.std.proofs.Common.{◌≡◌, ◌<◌, ℕ, length}
use Rattle.kp_pipeline.specs.Pipeline.{mismatches}
use Rattle.kp_machine.specs.Machine.{machine_of}
use Rattle.kp_engine.specs.Misses.{BitsOk}
use Rattle.kp_synth_registers.specs.Meaning.{IsTest, node_at}
use Rattle.kp_synth_next.proofs.rollback.misses_of.Given as goal

abbrev pub invariant-loop-k : goal.invariant-loop-k
invariant-loop-k l = record {
  len : length l.misses ≡ 12;
  wires : BitsOk l.pool l.misses 12;
  is_test : (k : ℕ) → k < l.k → IsTest l.layout l.pool (node_at l.misses k) (λ st i. mismatches (machine_of l.layout) st i k);
}
