use Rattle.std.proofs.Common.{◌≡◌, ◌<◌, ◌*◌, ℕ, length}
use Rattle.kp_pipeline.specs.Pipeline.{ue}
use Rattle.kp_machine.specs.Machine.{machine_of}
use Rattle.kp_net.specs.Growth.{Wire, Grown}
use Rattle.kp_synth_registers.specs.Meaning.{IsTest, node_at}
use Rattle.kp_synth_next.proofs.rollback.updates_of.Given as goal

abbrev pub invariant-loop-k : goal.invariant-loop-k
invariant-loop-k l = record {
  len : length l.updates ≡ 12;
  wires : (k : ℕ) → k < l.k → Wire l.pool (node_at l.updates k) 1;
  is_test : (k : ℕ) → k < l.k → IsTest l.layout l.pool (node_at l.updates k) (λ st i. ue (machine_of l.layout) st i k);
  grown : Grown l.fn.pool l.pool (5 * l.k);
}
