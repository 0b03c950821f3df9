use Rattle.std.proofs.Common.{◌≡◌, ◌<◌, ℕ, length}
use Rattle.kp_net.specs.Growth.{Wire, Grown}
use Rattle.kp_synth_registers.specs.Meaning.{IsTest, node_at}
use Rattle.kp_synth_next.proofs.outputs.fulls_of.Given as goal

abbrev pub invariant-loop-k : goal.invariant-loop-k
invariant-loop-k l = record {
  len : length l.fulls ≡ 12;
  wires : (k : ℕ) → k < l.k → Wire l.pool (node_at l.fulls k) 1;
  is_test : (k : ℕ) → k < l.k → IsTest l.layout l.pool (node_at l.fulls k) (λ st i. (st.stage k).full);
  grown : Grown l.fn.pool l.pool l.k;
}
