use Rattle.std.proofs.Common.{◌≡◌, length}
use Rattle.kp_net.specs.Growth.{Grown}
use Rattle.kp_design.specs.Numbers.{pipe_at}
use Rattle.kp_synth.proofs.Entered.{FirstOf}
use Rattle.kp_synth.proofs.stage_inputs.pipes_in.Given as goal

abbrev pub invariant-loop-x : goal.invariant-loop-x
invariant-loop-x l = record {
  count : length l.nodes.items ≡ l.x;
  first : FirstOf l.layout l.pool (λ y. (pipe_at l.layout y).width) (λ y st i. (st.stage l.k).instruction.pipes y) l.nodes.items;
  grown : Grown l.fn.pool l.pool l.x;
}
