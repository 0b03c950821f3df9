use Rattle.std.proofs.Common.{◌≡◌, length}
use Rattle.kp_design.specs.Numbers.{hint_at}
use Rattle.kp_synth.proofs.Entered.{FirstOf}
use Rattle.kp_synth.proofs.stage_inputs.hints_in.Given as goal

abbrev pub invariant-loop-h : goal.invariant-loop-h
invariant-loop-h l = record {
  count : length l.nodes.items ≡ l.h;
  first : FirstOf l.layout l.pool (λ y. (hint_at l.layout y).width) (λ y st i. st.hints y) l.nodes.items;
}
