use Rattle.std.proofs.Common.{◌∙◌, ap, sym}
use Rattle.kp_synth_registers.specs.Meaning.{Gives}
use Rattle.kp_synth.{specs.inner.Whole.enabled_by, proofs.Ports.bit_value}
use Rattle.kp_synth.proofs.bypass_entries.enable_in.Goals as goal

pub returns-in-Some-clause-value : goal.returns-in-Some-clause-value
unfolding Gives
returns-in-Some-clause-value c = λ x st i h.
    bit_value x c.pipe_in.new.pool c.pipe_in.result _ (c.pipe_in.ensures.gives x st i h) ∙ sym (ap (enabled_by (st.stage c.args.stage).instruction.pipes) c.in-Some.is)
