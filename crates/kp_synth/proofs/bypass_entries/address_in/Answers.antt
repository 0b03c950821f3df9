use Rattle.std.{proofs.Common.◌∙◌, proofs.Common.◌==◌, proofs.Common.ℕ, proofs.Common.ap, proofs.Common.sym, specs.Prelude.Option}
use Rattle.kp_synth_registers.specs.Meaning.{Gives}
use Rattle.kp_synth.specs.inner.Whole.{addressed_by}
use Rattle.kp_synth.proofs.bypass_entries.address_in.Goals as goal

pub returns-in-Some-clause-value : goal.returns-in-Some-clause-value
unfolding Gives
returns-in-Some-clause-value c = λ x st i h a.
    ap (λ (v : ℕ). v == a) (c.pipe_in.ensures.gives x st i h) ∙ sym (ap (λ (o : Option ℕ). addressed_by (st.stage c.args.stage).instruction.pipes o a) c.in-Some.is)
