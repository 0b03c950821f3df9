use Rattle.std.proofs.Common.{◌∙◌, refl, ap}
use Rattle.kp_image.specs.Feeds.{row_in}
use Rattle.kp_seq.specs.Running.{state}
use Rattle.kp_run.proofs.Machines.{one_step}
use Rattle.kp_tool.proofs.Running.{at_first}
use Rattle.kp_tool.proofs.seq.advance.Goals as goal

pub loop-i-init : goal.loop-i-init
loop-i-init c = (refl, at_first c.args.machine.now.job (state c.args.machine.now) (row_in c.args.inputs.now))

pub loop-i-preserved : goal.loop-i-preserved
loop-i-preserved c = (
  c.step_unrecorded.ensures.job ∙ c.loop-i.invariant.0,
  one_step _ c.loop-i.machine.job _ (row_in c.args.inputs.now) c.loop-i.i (state c.loop-i.machine) _ _ c.loop-i.invariant.0 c.loop-i.invariant.1
      (c.as_slice.ensures.value ∙ c.in_ok-row.ensures ∙ ap (row_in c.args.inputs.now) c.from.ensures) c.step_unrecorded.ensures.state,
)
