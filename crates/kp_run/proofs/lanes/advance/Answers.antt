use Rattle.std.proofs.{Common.◌≡◌, Common.◌∙◌, Common.length, Common.refl, Common.ap, Common.arith, lemmas.List.length-map}
use Rattle.kp_pipeline.specs.Sequential.{seq}
use Rattle.kp_machine.specs.Machine.{machine_of, values_in}
use Rattle.kp_seq.specs.Running.{state}
use Rattle.kp_run.{specs.Columns.row_taken, proofs.Machines.one_step}
use Rattle.kp_run.proofs.lanes.advance.Goals as goal

pub loop-i-init : goal.loop-i-init
loop-i-init c = (refl, λ s is. is, c.requires.room)

pub loop-i-preserved : goal.loop-i-preserved
loop-i-preserved c = (
  c.step_with.ensures.job ∙ c.loop-i.invariant.0,
  λ s is. one_step _ c.loop-i.machine.job s (row_taken c.args.columns.now) c.loop-i.i (state c.loop-i.machine) _ _ c.loop-i.invariant.0 (c.loop-i.invariant.1 s is)
      c.take.ensures c.step_with.ensures.state,
  ap (λ (l : _). length l) c.take.ensures ∙ length-map _ _,
)

pub returns-clause-state : goal.returns-clause-state
returns-clause-state c s is =
    let end : c.loop-i.i ≡ c.args.to = omega (arith, c.loop-i-test.false, c.loop-i.auto.i-end c.requires.forward) in
    c.loop-i.invariant.1 s is ∙ ap (seq (machine_of c.args.machine.now.job) s (λ i. values_in (row_taken c.args.columns.now i))) end
