use Rattle.std.proofs.{Common.◌≡◌, Common.◌∙◌, Common.length, Common.ap, Common.sym, Common.subst, lemmas.List.length-map}
use Rattle.kp_ast.specs.declared.tree.Job.{Job}
use Rattle.kp_stage.specs.Start.{AreSamples}
use Rattle.kp_machine.specs.Machine.{values_in}
use Rattle.kp_run.specs.Columns.{row_taken}
use Rattle.kp_diagram_labels.{specs.inner.Runs.given, proofs.Runs.one_more}
use Rattle.kp_diagram_labels.proofs.trace.Trace.advance.Goals as goal

pub step_unrecorded-requires : goal.step_unrecorded-requires
step_unrecorded-requires c =
    rw c.take.ensures (subst (λ (j : Job). AreSamples j.decls (row_taken c.args.columns.now c.loop-i.i)) (sym c.loop-i.invariant.0.job_is) (c.requires.samples c.loop-i.i))

pub loop-i-preserved : goal.loop-i-preserved
loop-i-preserved c = (
  one_more c.args._job.now.design.job (given c.args.columns.now) c.loop-i.i c.loop-i.self.machine c.step_unrecorded.new.self _ c.loop-i.invariant.0
      c.step_unrecorded.ensures.job c.step_unrecorded.ensures.state (ap values_in c.take.ensures),
  ap (λ (l : _). length l) c.take.ensures ∙ length-map _ _,
)
