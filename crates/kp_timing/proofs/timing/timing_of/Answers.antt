use Rattle.std.proofs.Common.{◌∙◌, ap, subst, sym}
use Rattle.kp_ast.specs.declared.tree.Job.{Job}
use Rattle.kp_stage.specs.{declared.start.Start.Start, Start.start_of, Start.stall_word}
use Rattle.kp_image.proofs.Given.{starts}
use Rattle.kp_timing.{specs.Timed.IsOpened, proofs.Plain.has_timeline}
use Rattle.kp_timing.proofs.timing.timing_of.Goals as goal

pub open-requires : goal.open-requires
open-requires c = record {
  suits = rw c.args.job.now.start (starts _ c.job-kept.ensures.sound.names c.args.job.now.unbroken);
  plain = has_timeline c.args.job.now.design.job c.requires;
}

pub invariant_of-result : goal.invariant_of-result
invariant_of-result c =
    let job = c.args.job.now.design.job in
    let t = c.in_ok-timeline.timeline in
    let same = c.in_ok-timeline.ensures.same_job in
    record {
      opened = subst (λ (j : Job). IsOpened j (start_of j) t) (sym same) (subst (λ (s : Start). IsOpened job s t) c.args.job.now.start c.in_ok-timeline.ensures);
      stalled = c.args.job.now.stalls ∙ ap stall_word (sym same);
    }
