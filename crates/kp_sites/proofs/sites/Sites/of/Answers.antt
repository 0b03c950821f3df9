use Rattle.std.proofs.Common.{◌∙◌, ap}
use Rattle.kp_ast.specs.declared.tree.Job.{Job}
use Rattle.kp_sites.proofs.Writers.{same_sites}
use Rattle.kp_sites.proofs.sites.Sites.of.Goals as goal

pub returns : goal.returns
returns c = λ i. record {
  stages = (ap (λ (x : Job). x.stages.value) c.job-job.ensures.job) i;
  reads = (same_sites _ _ _ _ _ c.in_ok-reads.ensures (c.as_slice.ensures ∙ ap (λ (x : Job). x.decls) c.job-job.ensures.job)
      (c.as_slice-2.ensures ∙ ap (λ (x : Job). x.blocks) c.job-job.ensures.job)) i;
  writers = c.in_ok-writers.ensures i;
}
