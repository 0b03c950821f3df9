use Rattle.std.proofs.Common.{◌∙◌, ap}
use Rattle.kp_ast.specs.declared.tree.Job.{Job}
use Rattle.kp_depth.proofs.text.name_of.Goals as goal

pub returns : goal.returns
returns c = c.bytes.ensures.bytes ∙ ap (λ (j : Job). j.name.name) c.job.ensures
