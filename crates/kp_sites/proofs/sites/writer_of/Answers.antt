use Rattle.std.proofs.Common.{◌∙◌, List, ap}
use Rattle.kp_ast.specs.declared.tree.{Decl.Decl, Job.Job}
use Rattle.kp_machine.specs.Slots.{targets_of}
use Rattle.kp_sites.specs.Sites.{result_number}
use Rattle.kp_sites.proofs.Writers.{written}
use Rattle.kp_sites.proofs.sites.writer_of.Goals as goal

pub returns : goal.returns
returns c =
    let decls = c.as_slice.ensures ∙ ap (λ (x : Job). x.decls) c.job.ensures in
    c.writer_with.ensures
    ∙ written c.args.layout.now c.args.t c.port.result c.result_to.result c.port.ensures.port
    (c.result_to.ensures ∙ ap (λ (ds : List Decl). result_number (targets_of ds) ds 0 c.args.t) decls)
