use Rattle.std.proofs.Common.{◌≡◌, ◌∙◌, All, List, ap, sym, subst}
use Rattle.kp_ast.specs.declared.tree.{Decl.Decl, Job.Job}
use Rattle.kp_machine.proofs.Widths.{job_fine}
use Rattle.kp_debug.{specs.inner.Standing.HasAddresses, proofs.Places.some_addresses}
use Rattle.kp_page.proofs.cycles.write_cycle.Goals as goal

pub write_changes-requires-clause-some : goal.write_changes-requires-clause-some
write_changes-requires-clause-some g c =
    let job = c.args.job.now.design.job in
    let are : c.as_slice.result.now ≡ job.decls = c.as_slice.ensures ∙ ap (λ (j : Job). j.decls) c.job.ensures.job in
    subst (λ (ds : List Decl). All HasAddresses ds) (sym are) (some_addresses job.decls (job_fine job c.job.ensures.sound.names))
