use Rattle.std.proofs.Common.{◌∙◌, ◌≤◌, ℕ, List, ap, sym, subst, arith}
use Rattle.std.specs.Prelude.{option_map}
use Rattle.kp_base.specs.Bytes.{Writes}
use Rattle.kp_ast.specs.declared.tree.Job.{Job}
use Rattle.kp_debug.{specs.Sessions.Debugged, specs.Inspecting.row_or_end, proofs.Standing.row_is}
use Rattle.kp_run.proofs.Machines.{stages_fit}
use Rattle.kp_sched.specs.Rows.{row_seen}
use Rattle.kp_debug.proofs.commands.print_row.Goals as goal

pub overflow_cast-stages : goal.overflow_cast-stages
overflow_cast-stages g c =
    let few : c.job.result.now.stages.value ≤ 12 = rw c.job.ensures.job (stages_fit c.args.job.now.design.job c.job.ensures.sound.stages).1 in
    omega (arith, few)

pub write_row-requires-clause-some : goal.write_row-requires-clause-some
write_row-requires-clause-some g c = rw c.job.ensures.job (stages_fit c.args.job.now.design.job c.job.ensures.sound.stages).0

pub write_row-requires-clause-few : goal.write_row-requires-clause-few
write_row-requires-clause-few g c = rw c.job.ensures.job (stages_fit c.args.job.now.design.job c.job.ensures.sound.stages).1

pub returns-clause-text : goal.returns-clause-text
returns-clause-text g c =
    let job = c.args.job.now.design.job in
    let d = c.args.session.now in
    let cycle = c.cycle.ensures ∙ ap (λ (x : Debugged). x.cycle) c.row-row.ensures.stays in
    let stages = ap (λ (j : Job). j.stages.value) c.job.ensures.job in
    let text =
    (λ i. row_or_end (cycle i) (option_map (row_seen (stages i)) (c.row-row.ensures.row i)))
    ∙ ap (row_or_end d.cycle) (sym (row_is job d c.requires.under)) in
    subst (λ (t : List ℕ). Writes (g.K.Sink.held c.args.sink.now) (g.K.Sink.held c.write_row.new.sink) t c.write_row.result) text c.write_row.ensures.text
