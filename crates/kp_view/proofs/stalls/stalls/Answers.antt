use Rattle.std.proofs.Common.{◌≡◌, ◌∙◌, rules, List, ℕ, None, ap, ap₂, subst}
use Rattle.kp_ast.specs.declared.tree.Job.{Job}
use Rattle.kp_stalls_run.specs.Runs.{job_stalls}
use Rattle.kp_stalls_text.specs.{Labels.labels_from, Text.stalls_text}
use Rattle.kp_view.specs.{Due.Says, Ends.Ends}
use Rattle.kp_view.proofs.stalls.stalls.Goals as goal

pub returns-in_err-end : goal.returns-in_err-end
returns-in_err-end g c =
    let job = c.args.job.now.design.job in
    let report = c.in_ok-report.report in
    let names = c.in_ok-report.ensures.names in
    let labels : report.labels ≡ labels_from job.blocks =
    c.in_ok-report.ensures.labels ∙ ap labels_from (c.as_slice.ensures ∙ ap (λ (j : Job). j.blocks) c.job.ensures.job) in
    let lines : report.lines ≡ job_stalls c.args.cycles.now.count job = c.in_ok-report.ensures.lines ∙ c.in_ok-lines.ensures in
    subst (λ (t : List ℕ). Ends g.K.Sink.held g.K.Sink.faults ⊥ (Says 0 t) None c.args.out.now c.write_stalls-end.new.sink c.from_residual-in_err-end.result)
    (λ i. stalls_text (names i) (labels i) (lines i)) (search rules)
