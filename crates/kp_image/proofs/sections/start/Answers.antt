use Rattle.std.proofs.Common.{ℕ, List, ap, sym, subst, ◌∙◌}
use Rattle.kp_bits.specs.Word.{Word}
use Rattle.kp_stage.specs.Start.{AreSamples, input}
use Rattle.kp_image.proofs.Given.{starts, rows_fit}
use Rattle.kp_image.proofs.sections.start.Goals as goal

pub returns-clause-suits : goal.returns-clause-suits
returns-clause-suits c =
    rw (c.in_ok-read_sections.ensures.start, c.job-job.ensures.job)
    (starts _ c.job-job.ensures.sound.names (rw c.job-job.ensures.job at c.in_ok-check.ensures.0))

pub returns-clause-rows : goal.returns-clause-rows
returns-clause-rows c cycle =
    let job = c.args.d.now.job in
    let e = c.job-job.ensures.job in
    let row = ap (λ (rows : ℕ → List Word). rows cycle) (c.in_ok-read_sections.ensures.inputs ∙ ap input e) in
    subst (λ (x : List Word). AreSamples job.decls x) (sym row) (rows_fit job c.job-job.ensures.sound.names (rw e at c.in_ok-check.ensures.0) cycle)
