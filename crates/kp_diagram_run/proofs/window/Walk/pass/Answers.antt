use Rattle.std.proofs.Common.{◌≡◌, ◌∙◌, ℕ, ◌≤◌, [], ◌∷◌, ◌++◌, length, ap, arith}
use Rattle.kp_pipeline.specs.Rows.{counts}
use Rattle.kp_sched.specs.Rows.{rows_seen}
use Rattle.kp_diagram_run.proofs.Walking.{walked-more}
use Rattle.kp_diagram_run.proofs.window.Walk.pass.Goals as goal

pub returns : goal.returns
returns c = λ n ext rows same walked.
    let row = c.args.row in
    let stages : c.stages-stages.result ≡ n = c.stages-stages.ensures.stages ∙ walked.stages in
    let seen = c.cycle.ensures.seen rows walked.seen in
    let still = c.cycle.ensures.stages ∙ walked.stages in
    let number = c.count-number.ensures.seen (rows ++ row ∷ []) seen ∙ ap (λ (m : ℕ). counts m (rows_seen m (rows ++ row ∷ [])) (length (rows ++ row ∷ [])) 0) still in
    walked-more n rows row c.args.word c.count-number.result ext c.args.self.now _ (omega (arith, c.requires.some, walked.stages)) same walked seen still number
    (rw stages at c.in_ok-advance.ensures.flight) (rw stages at c.in_ok-advance.ensures.within) (rw stages at c.losses_after-self.ensures.losses) c.losses_after-self.ensures.length
