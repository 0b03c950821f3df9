use Rattle.std.proofs.Common.{◌≡◌, ◌∙◌, List, ℕ, length, None, ap, sym, subst, arith}
use Rattle.kp_pipeline.specs.Rows.{Row}
use Rattle.kp_sched.proofs.Counting.{seen_length}
use Rattle.kp_page.specs.States.{states_text}
use Rattle.kp_view.{specs.Due.Says, specs.Ends.Ends, proofs.Pictures.page_is}
use Rattle.kp_view.proofs.page.page.Goals as goal

pub with_states-end-requires-clause-drawable : goal.with_states-end-requires-clause-drawable
with_states-end-requires-clause-drawable g c =
    c.chart_of-chart.ensures.drawable c.args.run.now.count c.in_ok-job_run.ensures (omega (arith, c.args.run.now.few)) c.requires

pub with_states-end-requires-clause-few : goal.with_states-end-requires-clause-few
with_states-end-requires-clause-few g c =
    let n = c.args.run.now.count in
    let chart = c.chart_of-chart.result in
    let ran = c.in_ok-job_run.ensures in
    let many : length chart.rows.now ≡ n =
    sym (seen_length chart.stages chart.rows.now) ∙ ap (λ (l : List Row). length l) (c.chart_of-chart.ensures.rows n ran ∙ sym ran.rows)
    ∙ seen_length _ c.in_ok-job_run.job_run.rows.items ∙ ran.count in
    omega (arith, many, c.args.run.now.few)

pub returns : goal.returns
returns g c =
    let n = c.args.run.now.count in
    let ran = c.in_ok-job_run.ensures in
    let states = states_text c.args.job.now.design.job n in
    let same = page_is c.chart_of-chart.result _ _ _ _ c.args.input.now states (c.chart_of-chart.ensures.figure n ran) (c.chart_of-chart.ensures.rows n ran) c.in_ok-paths.ensures in
    subst (λ (t : List ℕ). Ends g.K.Sink.held g.K.Sink.faults ⊥ (Says 0 t) None c.args.out.now c.with_states-end.new.out c.with_states-end.result)
    same c.with_states-end.ensures
