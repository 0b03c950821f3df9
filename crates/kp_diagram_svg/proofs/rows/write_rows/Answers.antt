use Rattle.std.proofs.Common.{◌≡◌, ◌∙◌, ℕ, List, take, ap, ap₂, refl, subst, arith}
use Rattle.std.proofs.lemmas.List.{length-take-le}
use Rattle.kp_base.specs.declared.row.Row.{Row}
use Rattle.kp_pipeline.specs.Rows.{counts}
use Rattle.kp_sched.specs.{Monitors.HasSeen, Rows.rows_seen}
use Rattle.kp_diagram_text.{specs.Charts.ext_of, specs.Charts.names_of, proofs.Fetches.fetches_end, proofs.Fetches.fetches_step, proofs.Fetches.take_next}
use Rattle.kp_base.proofs.Writing.{up_next, up_end}
use Rattle.kp_diagram_svg.{specs.Picture.rows_text, proofs.Steps.row_after_few, proofs.Steps.rows_next}
use Rattle.kp_diagram_svg.proofs.rows.write_rows.Goals as goal

pub cycle-requires : goal.cycle-requires
cycle-requires g c =
    let chart = c.args.chart.now in
    let seen = c.loop-cycle.invariant.seen.cycles in
    let many = length-take-le c.loop-cycle.cycle chart.rows.now (omega arith) in
    let few = c.requires.few in
    omega (arith, seen, many, few)

pub loop-cycle-preserved : goal.loop-cycle-preserved
loop-cycle-preserved g c =
    let chart = c.args.chart.now in
    let T = c.loop-cycle.cycle in
    let many = length-take-le T chart.rows.now (omega arith) in
    let number : c.count-number.result ≡ counts chart.stages (rows_seen chart.stages (take T chart.rows.now)) T 0 =
    c.count-number.ensures.seen (take T chart.rows.now) c.loop-cycle.invariant.seen
    ∙ ap₂ (λ (n U : ℕ). counts n (rows_seen n (take T chart.rows.now)) U 0) c.loop-cycle.invariant.stages many in
    let step = fetches_step chart.stages (ext_of chart) chart.rows.now T _ _ c.loop-cycle-test.true refl c.loop-cycle.enters _ c.count-number.result c.fetches_next-enters.ensures number in
    record {
      text = up_next _ _ _ _ _ _ _ (rows_next c.args.half (names_of chart) c.loop-cycle.i _ c.count-number.result _ c.loop-cycle.enters _ _ step c.row_after-i.ensures)
          c.loop-cycle.invariant.text c.write_fetch.ensures;
      few = row_after_few c.loop-cycle.i _ T c.loop-cycle.enters c.row_after-i.ensures c.loop-cycle.invariant.few;
      stages = c.cycle.ensures.stages ∙ c.loop-cycle.invariant.stages;
      seen = subst (λ (rs : List Row). HasSeen c.cycle.new.self rs)
          (take_next chart.stages (ext_of chart) chart.rows.now T _ _ c.loop-cycle-test.true refl)
          (c.cycle.ensures.seen (take T chart.rows.now) c.loop-cycle.invariant.seen);
    }

pub returns : goal.returns
returns g c =
    let chart = c.args.chart.now in
    up_end _ _ _ _
    (ap (rows_text c.args.half (names_of chart) c.loop-cycle.i) (fetches_end chart.stages (ext_of chart) chart.rows.now c.loop-cycle.cycle _ c.loop-cycle.enters (omega arith)))
    c.loop-cycle.invariant.text
