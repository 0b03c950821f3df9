use Rattle.std.proofs.Common.{rules, List, ℕ, None, refl, subst}
use Rattle.kp_diagram_svg.specs.Picture.{svg_text}
use Rattle.kp_view.{specs.Due.Says, specs.Ends.Ends, proofs.Pictures.picture_is}
use Rattle.kp_view.proofs.svg.svg.Goals as goal

-- src/svg.rt:30:8
pub returns-in_err-end : goal.returns-in_err-end
returns-in_err-end g c =
    let n = c.args.run.now.count in
    let ran = c.in_ok-job_run.ensures in
    let same = picture_is c.chart_of.result _ _ (c.chart_of.ensures.figure n ran) (c.chart_of.ensures.rows n ran) in
    subst (λ (t : List ℕ). Ends g.K.Sink.held g.K.Sink.faults ⊥ (Says 0 t) None c.args.out.now c.write_svg-end.new.sink c.from_residual-in_err-end.result)
    same (search rules)

-- src/svg.rt:18:1
pub returns : goal.returns
returns g c =
    let n = c.args.run.now.count in
    let ran = c.in_ok-job_run.ensures in
    let same = picture_is c.chart_of.result _ _ (c.chart_of.ensures.figure n ran) (c.chart_of.ensures.rows n ran) in
    (svg_text c.chart_of.result, (refl, same), c.in_ok-end.ensures.text)
