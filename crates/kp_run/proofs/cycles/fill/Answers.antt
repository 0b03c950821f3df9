use Rattle.std.proofs.Common.{◌≡◌, ◌<◌, ◌∙◌, arith, length, length-set}
use Rattle.kp_image.specs.Feeds.{row_in}
use Rattle.kp_run.proofs.{Given.as_feeds, Samples.set_next, Samples.is_got}
use Rattle.kp_run.proofs.cycles.fill.Goals as goal

pub loop-x-preserved : goal.loop-x-preserved
loop-x-preserved c =
    let row = row_in c.args.inputs.now c.args.cycle in
    let x = c.loop-x.x in
    let many : length row ≡ length c.args.inputs.now = as_feeds c.args.inputs.now c.args.cycle in
    let kept = c.loop-x.invariant in
    let h : x < length c.loop-x.room = omega arith in (
      length-set c.loop-x.room x c.value.result ∙ kept.0,
      set_next row c.loop-x.room x c.value.result h (omega (arith, h, kept.0, many, c.requires.room)) kept.1 (is_got row x c.value.result c.value.ensures),
    )
