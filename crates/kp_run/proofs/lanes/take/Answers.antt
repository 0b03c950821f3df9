use Rattle.std.proofs.Common.{◌≡◌, ◌<◌, ◌∙◌, sym, ap, arith, length, length-set}
use Rattle.std.proofs.lemmas.List.{length-map, get_or-map}
use Rattle.kp_bits.specs.Operators.{no_word}
use Rattle.kp_run.{specs.Columns.Taken, specs.Columns.word_taken, specs.Columns.row_taken, proofs.Samples.set_next}
use Rattle.kp_run.proofs.lanes.take.Goals as goal

pub loop-x-preserved : goal.loop-x-preserved
loop-x-preserved c =
    let columns = c.args.columns.now in
    let i = c.args.i in
    let x = c.loop-x.x in
    let kept = c.loop-x.invariant in
    let take_one = λ (k : Taken). word_taken k i in
    let many : length (row_taken columns i) ≡ length columns = length-map columns take_one in
    let low : x < length columns = omega (arith, c.loop-x-test.true, kept.0, c.requires) in
    let is = c.word.ensures ∙ ap take_one c.index-columns-x.is ∙ sym (get_or-map take_one columns x c.index-columns-x.result no_word low) in (
      length-set c.loop-x.room x c.word.result ∙ kept.0,
      set_next (row_taken columns i) c.loop-x.room x c.word.result (omega (arith, low, kept.0)) (omega (arith, low, many)) kept.1 is,
    )
