use Rattle.std.proofs.{Common.◌∙◌, Common.sym, Common.arith, lemmas.List.get_or_default}
use Rattle.kp_base.proofs.{Filling.filled_end, Filling.filled_step, Filling.tail_is, Writing.◌▷◌, Writing.up_next, Writing.up_rest}
use Rattle.kp_base.proofs.writer.Writer.fill.Goals as goal

pub loop-piece-preserved : goal.loop-piece-preserved
loop-piece-preserved g c =
    let text = c.args.text.now in
    record {
      text = up_next _ _ _ _ _ _ _
          (filled_step text _ c.args.pieces.now c.loop-piece.at c.hole-before.result c.min-at.result c.loop-piece.piece-index _ (tail_is text c.loop-piece.at) c.loop-piece-test.true
          (get_or_default c.args.pieces.now c.loop-piece.piece-index _ _ c.loop-piece-test.true) c.hole-before.ensures.value c.min-at.ensures)
          c.loop-piece.invariant.text (c.put.ensures ▷ c.piece.ensures);
      within = omega (arith, c.min-at.ensures);
    }

pub returns : goal.returns
returns g c = up_rest _ _ _ _ _ _ (filled_end _ c.args.pieces.now c.loop-piece.piece-index (omega arith) ∙ sym (tail_is c.args.text.now c.loop-piece.at)) c.loop-piece.invariant.text c.put-2.ensures
