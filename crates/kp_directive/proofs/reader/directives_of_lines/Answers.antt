use Rattle.std.proofs.{Common.◌<◌, Common.◌+◌, Common.drop, Common.get_or, Common.length, Common.map, Common.ap, Common.arith, lemmas.List.drop_more}
use Rattle.kp_base.specs.{Lines.piece_of, declared.run.Run.Run}
use Rattle.kp_directive.proofs.Turns.{next_line}
use Rattle.kp_directive.proofs.reader.directives_of_lines.Goals as goal

pub loop-line-preserved : goal.loop-line-preserved
loop-line-preserved c =
    let text = c.args.text.now in
    let lines = c.args.lines.now in
    let i = c.loop-line.line-index in
    let none : Run = record { at = 0; end = 0 } in
    let inside : i < length lines = omega arith in (
      next_line c.loop-line.found.items c.add_line.new.found.items _ (piece_of text (get_or lines i none)) (map (piece_of text) (drop i lines)) (map (piece_of text) (drop (i + 1) lines))
          (ap (map (piece_of text)) (drop_more lines i none inside)) c.in_ok-add_line.ensures.added c.loop-line.invariant.0,
      c.in_ok-add_line.ensures.within,
    )
