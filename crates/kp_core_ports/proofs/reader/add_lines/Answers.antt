use Rattle.std.proofs.{Common.◌+◌, Common.◌<◌, Common.length, Common.get_or, Common.drop, Common.map, Common.ap, Common.arith, lemmas.List.drop_more}
use Rattle.kp_base.specs.{Lines.piece_of, declared.run.Run.Run}
use Rattle.kp_core_ports.proofs.Turns.{next_line}
use Rattle.kp_core_ports.proofs.reader.add_lines.Goals as goal

pub loop-line-preserved : goal.loop-line-preserved
loop-line-preserved c =
    let text = c.args.text.now in
    let lines = c.args.lines.now in
    let i = c.loop-line.line-index in
    let none : Run = record { at = 0; end = 0 } in
    let inside : i < length lines = omega arith in
    record {
      rest = next_line c.args.layout.now text c.loop-line.ports.items c.add_line.new.ports.items (piece_of text (get_or lines i none)) (map (piece_of text) (drop i lines))
          (map (piece_of text) (drop (i + 1) lines)) _ (ap (map (piece_of text)) (drop_more lines i none inside)) c.in_ok-add_line.ensures.added c.loop-line.invariant.rest;
      exist = c.in_ok-add_line.ensures.exist;
    }
