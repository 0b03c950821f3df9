use Rattle.std.proofs.{Common.◌<◌, Common.◌+◌, Common.drop, Common.get_or, Common.length, Common.map, Common.ap, Common.arith, lemmas.List.drop_more}
use Rattle.kp_base.specs.{Lines.piece_of, declared.run.Run.Run}
use Rattle.kp_listing.{specs.Seen.entry_seen, proofs.Turns.next_line}
use Rattle.kp_listing.proofs.listing.entries_from.Goals as goal

pub loop-line-preserved : goal.loop-line-preserved
loop-line-preserved c =
    let text = c.args.text.now in
    let lines = c.args.lines.now in
    let i = c.loop-line.line-index in
    let none : Run = record { at = 0; end = 0 } in
    let inside : i < length lines = omega arith in
    next_line (map entry_seen c.loop-line.entries.items) (map entry_seen c.add_line.new.entries.items) _ (piece_of text (get_or lines i none)) (map (piece_of text) (drop i lines))
    (map (piece_of text) (drop (i + 1) lines)) (ap (map (piece_of text)) (drop_more lines i none inside)) c.in_ok-add_line.ensures c.loop-line.invariant
