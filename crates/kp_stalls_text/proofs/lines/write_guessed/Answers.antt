use Rattle.std.proofs.Common.{ap, sym}
use Rattle.kp_base.proofs.Writing.{◌▷◌, wrote_as}
use Rattle.kp_stalls_text.specs.{Labels.label_at, Text.guessed_text}
use Rattle.kp_stalls_text.proofs.lines.write_guessed.Goals as goal

pub returns-in-Some : goal.returns-in-Some
returns-in-Some g c =
    wrote_as _ _ _ _ (ap (guessed_text (label_at c.args.report.now.labels c.args.read)) (sym c.in-Some.is))
    ((rw (c.name_of-name.ensures, c.labels-labels.ensures) at c.fill.ensures)
    ▷ (c.write_spelled.ensures ▷ (rw (c.from-line.ensures, c.line_of.ensures, c.labels-labels.ensures) at c.pieces.ensures)))

pub returns-in-None : goal.returns-in-None
returns-in-None g c =
    wrote_as _ _ _ _ (ap (guessed_text (label_at c.args.report.now.labels c.args.read)) (sym c.in-None.is))
    (rw (c.name_of-name.ensures, c.from-line.ensures, c.line_of.ensures, c.labels-labels.ensures) at c.fill-in-None.ensures)
