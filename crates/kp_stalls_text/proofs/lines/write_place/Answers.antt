use Rattle.std.proofs.Common.{◌≡◌, ◌∙◌, true, false, sym}
use Rattle.kp_stalls_text.specs.{Labels.Labelled, Labels.label_at}
use Rattle.kp_stalls_text.proofs.lines.write_place.Goals as goal

pub returns-then-is_file : goal.returns-then-is_file
returns-then-is_file g c =
    let l : Labelled = label_at c.args.report.now.labels c.args.wait.read in
    let file : l.file ≡ true = sym (rw c.labels-labels.ensures at c.is_file.ensures) ∙ c.if-is_file.true in
    rw file (rw (c.name_of.ensures, c.from-then-is_file.ensures, c.from.ensures, c.line_of.ensures, c.labels-labels.ensures) at c.fill.ensures)

pub returns-else-is_file : goal.returns-else-is_file
returns-else-is_file g c =
    let l : Labelled = label_at c.args.report.now.labels c.args.wait.read in
    let file : l.file ≡ false = sym (rw c.labels-labels.ensures at c.is_file.ensures) ∙ c.if-is_file.false in
    rw file (rw (c.name_of.ensures, c.from.ensures, c.line_of.ensures, c.labels-labels.ensures) at c.fill-else-is_file.ensures)
