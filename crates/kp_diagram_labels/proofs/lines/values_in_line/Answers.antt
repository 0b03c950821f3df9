use Rattle.std.proofs.{Common.All, Common.subst, Common.sym, lemmas.List.Elements.All-weaker}
use Rattle.kp_diagram_labels.specs.{Labels.HasShown, Labels.IsLabel, declared.label.Label.Label}
use Rattle.kp_diagram_labels.proofs.lines.values_in_line.Goals as goal

pub values_next-requires-clause-labels : goal.values_next-requires-clause-labels
values_next-requires-clause-labels c =
    let asked = c.args.asked.now in
    let job = asked.job.now.design.job in
    subst (λ j. All (λ (l : Label). HasShown j l.shown) asked.labels.now) (sym c.requires.layout)
    (All-weaker (IsLabel job asked.text.now) (λ (l : Label). HasShown job l.shown) (λ l is. is.there) asked.labels.now c.requires.labels)
