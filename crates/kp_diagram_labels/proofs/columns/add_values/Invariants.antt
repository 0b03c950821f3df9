use Rattle.std.proofs.Common.{◌≡◌, ◌++◌, drop}
use Rattle.kp_diagram_labels.specs.Texts.{values_text}
use Rattle.kp_diagram_labels.proofs.columns.add_values.Given as goal

abbrev pub invariant-loop-i : goal.invariant-loop-i
invariant-loop-i l =
    l.out.items ++ values_text l.layout l.text (drop l.i l.labels) (drop l.i l.values) ≡ l.initial.out.items ++ values_text l.layout l.text l.labels l.values
