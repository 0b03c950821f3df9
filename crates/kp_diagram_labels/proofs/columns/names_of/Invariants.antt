use Rattle.std.proofs.Common.{◌≡◌, take}
use Rattle.kp_diagram_labels.specs.Texts.{names_text}
use Rattle.kp_diagram_labels.proofs.columns.names_of.Given as goal

abbrev pub invariant-loop-label : goal.invariant-loop-label
invariant-loop-label l = l.out.items ≡ names_text l.layout l.text (take l.label-index l.labels)
