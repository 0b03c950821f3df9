use Rattle.std.proofs.Common.{◌≡◌, take}
use Rattle.kp_machine.specs.Machine.{values_in}
use Rattle.kp_seq.specs.Running.{state}
use Rattle.kp_diagram_labels.specs.Texts.{words_in}
use Rattle.kp_diagram_labels.proofs.trace.values_next.Given as goal

abbrev pub invariant-loop-label : goal.invariant-loop-label
invariant-loop-label l =
    (l.values.items ≡ words_in l.layout (state l.initial.machine) (values_in l.row) (take l.label-index l.labels))
    × (l.machine ≡ l.initial.machine)
