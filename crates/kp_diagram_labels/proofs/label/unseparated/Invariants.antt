use Rattle.std.proofs.Common.{◌≡◌, map, take}
use Rattle.kp_diagram_labels.specs.Labels.{unseparated}
use Rattle.kp_diagram_labels.proofs.label.unseparated.Given as goal

abbrev pub invariant-loop-byte : goal.invariant-loop-byte
invariant-loop-byte l = l.plain.items ≡ map unseparated (take l.byte-index l.text)
