use Rattle.std.proofs.Common.{◌≡◌, [], drop}
use Rattle.kp_asm.specs.Program.{labels_from}
use Rattle.kp_asm.proofs.labels.Labels.of.Given as goal

abbrev pub invariant-loop-item : goal.invariant-loop-item
invariant-loop-item l = labels_from l.text l.labels (drop l.item-index l.items) ≡ labels_from l.text [] l.items
