use Rattle.std.proofs.Common.{◌≡◌, ◌++◌, drop}
use Rattle.kp_vread.specs.inner.Parts.{files_by}
use Rattle.kp_vread.proofs.parts.files.Given as goal

abbrev pub invariant-loop-item : goal.invariant-loop-item
invariant-loop-item l = l.all.items ++ files_by l.from.sizes.now l.from.wires.now l.from.inits.now l.from.updates.now (drop l.item-index l.items) ≡ files_by l.from.sizes.now l.from.wires.now l.from.inits.now l.from.updates.now l.items
