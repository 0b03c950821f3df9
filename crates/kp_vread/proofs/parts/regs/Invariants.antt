use Rattle.std.proofs.Common.{◌≡◌, ◌++◌, drop}
use Rattle.kp_vread.specs.inner.Parts.{regs_by}
use Rattle.kp_vread.proofs.parts.regs.Given as goal

abbrev pub invariant-loop-item : goal.invariant-loop-item
invariant-loop-item l = l.all.items ++ regs_by l.starts l.nexts (drop l.item-index l.items) ≡ regs_by l.starts l.nexts l.items
