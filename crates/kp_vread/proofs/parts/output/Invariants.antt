use Rattle.std.proofs.Common.{◌≡◌, drop}
use Rattle.kp_vread.specs.inner.Parts.{output_by}
use Rattle.kp_vread.proofs.parts.output.Given as goal

abbrev pub invariant-loop-item : goal.invariant-loop-item
invariant-loop-item l = output_by l.wires l.out (drop l.item-index l.items) ≡ output_by l.wires l.out l.items
