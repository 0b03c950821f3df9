use Rattle.std.proofs.Common.{◌≡◌, ◌+◌, ◌*◌, ◌^◌, ◌≤◌, drop}
use Rattle.kp_vlog.specs.Rules.{width_sum}
use Rattle.kp_vread_rules.proofs.width_fault.width_sum.Given as goal

abbrev pub invariant-loop-part : goal.invariant-loop-part
invariant-loop-part l = (l.sum ≤ l.part-index * 2 ^ 64) × (l.sum + width_sum l.asked.sizes.now (drop l.part-index l.parts) ≡ width_sum l.asked.sizes.now l.parts)
