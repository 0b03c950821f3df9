use Rattle.std.proofs.Common.{◌≡◌, ◌*◌, ◌≤◌, take}
use Rattle.std.specs.List.{sum_by}
use Rattle.kp_depth.specs.Delay.{free_part}
use Rattle.kp_depth.proofs.delay.free_parts.Given as goal

abbrev pub invariant-loop-part : goal.invariant-loop-part
invariant-loop-part l = (l.bits ≡ sum_by (free_part l.nodes) (take l.part-index l.parts)) × (l.bits ≤ 255 * l.part-index)
