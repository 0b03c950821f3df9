use Rattle.std.proofs.Common.{◌≡◌, ◌*◌, ◌≤◌}
use Rattle.kp_depth.specs.Depths.{bits_below}
use Rattle.kp_depth.proofs.stages.bits_in.Given as goal

abbrev pub invariant-loop-r : goal.invariant-loop-r
invariant-loop-r l = (l.bits ≡ bits_below l.layout l.net l.stage l.r) × (l.bits ≤ 255 * l.r)
