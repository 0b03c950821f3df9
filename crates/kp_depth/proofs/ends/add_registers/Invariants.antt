use Rattle.std.proofs.Common.{◌≡◌, ◌++◌}
use Rattle.kp_depth.specs.Ends.{each_below, register_ends}
use Rattle.kp_depth.proofs.ends.add_registers.Given as goal

abbrev pub invariant-loop-r : goal.invariant-loop-r
invariant-loop-r l = l.ends.items ≡ l.fn.ends.items ++ each_below (register_ends l.layout l.net) l.r
