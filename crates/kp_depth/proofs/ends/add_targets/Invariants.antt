use Rattle.std.proofs.Common.{◌≡◌, ◌++◌, ◌≤◌}
use Rattle.kp_machine.specs.{Machine.registers_before, Slots.targets_of}
use Rattle.kp_depth.specs.Ends.{each_below, target_ends}
use Rattle.kp_depth.proofs.ends.add_targets.Given as goal

abbrev pub invariant-loop-t : goal.invariant-loop-t
invariant-loop-t l = (l.ends.items ≡ l.fn.ends.items ++ each_below (target_ends l.layout l.net) l.t)
    × (l.before ≡ registers_before (targets_of l.layout.decls) l.t) × (l.before ≤ l.t)
