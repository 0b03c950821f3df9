use Rattle.std.proofs.Common.{◌≤◌, drop, map, length}
use Rattle.kp_vread_rules.specs.inner.{Listed.occurrence_of, Sets.AlikeDriven, Sets.all_by}
use Rattle.kp_vread_rules.proofs.driver_rule.drive_all.Given as goal

abbrev pub invariant-names : goal.invariant-names
invariant-names l = (l.left ≤ length l.fn.names) × AlikeDriven l.all (all_by (map occurrence_of (drop l.left l.fn.names)) l.initial.all)

abbrev pub decreases-names : goal.decreases-names
decreases-names l = l.left
