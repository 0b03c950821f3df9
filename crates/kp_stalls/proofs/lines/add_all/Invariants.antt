use Rattle.std.proofs.Common.{◌≡◌, ◌++◌, ◌≤◌}
use Rattle.kp_stalls.specs.Causes.{lines_down}
use Rattle.kp_stalls.proofs.lines.add_all.Given as goal

abbrev pub invariant-loop-k : goal.invariant-loop-k
invariant-loop-k l = record {
  within : l.k ≤ l.sites.stages;
  same : l.lines.items ++ lines_down l.sites l.cycle l.occupants l.k ≡ l.initial.lines.items ++ lines_down l.sites l.cycle l.occupants l.sites.stages;
}

abbrev pub decreases-loop-k : goal.decreases-loop-k
decreases-loop-k l = l.k
