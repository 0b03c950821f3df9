use Rattle.std.proofs.Common.{◌≡◌, ◌-◌}
use Rattle.kp_stalls.specs.Causes.{all_retire}
use Rattle.kp_stalls.proofs.misprediction.all_retire.Given as goal

abbrev pub invariant-loop-j : goal.invariant-loop-j
invariant-loop-j l = all_retire l.occupants (l.stages - l.j) l.j ≡ all_retire l.occupants (l.stages - l.from) l.from
