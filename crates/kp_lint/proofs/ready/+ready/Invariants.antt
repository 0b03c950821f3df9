use Rattle.std.proofs.Common.{◌≡◌, drop, map, Some}
use Rattle.kp_lint.specs.Tables.{value_of}
use Rattle.kp_lint.specs.Ready.{latest, ready}
use Rattle.kp_lint.proofs.ready.+ready.Given as goal

abbrev pub invariant-latest-loop-e : goal.invariant-latest-loop-e
invariant-latest-loop-e l = latest l.stage (map (ready (value_of l.pipes.entries)) (drop l.e-index l.es)) ≡ latest (Some 0) (map (ready (value_of l.pipes.entries)) l.es)
