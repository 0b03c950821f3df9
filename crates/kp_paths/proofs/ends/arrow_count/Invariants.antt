use Rattle.std.proofs.Common.{◌≡◌, ◌+◌, ◌-◌, ◌≤◌, length}
use Rattle.kp_paths.specs.Arrows.{arrows, arrows_from}
use Rattle.kp_paths.proofs.ends.arrow_count.Given as goal

abbrev pub invariant-loop-j : goal.invariant-loop-j
invariant-loop-j l = record {
  value : l.count + length (arrows_from l.paths l.read l.k l.j (l.paths.stages.value - l.j)) ≡ length (arrows l.paths l.read l.k);
  few : l.count ≤ l.j;
}
