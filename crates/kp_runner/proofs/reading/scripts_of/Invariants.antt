use Rattle.std.proofs.Common.{◌≡◌, drop, map}
use Rattle.std.specs.List.{All}
use Rattle.kp_until.specs.Expected.{IsCheck, script_of}
use Rattle.kp_runner.specs.{Reading.scripts_from, Reading.file_seen}
use Rattle.kp_runner.proofs.reading.scripts_of.Given as goal

abbrev pub invariant-loop-k : goal.invariant-loop-k
invariant-loop-k l = record {
  rest : scripts_from l.layout (map script_of l.scripts.items) (map file_seen (drop l.k l.files)) ≡ scripts_from l.layout (map script_of l.initial.scripts.items) (map file_seen l.files);
  fit : All (λ e. All (IsCheck l.layout) e.checks.items) l.scripts.items;
}
