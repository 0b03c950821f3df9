use Rattle.std.proofs.Common.{◌≡◌, ◌+◌, ◌≤◌, [], drop, map}
use Rattle.std.specs.List.{All}
use Rattle.kp_base.specs.Lines.{lines_of, piece_of}
use Rattle.kp_until.specs.Expected.{read_from, IsCheck}
use Rattle.kp_until.proofs.lines.read_expected.Given as goal

abbrev pub invariant-loop-i : goal.invariant-loop-i
invariant-loop-i l = record {
  rest : read_from l.layout l.count l.checks.items (l.i + 1) (map (piece_of l.text) (drop l.i l.lines.items)) ≡ read_from l.layout 0 [] 1 (map (piece_of l.text) l.lines.items);
  few : l.count ≤ l.i;
  fit : All (IsCheck l.layout) l.checks.items;
}
