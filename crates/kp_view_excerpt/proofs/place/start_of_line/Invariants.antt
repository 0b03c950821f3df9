use Rattle.std.proofs.Common.{◌≡◌, ◌-◌, ◌≤◌, ◌<◌, drop}
use Rattle.kp_view_excerpt.specs.Lines.{after_lines}
use Rattle.kp_view_excerpt.proofs.place.start_of_line.Given as goal

abbrev pub invariant-loop-i : goal.invariant-loop-i
invariant-loop-i l = record {
  first : 1 ≤ l.at;
  before : l.at < l.number;
  rest : after_lines (l.number - l.at) (drop l.i l.text) ≡ after_lines (l.number - 1) l.text;
}
