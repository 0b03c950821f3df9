use Rattle.std.proofs.Common.{◌≡◌, ◌≤◌, ◌<◌, ℕ, [], drop, false, get_or}
use Rattle.kp_base.specs.Lines.{is_break, lines_of}
use Rattle.kp_debug_script.specs.{Scripts.commands_of, inner.Reading.behind}
use Rattle.kp_debug_script.proofs.Turns.{left_from}
use Rattle.kp_debug_script.proofs.script.read_lines.Given as goal

abbrev pub invariant-loop-i : goal.invariant-loop-i
invariant-loop-i l = record {
  commands : behind l.commands.items (left_from l.text l.decls l.at) ≡ behind [] (commands_of l.decls (lines_of (record { at = l.script.at; bytes = drop l.script.at l.text })));
  after : l.at ≤ l.i;
  clean : (k : ℕ) → l.at ≤ k → k < l.i → is_break (get_or l.text k 0) ≡ false;
}
