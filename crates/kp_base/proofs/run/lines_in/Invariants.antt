use Rattle.std.proofs.Common.{◌≡◌, ◌≤◌, ◌<◌, ℕ, ◌++◌, false, get_or, map, All}
use Rattle.kp_base.{specs.Lines.is_break, specs.Lines.piece_of, specs.Lines.lines_of, specs.Lines.IsWithin, proofs.Splitting.between}
use Rattle.kp_base.proofs.run.lines_in.Given as goal

abbrev pub invariant-loop-i : goal.invariant-loop-i
invariant-loop-i l = record {
  lines : map (piece_of l.text) l.lines.items ++ between is_break l.text l.at l.run.end ≡ lines_of (piece_of l.text l.run);
  within : All (IsWithin l.text) l.lines.items;
  after : l.at ≤ l.i;
  clean : (k : ℕ) → l.at ≤ k → k < l.i → is_break (get_or l.text k 0) ≡ false;
}
