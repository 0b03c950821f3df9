use Rattle.std.proofs.Common.{◌≡◌, ◌≤◌, ◌<◌, ℕ, ◌++◌, false, get_or, map, All}
use Rattle.kp_base.{specs.Lines.is_blank, specs.Lines.piece_of, specs.Lines.words_of, specs.Lines.IsWithin, proofs.Splitting.words_left}
use Rattle.kp_base.proofs.run.words_in.Given as goal

abbrev pub invariant-loop-i : goal.invariant-loop-i
invariant-loop-i l = record {
  words : map (piece_of l.text) l.words.items ++ words_left l.text l.at l.line.end ≡ words_of (piece_of l.text l.line);
  within : All (IsWithin l.text) l.words.items;
  behind : l.at ≤ l.i;
  clean : (k : ℕ) → l.at ≤ k → k < l.i → is_blank (get_or l.text k 0) ≡ false;
}
