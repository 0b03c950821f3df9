use Rattle.std.proofs.Common.{◌≡◌, ◌<◌, ℕ, length, get_or}
use Rattle.kp_bits.specs.Word.{Word}
use Rattle.kp_run.specs.Places.{word_at}
use Rattle.kp_until_run.proofs.past.words_in.Given as goal

abbrev pub invariant-loop-address : goal.invariant-loop-address
invariant-loop-address l = record {
  count : length l.words.items ≡ l.address;
  each : (a : ℕ) (d : Word) → a < l.address → get_or l.words.items a d ≡ word_at l.sim l.place a;
}
