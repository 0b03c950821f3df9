use Rattle.std.proofs.Common.{◌≡◌, ◌+◌, ◌<◌, ◌≤◌, ℕ, length, get_or}
use Rattle.kp_bits.specs.Word.{Word}
use Rattle.kp_run.specs.Places.{words_at}
use Rattle.kp_until_run.specs.inner.Histories.{Remembers}
use Rattle.kp_until_run.proofs.contents.words_of.Given as goal

abbrev pub invariant-loop-a : goal.invariant-loop-a
invariant-loop-a l = record {
  count : length l.words.items ≡ l.a;
  before : (f : ℕ → ℕ → Word) (b : ℕ) (d : Word) → Remembers f (words_at l.fn.place) l.history → l.history.count ≤ l.count + 16 → l.count ≤ l.history.count → b < l.a
      → get_or l.words.items b d ≡ f l.count b;
  all : (f : ℕ → ℕ → Word) (b : ℕ) (d : Word) → Remembers f (words_at l.fn.place) l.history → l.history.count ≤ l.count → b < l.a → get_or l.words.items b d ≡ f l.history.count b;
}
