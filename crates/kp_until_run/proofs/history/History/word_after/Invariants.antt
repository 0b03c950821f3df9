use Rattle.std.proofs.Common.{◌≡◌, ◌+◌, ◌≤◌, ℕ}
use Rattle.kp_bits.specs.Word.{Word}
use Rattle.kp_until_run.specs.inner.Histories.{Remembers}
use Rattle.kp_until_run.proofs.history.History.word_after.Given as goal

abbrev pub invariant-loop-i : goal.invariant-loop-i
invariant-loop-i l = (f : ℕ → ℕ → Word) (size : ℕ) → Remembers f size l.self → l.self.count ≤ l.c + 16 → l.c ≤ l.self.count → f l.c l.address ≡ f l.i l.address
