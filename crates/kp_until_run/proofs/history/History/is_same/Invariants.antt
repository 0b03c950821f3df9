use Rattle.std.proofs.Common.{◌≡◌, ◌+◌, ◌<◌, ◌≤◌, ℕ}
use Rattle.kp_bits.specs.Word.{Word}
use Rattle.kp_until_run.specs.inner.Histories.{Remembers, address_at}
use Rattle.kp_until_run.proofs.history.History.is_same.Given as goal

abbrev pub invariant-loop-i : goal.invariant-loop-i
invariant-loop-i l = (f : ℕ → ℕ → Word) (size : ℕ) → Remembers f size l.self → l.self.count ≤ l.c + 16 → l.d ≤ l.self.count
    → (k : ℕ) → l.c ≤ k → k < l.i → (f l.c (address_at l.self k)).value ≡ (f l.d (address_at l.self k)).value
