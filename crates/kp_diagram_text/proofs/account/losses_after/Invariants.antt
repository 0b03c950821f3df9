use Rattle.std.proofs.Common.{◌≡◌, ℕ, ◌+◌, ◌≤◌, length}
use Rattle.kp_sched.specs.Rows.{bit_of, row_seen}
use Rattle.kp_diagram.specs.Diagram.{losses_after as next_losses}
use Rattle.kp_diagram_text.specs.Losses.{losses_shown}
use Rattle.kp_diagram_text.proofs.account.losses_after.Given as goal

abbrev pub invariant-loop-k : goal.invariant-loop-k
invariant-loop-k l =
    (length l.after ≡ 12)
    × ((j : ℕ) → j ≤ l.k → losses_shown l.after j ≡ next_losses (bit_of l.word) (row_seen (l.last + 1) l.row) (losses_shown l.losses) j)
