use Rattle.std.proofs.Common.{◌≡◌, ◌<◌, ℕ, length, get_or}
use Rattle.kp_net.specs.Parts.{no_file}
use Rattle.kp_cycle_plan.specs.{Latches.OfLatch, Latches.latch_for, Plans.IsMarked, Plans.OfPort}
use Rattle.kp_cycle_plan.proofs.order.mark_roots.Given as goal

abbrev pub invariant-loop-i : goal.invariant-loop-i
invariant-loop-i l = (length l.marks ≡ length l.net.nodes) × ((r : ℕ) → r < l.i → OfLatch (IsMarked l.marks) (latch_for l.net r))

abbrev pub invariant-loop-i-2 : goal.invariant-loop-i-2
invariant-loop-i-2 l = (length l.marks ≡ length l.net.nodes) × ((r : ℕ) → r < length l.net.parts.regs → OfLatch (IsMarked l.marks) (latch_for l.net r))
    × ((f : ℕ) → f < l.i → OfPort (IsMarked l.marks) (get_or l.net.parts.files f no_file).port)
