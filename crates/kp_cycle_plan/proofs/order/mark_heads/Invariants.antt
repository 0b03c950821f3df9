use Rattle.std.proofs.Common.{◌≡◌, ◌<◌, ℕ, length}
use Rattle.kp_cycle_plan.specs.Plans.{IsMarked}
use Rattle.kp_cycle_plan.proofs.order.mark_heads.Given as goal

abbrev pub invariant-loop-i : goal.invariant-loop-i
invariant-loop-i l = (length l.done ≡ length l.fn.done) × ((j : ℕ) → j < l.i → IsMarked l.done j) × ((j : ℕ) → IsMarked l.done j → j < l.i)
