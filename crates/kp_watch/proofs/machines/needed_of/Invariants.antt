use Rattle.std.proofs.Common.{◌≡◌, ◌<◌, ℕ, length, get_or, true, false}
use Rattle.kp_watch.proofs.machines.needed_of.Given as goal

abbrev pub invariant-loop-t : goal.invariant-loop-t
invariant-loop-t l = (length l.needed.items ≡ l.count) × ((t : ℕ) → t < l.t → get_or l.needed.items (get_or l.homes t 0) false ≡ true)
