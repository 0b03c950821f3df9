use Rattle.std.proofs.Common.{◌≡◌, ℕ, ◌<◌, get_or, None}
use Rattle.kp_same.proofs.difference.first_difference.Given as goal

abbrev pub invariant-loop-target : goal.invariant-loop-target
invariant-loop-target l = (u : ℕ) → u < l.target → get_or l.fn.left u None ≡ get_or l.fn.right u None
