use Rattle.std.proofs.Common.{◌≡◌, ◌<◌, ℕ, false, get_or}
use Rattle.kp_base.specs.declared.run.Run.{Run}
use Rattle.kp_until.proofs.Comments.{begins}
use Rattle.kp_until.proofs.lines.uncommented.Given as goal

abbrev pub invariant-loop-k : goal.invariant-loop-k
invariant-loop-k l = (j : ℕ) (d : Run) → j < l.k → begins l.text (get_or l.words j d) ≡ false
