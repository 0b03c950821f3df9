use Rattle.std.proofs.Common.{◌≡◌, ◌+◌, ℕ, drop, get_or}
use Rattle.kp_image.specs.inner.Laid.{laid_from}
use Rattle.kp_image.proofs.state.lay.Given as goal

abbrev pub invariant-loop-i : goal.invariant-loop-i
invariant-loop-i l =
    (x : ℕ) → laid_from (drop l.i l.values) (l.first + l.i) x (get_or l.words x 0) ≡ laid_from l.values l.first x (get_or l.initial.words x 0)
