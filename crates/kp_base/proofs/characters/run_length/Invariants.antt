use Rattle.std.proofs.Common.{◌≡◌, ◌+◌, ℕ, Bool, drop}
use Rattle.kp_base.specs.Characters.{run_length, Computes}
use Rattle.kp_base.proofs.characters.run_length.Given as goal

abbrev pub invariant-loop-i : goal.invariant-loop-i
invariant-loop-i g l = (passes : ℕ → Bool) → Computes (goal.F-post g l.test) passes → l.i + run_length passes (drop l.i l.text) ≡ run_length passes l.text
