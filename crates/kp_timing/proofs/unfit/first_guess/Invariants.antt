use Rattle.std.proofs.Common.{◌≡◌, drop}
use Rattle.kp_timing.specs.Unfit.{first_of, guesses_at}
use Rattle.kp_timing.proofs.unfit.first_guess.Given as goal

abbrev pub invariant-loop-block : goal.invariant-loop-block
invariant-loop-block l = first_of l.first (guesses_at (drop l.block-index l.blocks)) ≡ first_of l.initial.first (guesses_at l.blocks)
