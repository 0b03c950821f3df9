use Rattle.std.proofs.Common.{◌≡◌, drop}
use Rattle.kp_timing.specs.Unfit.{first_of, guesses_in}
use Rattle.kp_timing.proofs.unfit.first_in.Given as goal

abbrev pub invariant-loop-stmt : goal.invariant-loop-stmt
invariant-loop-stmt l = first_of l.first (guesses_in (drop l.stmt-index l.stmts)) ≡ first_of l.initial.first (guesses_in l.stmts)
