use Rattle.std.proofs.Common.{◌≡◌, ◌++◌, map, drop}
use Rattle.kp_design.specs.{Numbers.guesses_from, inner.Tables.short_guess}
use Rattle.kp_design.proofs.tables.guesses.Given as goal

abbrev pub invariant-loop-k : goal.invariant-loop-k
invariant-loop-k l = l.slots.items ++ map short_guess (guesses_from l.job l.k (drop l.k l.job.blocks)) ≡ map short_guess (guesses_from l.job 0 l.job.blocks)
