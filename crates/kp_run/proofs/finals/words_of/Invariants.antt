use Rattle.std.proofs.Common.{◌≡◌, ◌<◌, ℕ, length, get_or}
use Rattle.kp_bits.specs.Word.{word}
use Rattle.kp_machine.specs.Words.{target}
use Rattle.kp_implements.specs.Naming.{value_shown}
use Rattle.kp_run.proofs.finals.words_of.Given as goal

abbrev pub invariant-loop-address : goal.invariant-loop-address
invariant-loop-address l =
    (length l.words.items ≡ l.address)
    × ((b : ℕ) → b < l.address → get_or l.words.items b (word 0 0) ≡ word (target l.design.job l.t).width (value_shown l.design.job l.sim.net l.sim.state l.t b))
