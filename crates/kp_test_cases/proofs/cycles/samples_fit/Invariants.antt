use Rattle.std.proofs.Common.{◌≡◌, ℕ, ◌<◌, get_or}
use Rattle.kp_bits.specs.Operators.{no_word}
use Rattle.kp_net.specs.Parts.{no_port}
use Rattle.kp_test_cases.proofs.cycles.samples_fit.Given as goal

abbrev pub invariant-loop-i : goal.invariant-loop-i
invariant-loop-i l = (s : ℕ) → s < l.i → (get_or l.samples s no_word).width ≡ (get_or l.ports s no_port).width
