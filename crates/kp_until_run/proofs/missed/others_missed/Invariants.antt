use Rattle.std.proofs.Common.{◌≡◌, ◌<◌, ℕ, false}
use Rattle.std.specs.List.{list_any}
use Rattle.kp_seq.specs.Running.{state}
use Rattle.kp_until.specs.Expected.{names}
use Rattle.kp_until_run.proofs.missed.others_missed.Given as goal

abbrev pub invariant-loop-a : goal.invariant-loop-a
invariant-loop-a l = (b : ℕ) → b < l.a → list_any (names l.t b) l.all ≡ false → state l.contents l.t b ≡ l.expected.value
