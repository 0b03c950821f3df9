use Rattle.std.{proofs.Common.◌≡◌, proofs.Common.◌≤◌, proofs.Common.◌<◌, proofs.Common.ℕ, proofs.Common.false, specs.Prelude.slice_range}
use Rattle.kp_core_ports.specs.Ports.{begins_comment}
use Rattle.kp_core_ports.proofs.words.uncommented.Given as goal

abbrev pub invariant-loop-i : goal.invariant-loop-i
invariant-loop-i l = (k : ℕ) → l.line.at ≤ k → k < l.i → begins_comment (slice_range l.text k l.line.end) ≡ false
