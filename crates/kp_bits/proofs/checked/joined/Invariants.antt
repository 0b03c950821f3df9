use Rattle.std.proofs.Common.{◌≡◌, drop}
use Rattle.kp_bits.specs.Checked.{checked_join}
use Rattle.kp_bits.proofs.checked.joined.Given as goal

abbrev pub invariant-loop-part : goal.invariant-loop-part
invariant-loop-part l = checked_join l.all (drop l.part-index l.rest) ≡ checked_join l.initial.all l.rest
