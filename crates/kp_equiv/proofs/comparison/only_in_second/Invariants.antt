use Rattle.std.proofs.Common.{◌≡◌, ℕ, ◌<◌, true}
use Rattle.kp_net.specs.Names.{among}
use Rattle.kp_equiv.specs.Alike.{reg_name}
use Rattle.kp_equiv.proofs.comparison.only_in_second.Given as goal

abbrev pub invariant-loop-i : goal.invariant-loop-i
invariant-loop-i l = (k : ℕ) → k < l.i → among l.regs (reg_name l.b k) ≡ true
