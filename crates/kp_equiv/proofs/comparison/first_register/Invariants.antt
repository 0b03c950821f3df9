use Rattle.std.proofs.Common.{ℕ, ◌<◌}
use Rattle.kp_equiv.specs.{Alike.reg_name, Agreement.RegisterAgrees}
use Rattle.kp_equiv.proofs.comparison.first_register.Given as goal

abbrev pub invariant-loop-i : goal.invariant-loop-i
invariant-loop-i l = (k : ℕ) → k < l.i → RegisterAgrees l.a l.b (reg_name l.a k)
