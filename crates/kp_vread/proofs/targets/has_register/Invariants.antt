use Rattle.std.proofs.Common.{◌≡◌, drop, codes, ◌++◌}
use Rattle.kp_vread.specs.Matching.{has_register}
use Rattle.kp_vread.proofs.targets.has_register.Given as goal

abbrev pub invariant-loop-reg : goal.invariant-loop-reg
invariant-loop-reg l = has_register (drop l.reg-index l.regs) (codes "r_" ++ l.name) l.width ≡ has_register l.regs (codes "r_" ++ l.name) l.width
