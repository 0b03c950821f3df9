use Rattle.std.proofs.Common.{arith}
use Rattle.kp_cycle_plan.proofs.memory.Memory.reg.Goals as goal

pub get-requires-clause-within : goal.get-requires-clause-within
get-requires-clause-within c =
    let regs = c.self.invariant.0.apart.within 0 (omega arith) in
    omega (arith, regs, c.self.invariant.1)
