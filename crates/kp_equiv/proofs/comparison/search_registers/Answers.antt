use Rattle.kp_equiv.proofs.Listed.{regs_listed}
use Rattle.kp_equiv.proofs.comparison.search_registers.Goals as goal

pub first_register-requires-clause-names : goal.first_register-requires-clause-names
first_register-requires-clause-names c = regs_listed c.args.b.now c.parts.result.now _ _ c.parts.ensures.parts c.as_slice.ensures c.in_ok-names.ensures
