use Rattle.std.proofs.Common.{◌≡◌, drop}
use Rattle.kp_machine.specs.Slots.{targets_of}
use Rattle.kp_vread.specs.Matching.{of_registers}
use Rattle.kp_vread.proofs.job_match.of_registers.Given as goal

abbrev pub invariant-loop-register : goal.invariant-loop-register
invariant-loop-register l = of_registers (targets_of l.decls) l.register (drop l.register l.regs) ≡ of_registers (targets_of l.decls) 0 l.regs
