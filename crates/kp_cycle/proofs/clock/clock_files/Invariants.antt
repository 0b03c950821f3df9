use Rattle.std.proofs.Common.{◌≡◌}
use Rattle.kp_cycle_plan.specs.Storage.{Fits}
use Rattle.kp_cycle.proofs.Clocking.{Written}
use Rattle.kp_cycle.proofs.clock.clock_files.Given as goal

abbrev pub invariant-loop-i : goal.invariant-loop-i
invariant-loop-i l = Fits l.net l.memory × (l.memory.nodes ≡ l.fn.memory.nodes) × (l.memory.regs ≡ l.fn.memory.regs) × Written l.net.parts.files l.fn.memory.nodes l.fn.memory.files l.memory.files l.i × (l.memory.slots ≡ l.fn.memory.slots)
