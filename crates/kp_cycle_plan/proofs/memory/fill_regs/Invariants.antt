use Rattle.std.proofs.Common.{◌≡◌, map, take}
use Rattle.kp_cycle_plan.specs.Storage.{Fits}
use Rattle.kp_cycle_plan.proofs.memory.fill_regs.Given as goal

abbrev pub invariant-loop-i : goal.invariant-loop-i
invariant-loop-i l = Fits l.net l.memory × (take l.i l.memory.regs ≡ map (λ r. r.start.value) (take l.i l.net.parts.regs)) × (l.memory.files ≡ l.fn.memory.files) × (l.memory.slots ≡ l.fn.memory.slots) × (l.memory.nodes ≡ l.fn.memory.nodes)
