use Rattle.std.proofs.Common.{◌≡◌, map, take}
use Rattle.kp_cycle_plan.specs.Storage.{Fits}
use Rattle.kp_cycle_plan.proofs.memory.fill_files.Given as goal

abbrev pub invariant-loop-i : goal.invariant-loop-i
invariant-loop-i l = Fits l.net l.memory × (l.memory.regs ≡ l.fn.memory.regs) × (take l.i l.memory.files ≡ map (λ f. f.words) (take l.i l.net.parts.files)) × (l.memory.slots ≡ l.fn.memory.slots) × (l.memory.nodes ≡ l.fn.memory.nodes)
