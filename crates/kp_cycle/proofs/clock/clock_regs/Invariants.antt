use Rattle.std.proofs.Common.{◌≡◌, length}
use Rattle.kp_cycle_plan.specs.Storage.{Fits}
use Rattle.kp_cycle.proofs.Latching.{Moving, Holding}
use Rattle.kp_cycle.proofs.clock.clock_regs.Given as goal

abbrev pub invariant-loop-i : goal.invariant-loop-i
invariant-loop-i l = Fits l._net l.memory × (l.memory.nodes ≡ l.fn.memory.nodes) × (l.memory.files ≡ l.fn.memory.files) × (l.memory.slots ≡ l.fn.memory.slots)
    × Moving l._net l.fn.memory.nodes l.fn.memory.regs l.memory.regs l.moved l.i

abbrev pub invariant-loop-k : goal.invariant-loop-k
invariant-loop-k l = Fits l._net l.memory × (l.memory.nodes ≡ l.fn.memory.nodes) × (l.memory.files ≡ l.fn.memory.files) × (l.memory.slots ≡ l.fn.memory.slots)
    × Moving l._net l.fn.memory.nodes l.fn.memory.regs l.memory.regs l.moved (length l.moved)
    × Holding l._net l.fn.memory.nodes l.fn.memory.regs l.memory.regs l.held l.k
