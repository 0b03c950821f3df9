use Rattle.std.proofs.Common.{◌≡◌, ◌≤◌, ◌-◌, false, length}
use Rattle.kp_cycle.specs.{Steps.given, inner.Settling.Settled}
use Rattle.kp_cycle_plan.specs.Storage.{Fits}
use Rattle.kp_cycle.proofs.nodes.settle.Given as goal

abbrev pub invariant-all : goal.invariant-all
invariant-all l = Fits l.net l.memory × Settled l.net (given l.ext false l.samples) l.heads l.steps l.k l.memory
    × (l.memory.regs ≡ l.fn.memory.regs) × (l.memory.files ≡ l.fn.memory.files) × (l.memory.slots ≡ l.fn.memory.slots) × (l.k ≤ length l.steps)

abbrev pub decreases-all : goal.decreases-all
decreases-all l = length l.steps - l.k
