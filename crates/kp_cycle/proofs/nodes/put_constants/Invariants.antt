use Rattle.std.proofs.Common.{◌≡◌, length}
use Rattle.kp_cycle.specs.inner.Settling.{AreFixed}
use Rattle.kp_cycle_plan.specs.Storage.{Fits, FitsBelow}
use Rattle.kp_cycle.proofs.nodes.put_constants.Given as goal

abbrev pub invariant-loop-k : goal.invariant-loop-k
invariant-loop-k l = Fits l.net l.memory × FitsBelow l.net.nodes l.memory.nodes (length l.net.nodes) × AreFixed l.net.nodes l.steps l.k l.memory.nodes
    × (l.memory.regs ≡ l.fn.memory.regs) × (l.memory.files ≡ l.fn.memory.files) × (l.memory.slots ≡ l.fn.memory.slots)
