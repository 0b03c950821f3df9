use Rattle.std.proofs.Common.{◌≡◌, ◌<◌, ◌≤◌, ◌-◌, length}
use Rattle.kp_net.specs.Netlist.{Input}
use Rattle.kp_cycle.specs.inner.Settling.{Settled}
use Rattle.kp_cycle_plan.specs.Storage.{Stored}
use Rattle.kp_cycle.proofs.batches.take_while.Given as goal

abbrev pub invariant-batch : goal.invariant-batch
invariant-batch g l = (length l.nodes ≡ length l.net.nodes)
    × ((input : Input) (m : Stored) → Settled l.net input l._heads l.steps l.fn.from (record m { nodes = l.fn.nodes }) → Settled l.net input l._heads l.steps l.k (record m { nodes = l.nodes }))
    × (l.fn.from ≤ l.k) × (l.k < length l.steps)

abbrev pub decreases-batch : goal.decreases-batch
decreases-batch g l = length l.steps - l.k
