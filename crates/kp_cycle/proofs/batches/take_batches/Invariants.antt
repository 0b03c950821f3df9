use Rattle.std.proofs.Common.{◌≡◌, ◌<◌, ◌≤◌, ◌-◌, cond, length}
use Rattle.kp_net.specs.Netlist.{Input}
use Rattle.kp_cycle.specs.inner.Settling.{Settled}
use Rattle.kp_cycle_plan.specs.Storage.{Stored}
use Rattle.kp_cycle.proofs.batches.take_batches.Given as goal

abbrev pub invariant-more : goal.invariant-more
invariant-more l = (length l.nodes ≡ length l.net.nodes)
    × ((input : Input) (m : Stored) → Settled l.net input l.heads l.steps l.fn.from (record m { nodes = l.fn.nodes }) → Settled l.net input l.heads l.steps l.k (record m { nodes = l.nodes }))
    × (l.fn.from ≤ l.k) × (l.k < length l.steps)

abbrev pub decreases-more : goal.decreases-more
decreases-more l = cond l.is_single 0 (length l.steps - l.k)
