use Rattle.std.{proofs.Common.◌≡◌, proofs.Common.◌<◌, proofs.Common.◌≤◌, proofs.Common.false, proofs.Common.ℕ, proofs.Common.get_or, specs.Prelude.All}
use Rattle.kp_net.specs.declared.node.NodeId.{NodeId}
use Rattle.kp_cycle_plan.specs.Plans.{IsMarked, Grows}
use Rattle.kp_cycle_plan.proofs.order.mark_all.Given as goal

abbrev pub invariant-loop-k : goal.invariant-loop-k
invariant-loop-k l = Grows l.fn.marks l.marks × ((q : ℕ) (d : NodeId) → q < l.k → IsMarked l.marks (get_or l.nodes q d).0)
    × ((i j : ℕ) → All (λ (a : NodeId). a.0 < i) l.nodes → i ≤ j → get_or l.marks j false ≡ get_or l.fn.marks j false)
