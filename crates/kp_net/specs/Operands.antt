-- When two nodes are the same: they have the same number.
use Rattle.std.specs.{Prelude.ℕ, Prelude.Bool, Prelude.nat_eq, Ordering.on}
use Rattle.kp_net.specs.declared.node.NodeId.{NodeId}

abbrev pub number_of : NodeId → ℕ
number_of a = a.0

abbrev pub same_id : NodeId → NodeId → Bool
same_id = on number_of nat_eq
