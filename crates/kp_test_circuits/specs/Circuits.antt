-- Nodes that may be used as operands.
use Rattle.std.specs.{Prelude.ℕ, Prelude.◌≤◌, Prelude.◌<◌, Prelude.◌≡◌, Prelude.List, Prelude.length, Prelude.All, List.sum_by}
use Rattle.kp_net.specs.{declared.node.NodeId.NodeId, Growth.Held, Widths.wide}

-- these nodes are in the pool, and have w bits together
pub record IsRow (p : Held) (parts : List NodeId) (w : ℕ) : Type 0 where
  pub inside : All (λ a. a.0 < length p.nodes) parts
  pub widths : sum_by (λ a. wide p.nodes a.0) parts ≡ w
  pub at_most : w ≤ 64
