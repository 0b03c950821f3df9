-- Which nodes of a pool its index has.
use Rattle.std.specs.Prelude.{ℕ, ◌<◌, ◌≤◌, ◌≡◌, List, length, get_or, MatchOption}
use Rattle.std.specs.Map.{lookup}
use Rattle.kp_net.specs.{declared.node.Node.Node, Widths.no_node, inner.Lookup.LacksBelow}
use Rattle.kp_net.specs.contracts.node.NodePartialEq.TheImpl as nodes

-- nodes with their numbers
abbrev pub Numbered : Type 0
Numbered = List (Node × ℕ)

-- a list has the node under this number
abbrev pub Has : List Node → Node → ℕ → Type 0
Has ns n i = (i < length ns) × (get_or ns i no_node ≡ n)

-- a table has the first nodes of a list with their numbers, as many as it has entries
pub record IsIndex (t : Numbered) (ns : List Node) : Type 0 where
  pub within : length t ≤ length ns
  pub each : (n : Node) → MatchOption (lookup (nodes.eq-value.it n) t) (LacksBelow ns n (length t)) (Has ns n)
