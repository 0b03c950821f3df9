-- Which nodes a lookup has searched.
use Rattle.std.specs.Prelude.{ℕ, ◌<◌, ◌≡◌, List, get_or}
use Rattle.kp_net.specs.{declared.node.Node.Node, Widths.no_node}

-- none of the first m nodes is this one
abbrev pub LacksBelow : List Node → Node → ℕ → Type 0
LacksBelow ns n m = (i : ℕ) → i < m → get_or ns i no_node ≡ n → ⊥
