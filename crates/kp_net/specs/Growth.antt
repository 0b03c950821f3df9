-- A pool of nodes, and what calls preserve while it grows.
use Rattle.std.specs.Prelude.{ℕ, ◌+◌, ◌<◌, ◌≤◌, ◌≡◌, ◌⊎◌, false, List, length, get_or}
use Rattle.kp_net.specs.{declared.node.NodeId.NodeId, declared.node.Node.Node, Nodes.Cells, Nodes.word_at, Nodes.at, Nodes.on}
use Rattle.kp_net.specs.Widths.{wide, no_node, is_cell}

-- the nodes of a pool, and how many more it has capacity for
pub record Held : Type 0 where
  pub nodes : List Node
  pub spare : ℕ

-- node i is in the pool and has width w
pub record Wire (p : Held) (i : NodeId) (w : ℕ) : Type 0 where
  pub inside : i.0 < length p.nodes
  pub wide : wide p.nodes i.0 ≡ w

-- between p and q at most k nodes were added, and all nodes of p keep their indices, widths and words, whatever the cells hold
pub record Kept (p q : Held) (k : ℕ) : Type 0 where
  pub longer : length p.nodes ≤ length q.nodes
  pub total : length q.nodes + q.spare ≡ length p.nodes + p.spare
  pub room : p.spare ≤ q.spare + k
  pub words : (c : Cells) (i : ℕ) → i < length p.nodes → word_at c q.nodes i ≡ word_at c p.nodes i
  pub same : (c : Cells) (i : ℕ) → i < length p.nodes → at c q.nodes i ≡ at c p.nodes i
  pub tests : (c : Cells) (i : ℕ) → i < length p.nodes → on c q.nodes i ≡ on c p.nodes i
  pub widths : (i : ℕ) → i < length p.nodes → wide q.nodes i ≡ wide p.nodes i
  pub nodes : (i : ℕ) → i < length p.nodes → get_or q.nodes i no_node ≡ get_or p.nodes i no_node

-- and the added nodes are constants and operations
pub record Grown (p q : Held) (k : ℕ) : Type 0 where
  pub kept : Kept p q k
  pub plain : (i : ℕ) → length p.nodes ≤ i → i < length q.nodes → is_cell (get_or q.nodes i no_node).kind ≡ false

-- each added node is this one, or a constant or an operation
abbrev pub AddsOnly : Node → Held → Held → Type 0
AddsOnly n p q = (i : ℕ) → length p.nodes ≤ i → i < length q.nodes → (get_or q.nodes i no_node ≡ n) ⊎ (is_cell (get_or q.nodes i no_node).kind ≡ false)
