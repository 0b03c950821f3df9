-- PATHS, from a node down through operands, each of the node before it, and their lengths.
use Rattle.std.specs.Prelude.{ℕ, ◌+◌, ◌≤◌, Bool, List, [], ◌∷◌, Contains, get_or, if◌then◌else◌}
use Rattle.kp_net.specs.{declared.node.Node.Node, Widths.no_node}
use Rattle.kp_net.specs.declared.node.{NodeId.NodeId, Kind.Kind}
use Rattle.kp_depth.specs.{declared.time.Input.Input, Delay.delay_of, Times.inputs_of, Times.time_at}

abbrev pub kind_at : List Node → ℕ → Kind
kind_at ns i = (get_or ns i no_node).kind

-- the operands of node i, and its delay
abbrev pub inputs_at : List Node → Bool → ℕ → List Input
inputs_at ns inside i = inputs_of ns inside (kind_at ns i)

abbrev pub delay : List Node → Bool → ℕ → ℕ
delay ns inside i = delay_of ns inside (time_at ns inside i).chain.count (kind_at ns i)

-- A PATH that ends in node i: each is an operand of the one before it.
abbrev pub IsPath : List Node → Bool → ℕ → List Input → Type 0
IsPath ns inside i [] = Unit {0}
IsPath ns inside i (x ∷ path) = Contains (inputs_at ns inside i) x × IsPath ns inside x.node.0 path

-- THE LENGTH: the delays of its nodes, but for those within a chain
abbrev pub below : List Node → Bool → List Input → ℕ
below ns inside [] = 0
below ns inside (x ∷ path) = (if x.within then 0 else delay ns inside x.node.0) + below ns inside path

abbrev pub path_length : List Node → Bool → ℕ → List Input → ℕ
path_length ns inside i path = delay ns inside i + below ns inside path

-- No path that ends in node i is longer than d.
pub record NoneLonger (ns : List Node) (inside : Bool) (i d : ℕ) : Type 0 where
  pub bound : (path : List Input) → IsPath ns inside i path → path_length ns inside i path ≤ d
