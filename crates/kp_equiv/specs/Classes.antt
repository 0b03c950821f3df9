-- CLASSES of the nodes of two netlists, and names by their indices.
use Rattle.std.specs.{Prelude.ℕ, Prelude.◌<◌, Prelude.◌≡◌, Prelude.List, Prelude.length, Prelude.get_or, List.position_or_len}
use Rattle.kp_net.specs.{declared.node.NodeId.NodeId, Names.same, Netlist.Net}
use Rattle.kp_equiv.specs.Alike.{Alike}

-- the index of a name; for all others the number of names
abbrev pub place : List (List ℕ) → List ℕ → ℕ
place names n = position_or_len (same n) names

-- classes of nodes, by their numbers
abbrev pub no_class : NodeId
no_class = record { 0 = 0 }

abbrev pub class_in : List NodeId → NodeId → NodeId
class_in classes i = get_or classes i.0 no_class

-- each node of two netlists has a class, and two nodes have the same class exactly if their trees are equivalent
pub record Determines (a b : Net) (first second : List NodeId) : Type 0 where
  pub first_count : length first ≡ length a.nodes
  pub second_count : length second ≡ length b.nodes
  pub same : (i j : NodeId) → i.0 < length a.nodes → j.0 < length b.nodes → class_in first i ≡ class_in second j → Alike a b i j
  pub alike : (i j : NodeId) → Alike a b i j → class_in first i ≡ class_in second j
