-- The values of the nodes while the steps of a plan are evaluated.
use Rattle.std.specs.Prelude.{ℕ, ◌<◌, ◌≤◌, ◌≡◌, List, length, get_or}
use Rattle.kp_net.specs.{declared.node.Kind.TheVariants.Const, declared.node.Node.Node, Nodes.at, Netlist.Net, Netlist.Input, Widths.no_node}
use Rattle.kp_cycle_plan.specs.{declared.codes.Step.Step, Plans.targets, Storage.Stored, Storage.FitsBelow, Storage.cells}

-- the targets of the first n steps are constants, and these are their values
abbrev pub AreFixed : List Node → List Step → ℕ → List ℕ → Type 0
AreFixed ns steps n values = (n ≤ length steps)
    × ((q : ℕ) → q < n → (get_or ns (get_or (targets steps) q 0) no_node).kind ≡ Const (get_or values (get_or (targets steps) q 0) 0))

-- the first h nodes have their values, and the first k steps have been evaluated in this cycle
pub record Settled (net : Net) (input : Input) (h : ℕ) (steps : List Step) (k : ℕ) (m : Stored) : Type 0 where
  pub widths : FitsBelow net.nodes m.nodes (length net.nodes)
  pub leads : (j : ℕ) → j < h → get_or m.nodes j 0 ≡ at (cells input m) net.nodes j
  pub known : (q : ℕ) → q < k → get_or m.nodes (get_or (targets steps) q 0) 0 ≡ at (cells input m) net.nodes (get_or (targets steps) q 0)
