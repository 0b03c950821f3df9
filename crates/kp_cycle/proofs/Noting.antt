-- The addresses that write ports write, from the values of nodes.
use Rattle.std.proofs.Common.{◌≡◌, ◌==◌, ℕ, cond, ◌<◌, List, length, get_or, refl, ap, Option, None, Some}
use Rattle.std.specs.Prelude.{if◌then◌else◌}
use Rattle.kp_net.specs.{declared.node.Node.Node, declared.netlist.WritePort.WritePort, Nodes.Cells, Nodes.at, Nodes.on}
use Rattle.kp_net.specs.{Netlist.Net, Netlist.Input, Netlist.State, Netlist.resets, Netlist.cells_of, Parts.no_file}
use Rattle.kp_cycle.specs.Steps.{port_writes, written_in}
use Rattle.kp_cycle_plan.specs.{Plans.OfPort, Plans.OfRoots, Storage.port_noted}

port_same : (c : Cells) (ns : List Node) (values : List ℕ) (port : Option WritePort) → OfPort (λ j. get_or values j 0 ≡ at c ns j) port → port_noted port values ≡ port_writes c ns port
unfolding on
port_same c ns values None known = refl
port_same c ns values (Some p) known = let x = known.0 in let y = known.1 in λ i. cond (x i == 1) (Some (y i)) None

-- what is noted is what the netlist writes
pub noted_is : (net : Net) (input : Input) (st : State) (values : List ℕ) (f : ℕ) → f < length net.parts.files → OfRoots net (λ j. get_or values j 0 ≡ at (cells_of input st) net.nodes j)
    → (if resets net input then None else port_noted (get_or net.parts.files f no_file).port values) ≡ written_in net input st f
noted_is net input st values f h known =
    ap (λ (o : Option ℕ). if resets net input then None else o) (port_same (cells_of input st) net.nodes values (get_or net.parts.files f no_file).port (known.files f h))
