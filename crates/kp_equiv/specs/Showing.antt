-- A NETLIST IMPLEMENTS THE PIPELINED MACHINE OF A JOB, up to the name of its module.
use Rattle.std.specs.Prelude.{ℕ, List}
use Rattle.kp_ast.specs.declared.tree.Job.{Job}
use Rattle.kp_net.specs.Netlist.{Net}
use Rattle.kp_implements.specs.{Naming.module_name, Shows.Shows}

-- the same netlist under another module's name
abbrev pub renamed : Net → List ℕ → Net
renamed net name = record { nodes = net.nodes; parts = record net.parts { name = name } }

abbrev pub ShowsButName : Net → Job → Type 0
ShowsButName net job = Shows (renamed net (module_name job)) job
