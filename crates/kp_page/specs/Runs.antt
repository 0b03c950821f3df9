-- The run of a netlist that is recorded.
use Rattle.std.specs.Prelude.{ℕ, []}
use Rattle.kp_ast.specs.declared.tree.Job.{Job}
use Rattle.kp_cycle.specs.Steps.{Running}
use Rattle.kp_net.specs.Netlist.{Net, last_of}
use Rattle.kp_run.specs.Cycles.{inputs_to}

-- A simulator of a netlist after n cycles, under the stall words and samples of a job. After 0 cycles it is in its start state.
abbrev pub after_cycles : Job → Net → ℕ → Running
after_cycles job net n = record { net = net; state = last_of net (inputs_to job n); slots = [] }
