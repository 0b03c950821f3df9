-- The states of a netlist as those of its job.
use Rattle.std.specs.Prelude.{ℕ, Bool, cond}
use Rattle.kp_ast.specs.declared.tree.Job.{Job}
use Rattle.kp_cycle.specs.Steps.{Running}
use Rattle.kp_net.specs.Netlist.{Net, last_of}
use Rattle.kp_run.specs.Cycles.{inputs_to}
use Rattle.kp_report.specs.States.{State}
use Rattle.kp_implements.specs.Naming.{value_shown}
use Rattle.kp_page.specs.States.{all_zero}

-- the state of a simulator
abbrev pub seen : Job → Running → State
seen job s = value_shown job s.net s.state

-- the state of the earlier one of two, of which there is none before the first cycle
abbrev pub seen_before : Bool → Job → Running → State
seen_before is_first job s = cond is_first all_zero (seen job s)

-- the states of the run of a netlist under the inputs of a job
abbrev pub states_of : Job → Net → ℕ → State
states_of job net T = value_shown job net (last_of net (inputs_to job T))
