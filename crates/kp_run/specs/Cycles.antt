-- A netlist that runs together with a monitor.
use Rattle.std.specs.Prelude.{◌≡◌, ℕ, zero, suc, false, List, [], ◌∷◌, ◌++◌, map}
use Rattle.kp_base.specs.declared.row.Row.{Row}
use Rattle.kp_ast.specs.declared.tree.Job.{Job}
use Rattle.kp_stage.specs.Start.{stall_word, input}
use Rattle.kp_pipeline.specs.Rows.{Trace}
use Rattle.kp_cycle.specs.Steps.{Running}
use Rattle.kp_net.specs.Netlist.{Net, Input, run, last_of}
use Rattle.kp_sched.specs.Monitors.{Kept, HasSeen}
use Rattle.kp_implements.specs.Traces.{trace_of}

-- The inputs of a netlist in a cycle, as the sections of a job specify them: the stall word and the values of the samples. The reset isn't raised.
abbrev pub input_at : Job → ℕ → Input
input_at job cycle = record { ext = stall_word job cycle; reset = false; samples = map (λ w. w.value) (input job cycle) }

-- The inputs of the first n cycles.
abbrev pub inputs_to : Job → ℕ → List Input
inputs_to job zero = []
inputs_to job (suc n) = inputs_to job n ++ input_at job n ∷ []

-- The run of a netlist under the first n of the job's own inputs, as a run of the job's machine.
abbrev pub own_trace : Job → Net → ℕ → Trace
own_trace job net n = trace_of job net (inputs_to job n)

-- A simulator of a netlist after n cycles under those inputs. After 0 cycles it is in its start state.
abbrev pub after_cycles : Job → Net → ℕ → Running
after_cycles job net n = record { net = net; state = last_of net (inputs_to job n); slots = [] }

-- The rows are those of the first n cycles of the netlist under those inputs, and the monitor has seen them.
pub record HasRows (job : Job) (net : Net) (n : ℕ) (given : List Row) (monitor : Kept) : Type 0 where
  pub rows : given ≡ (run net (inputs_to job n)).rows
  pub seen : HasSeen monitor given
  pub stages : monitor.stages ≡ job.stages.value
