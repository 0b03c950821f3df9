-- WHAT THE RUN AFTER A RESET DEPENDS ON.
use Rattle.std.specs.Prelude.{◌≡◌, ℕ, true, List}
use Rattle.kp_ast.specs.declared.tree.Job.{Job}
use Rattle.kp_stage.specs.Counts.{summary_of}
use Rattle.kp_machine.specs.Machine.{machine_of}
use Rattle.kp_net.specs.Netlist.{Net, Input, State, state_after}
use Rattle.kp_sched.specs.Runs.{ShowsAlike}
use Rattle.kp_implements.specs.{Naming.value_shown, Traces.AreQuiet, Anew.trace_from, Anew.left_by_reset, Anew.HasMemory}
use Rattle.kp_tool.specs.ConstantTime.{HasSameRecord}

-- The reset is raised in two states of a netlist of a job, at power-up or in runs, and the same inputs follow. If the states have the same memory, the two
-- runs are the same, row by row and value by value, whatever else differs (`memory`): the registers at power-up have no effect. And whatever the
-- memories are, without guesses and samples the runs have the same rows if all instructions have the same records in them (`time`): the memory
-- decides in which cycle an instruction is in which stage by conditions, addresses, enables and setting stages alone.
pub record RestartsAlike (net : Net) (job : Job) : Type 0 where
  pub memory : (a b : State) (i j : Input) (ins : List Input) → HasMemory net a → HasMemory net b → a.files ≡ b.files → i.reset ≡ true → j.reset ≡ true
      → AreQuiet ins → ShowsAlike job (trace_from job net (state_after net i a) ins) (trace_from job net (state_after net j b) ins)
  pub time : (a b : State) (i j : Input) (ins : List Input) → HasMemory net a → HasMemory net b → i.reset ≡ true → j.reset ≡ true → AreQuiet ins
      → (summary_of job).guesses ≡ 0 → (summary_of job).samples ≡ 0
      → ((n : ℕ) → HasSameRecord (machine_of job) (left_by_reset job (value_shown job net a)) (left_by_reset job (value_shown job net b)) n)
      → (trace_from job net (state_after net i a) ins).rows ≡ (trace_from job net (state_after net j b) ins).rows
