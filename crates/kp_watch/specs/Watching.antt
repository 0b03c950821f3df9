-- A NETLIST COMPARED WITH THE SEQUENTIAL MACHINE OF ITS JOB, in a run under the job's own stall words and samples.
use Rattle.std.specs.Prelude.{◌≡◌, ◌≢◌, ℕ, ◌<◌, ◌≤◌, ◌⊎◌}
use Rattle.kp_ast.specs.declared.tree.Job.{Job}
use Rattle.kp_machine.specs.{Machine.inputs_from, Words.HasWord}
use Rattle.kp_net.specs.Netlist.{Net}
use Rattle.kp_sched.specs.Runs.{due_value, IsLegal}
use Rattle.kp_run.specs.Cycles.{own_trace}
use Rattle.kp_pipeline.specs.Machine.{State}

-- The specified value in the run of target t at address a after T cycles.
abbrev pub own_due : Job → Net → (count cycles : ℕ) → State
own_due job net n T t a = due_value job (inputs_from job 0 n) (own_trace job net n).rows T t a

-- The run agrees with the sequential machine if it is legal.
abbrev pub Agrees : Job → Net → ℕ → Type 0
Agrees job net n = IsLegal job (inputs_from job 0 n) (own_trace job net n)

-- The first difference: no earlier cycle has one, and in this cycle no earlier target, and no lower address of this target.
pub record IsFirstDifference (job : Job) (net : Net) (n T t a : ℕ) : Type 0 where
  pub within : T ≤ n
  pub there : HasWord job t a
  pub differs : (own_trace job net n).visible T t a ≢ own_due job net n T t a
  pub cycles_before : (U s b : ℕ) → U < T → HasWord job s b → (own_trace job net n).visible U s b ≡ own_due job net n U s b
  pub words_before : (s b : ℕ) → HasWord job s b → (s < t) ⊎ ((s ≡ t) × (b < a)) → (own_trace job net n).visible T s b ≡ own_due job net n T s b
