-- What a board stores after the rows of a run.
use Rattle.std.specs.{Prelude.◌≡◌, Prelude.ℕ, Prelude.◌<◌, Prelude.List, Prelude.length, List.All}
use Rattle.kp_base.specs.declared.row.Row.{Row}
use Rattle.kp_ast.specs.declared.tree.Job.{Job}
use Rattle.kp_machine.specs.Slots.{targets_of}
use Rattle.kp_sched.specs.Rows.{rows_seen}
use Rattle.kp_seq.specs.Running.{Running}
use Rattle.kp_run.specs.{Boards.passes_behind, Boards.due_behind, Homes.AreHomes, Homes.home_of, inner.Lanes.lane_state, inner.Lanes.lane_passes}

-- one of the machines has the value of each target, and has executed the instructions that the target reflects
pub record IsBoard (job : Job) (rows : List Row) (machines : List Running) (given : List ℕ) : Type 0 where
  pub homes : AreHomes job given
  pub count : (t : ℕ) → home_of job t < length machines
  pub jobs : All (λ m. targets_of m.job.decls ≡ targets_of job.decls) machines
  pub passes : (t : ℕ) → lane_passes job (rows_seen job.stages.value rows) (home_of job t) ≡ passes_behind job rows t
  pub values : (t a : ℕ) → lane_state machines (home_of job t) t a ≡ due_behind job rows t a

-- the machine of each target, and the number of instructions that the target reflects
pub record HasCounts (job : Job) (rows : List Row) (given : List ℕ) : Type 0 where
  pub homes : AreHomes job given
  pub passes : (t : ℕ) → lane_passes job (rows_seen job.stages.value rows) (home_of job t) ≡ passes_behind job rows t
