-- Which machine has the value of a target: there is one for each stage, which executes the instructions that the stage has completed, and one more
-- that executes none.
use Rattle.std.specs.Prelude.{◌≡◌, ℕ, ◌<◌, ◌≤◌, List, length, get_or, if◌then◌else◌}
use Rattle.kp_ast.specs.declared.tree.Job.{Job}
use Rattle.kp_machine.specs.{Machine.machine_of, Slots.targets_of}

-- The machine of the write stage of the target, or the one that executes nothing if the target has no result.
unfoldable pub home_of : Job → ℕ → ℕ
home_of job t = if (machine_of job).has_result t then (machine_of job).write_stage t else job.stages.value

-- For each target the number of that machine.
pub record AreHomes (job : Job) (given : List ℕ) : Type 0 where
  pub count : length given ≡ length (targets_of job.decls)
  pub homes : (t : ℕ) → t < length given → get_or given t 0 ≡ home_of job t
  pub within : (t : ℕ) → home_of job t ≤ job.stages.value
