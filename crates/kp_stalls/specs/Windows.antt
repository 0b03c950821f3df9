-- A WINDOW on a run of the sequential machine: what it reported of the last instructions.
use Rattle.std.specs.Prelude.{◌≡◌, ℕ, ◌+◌, ◌^◌, ◌<◌, ◌≤◌, List, length, get_or}
use Rattle.kp_ast.specs.declared.tree.Job.{Job}
use Rattle.kp_stage.specs.Counts.{summary_of}
use Rattle.kp_machine.specs.Machine.{sequential}
use Rattle.kp_seq.specs.Running.{Running, state}
use Rattle.kp_sites.specs.Sites.{Sited, sited}
use Rattle.kp_stalls.specs.Occupants.{Report, report, nothing, stored}
use Rattle.kp_pipeline.specs.Machine.{Samples}

-- the machine, the tables of its job, the number of the instruction that it runs next, and what it reported of the last sixteen, each under its number
-- modulo 16
pub record Windowed : Type 0 where
  pub machine : Running
  pub sites : Sited
  pub next : ℕ
  pub ring : List Report

-- a record of the size that the report of an instruction has
pub record HasRoom (job : Job) (f : Report) : Type 0 where
  pub reads : length f.recorded.reads ≡ (summary_of job).reads
  pub writes : length f.recorded.writes ≡ (summary_of job).results
  pub settings : length f.recorded.settings ≡ (summary_of job).results
  pub values : length f.values ≡ length (sited job).reads

pub record IsKept (job : Job) (w : Windowed) : Type 0 where
  pub job_is : w.machine.job ≡ job
  pub sites_are : w.sites ≡ sited job
  pub count : length w.ring ≡ 16
  pub room : (j : ℕ) → j < 16 → HasRoom job (get_or w.ring j nothing)
  pub few_reads : (summary_of job).reads < 2 ^ 32
  pub few_results : (summary_of job).results < 2 ^ 32
  pub blocks : length job.blocks ≡ job.stages.value
  pub targets : length w.sites.writers < 2 ^ 32

-- It has run the instructions before `next` of the run in which instruction i has the sample values `given i`, and has the report of each of the last
-- sixteen.
pub record Follows (job : Job) (given : Samples) (w : Windowed) : Type 0 where
  pub state_is : state w.machine ≡ sequential job given w.next
  pub report : (i : ℕ) → i < w.next → w.next ≤ i + 16 → stored w.ring i ≡ report job given i
