-- A timeline that runs, and one of its cycles, in terms of the timeline of the laws.
use Rattle.std.specs.Prelude.{◌≡◌, ℕ, ◌+◌, ◌<◌, ◌≤◌, List, Option, None, false, is_some, get_or}
use Rattle.kp_base.specs.declared.row.Row.{Row}
use Rattle.kp_ast.specs.declared.tree.Job.{Job}
use Rattle.kp_stage.specs.{declared.start.Start.Start, Counts.summary_of}
use Rattle.kp_pipeline.specs.Machine.{State}
use Rattle.kp_pipeline.specs.{Pipeline.Inputs, Rows.bits, Timeline.waits, Timeline.moves_on, Timeline.next_hold, Timeline.start_hold}
use Rattle.kp_machine.specs.Machine.{machine_of, state_of}
use Rattle.kp_sched.specs.Rows.{bit_of, row_seen}

-- the job, its start state, the number of cycles so far, the instruction in each stage, and the stages that waited in the last cycle
pub record Timed : Type 0 where
  pub job : Job
  pub start : Start
  pub cycles : ℕ
  pub hold : List (Option ℕ)
  pub waits : ℕ

-- the number of the instruction in a stage
abbrev pub hold_of : Timed → ℕ → Option ℕ
hold_of t k = get_or t.hold k None

-- the state of the sequential machine before instruction 0
abbrev pub begins : Timed → State
begins t = state_of t.job t.start

-- a job without guesses and without samples
pub record IsPlain (job : Job) : Type 0 where
  pub guesses : (summary_of job).guesses ≡ 0
  pub samples : (summary_of job).samples ≡ 0

-- the inputs under a stall word
abbrev pub stalled_by : ℕ → Inputs
stalled_by ext = record { ext = bit_of ext; samples = λ x. 0 }

-- after opening
pub record IsOpened (job : Job) (start : Start) (t : Timed) : Type 0 where
  pub same_job : t.job ≡ job
  pub same_start : t.start ≡ start
  pub cycles : t.cycles ≡ 0
  pub hold : (k : ℕ) → k < job.stages.value → hold_of t k ≡ start_hold k
  pub waits : t.waits ≡ 0

-- One cycle under a stall word: its row, the instructions in the stages after it, and which stages waited. The bits above those of the stages are 0.
pub record IsCycle (t : Timed) (ext : ℕ) (row : Row) (u : Timed) : Type 0 where
  pub job : u.job ≡ t.job
  pub start : u.start ≡ t.start
  pub cycles : u.cycles ≡ t.cycles + 1
  pub shows : row_seen t.job.stages.value row ≡ record {
    full = bits (λ k. is_some (hold_of t k)) t.job.stages.value 0;
    ue = bits (moves_on (machine_of t.job) (begins t) (hold_of t) (stalled_by ext)) t.job.stages.value 0;
    back = 0;
  }
  pub no_more_full : (k : ℕ) → t.job.stages.value ≤ k → bit_of row.full k ≡ false
  pub no_more_ue : (k : ℕ) → t.job.stages.value ≤ k → bit_of row.ue k ≡ false
  pub hold : (k : ℕ) → k < t.job.stages.value → hold_of u k ≡ next_hold (machine_of t.job) (begins t) (hold_of t) (stalled_by ext) k
  pub waits : (k : ℕ) → k < t.job.stages.value → bit_of u.waits k ≡ waits (machine_of t.job) (begins t) (hold_of t) (stalled_by ext) k
  pub others : (k : ℕ) → t.job.stages.value ≤ k → bit_of u.waits k ≡ false
