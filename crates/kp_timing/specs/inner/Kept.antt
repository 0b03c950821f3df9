-- The invariant of a timeline between its cycles.
use Rattle.std.specs.Prelude.{◌≡◌, ℕ, suc, ◌-◌, ◌^◌, ◌≤◌, ◌<◌, List, [], Bool, true, false, Some, None, length, get_or, unwrap_or}
use Rattle.kp_ast.specs.declared.tree.Job.{Job}
use Rattle.kp_base.specs.First.{first}
use Rattle.kp_width.specs.Widths.{widths_of}
use Rattle.kp_stage.specs.{declared.start.Start.Start, Counts.summary_of, Stages.broken_of}
use Rattle.kp_pipeline.specs.{Sequential.seq, Timeline.no_samples}
use Rattle.kp_machine.specs.{Machine.machine_of, Machine.state_of, Words.after_one}
use Rattle.kp_seq.specs.{Running.Running, Running.state, Recorded.record_of}
use Rattle.kp_sites.specs.{Sites.Sited, Sites.sited, Reports.HasRoom}
use Rattle.kp_timing.specs.Timed.{IsPlain}
use Rattle.kp_timing.specs.inner.Deciding.{Held, record_in, moves_by, taken_down, fetched}

-- the job violates no rule of names, widths and stages, and these are its tables
pub record AreSites (job : Job) (s : Sited) : Type 0 where
  pub names : first (widths_of job).asked ≡ None
  pub rules : broken_of job ≡ None
  pub is : s ≡ sited job

-- The machine has executed the instruction in stage 0 and those before it, and what it reported about each instruction in a stage is stored for that
-- stage.
pub record IsKept (job : Job) (start : Start) (cycles : ℕ) (m : Running) (s : Sited) (h : Held) : Type 0 where
  pub plain : IsPlain job
  pub sites : AreSites job s
  pub few : job.stages.value ≤ 12
  pub some : 1 ≤ job.stages.value
  pub few_reads : (summary_of job).reads < 2 ^ 32
  pub few_results : (summary_of job).results < 2 ^ 32
  pub holds : length h.hold ≡ 12
  pub flights : length h.recorded ≡ job.stages.value
  pub room : (k : ℕ) → k < job.stages.value → HasRoom job (record_in h k)
  pub job_is : m.job ≡ job
  pub newest : get_or h.hold 0 None ≡ Some (unwrap_or (get_or h.hold 0 None) 0)
  pub bound : unwrap_or (get_or h.hold 0 None) 0 ≤ cycles
  pub state_is : state m ≡ seq (machine_of job) (state_of job start) no_samples (suc (unwrap_or (get_or h.hold 0 None) 0))
  pub recorded : (k i : ℕ) → k < job.stages.value → get_or h.hold k None ≡ Some i
      → record_in h k ≡ record_of job (seq (machine_of job) (state_of job start) no_samples i) (λ x. 0)

-- The instructions move on unless they are blocked, and if that of stage 0 does, the machine executes the next one.
pub record Moves (m : Running) (h : Held) (m2 : Running) (h2 : Held) : Type 0 where
  pub state_is : state m2 ≡ after_one m.job (state m) []
  pub recorded : m2.last ≡ record_of m.job (state m) (λ x. 0)
  pub held : h2 ≡ fetched h m2.last

pub record Advances (m : Running) (h : Held) (b : List Bool) (n : ℕ) (m2 : Running) (h2 : Held) : Type 0 where
  pub job : m2.job ≡ m.job
  pub moved : moves_by h b 0 ≡ true → Moves m (taken_down b (n - 1) h) m2 h2
  pub stayed : moves_by h b 0 ≡ false → (state m2 ≡ state m) × (h2 ≡ taken_down b (n - 1) h)
