-- WHAT THE CAUSE OF A WAIT SAYS, in terms of the timeline of the pipelined machine.
use Rattle.std.specs.Prelude.{◌≡◌, ℕ, zero, suc, ◌<◌, Bool, true, false, ◌&&◌, List, [], ◌∷◌, Some, None, length, get_or}
use Rattle.kp_ast.specs.declared.tree.Job.{Job}
use Rattle.kp_stage.specs.Start.{start_of}
use Rattle.kp_pipeline.specs.{Machine.Machine, Pipeline.Inputs, Pipeline.is_candidate, Rows.Row, Rows.bit, Rows.pipe, Rows.taken}
use Rattle.kp_pipeline.specs.RightPath.{Moment, first_moment, held, next_moment}
use Rattle.kp_pipeline.specs.SpeculativeTimeline as timeline
use Rattle.kp_machine.specs.Machine.{machine_of, state_of}
use Rattle.kp_sites.specs.{declared.sites.Site.Site, Sites.no_site, Sites.sited}
use Rattle.kp_stalls.specs.{declared.cause.Wait.Wait, declared.occupants.Stage.Stage, Occupants.report, Occupants.no_stage}
use Rattle.kp_pipeline.specs.Machine.{Samples}

-- The stages show the row of a moment, and the numbers of the instructions.
pub record ShowsMoment (m : Machine) (now : Moment) (r : Row) (stages : List Stage) : Type 0 where
  pub row : (j : ℕ) → j < m.stages → bit r.full j ≡ (now.state.stage j).full
  pub full : (j : ℕ) → j < m.stages → (get_or stages j no_stage).full ≡ bit r.full j
  pub moves : (j : ℕ) → j < m.stages → (get_or stages j no_stage).moves ≡ bit r.ue j
  pub number : (j : ℕ) → j < m.stages → (get_or stages j no_stage).number ≡ now.count j
  pub count : length stages ≡ m.stages

abbrev pub read_site : Job → ℕ → Site
read_site job i = get_or (sited job).reads i no_site

-- Stage j may write target t at address a, by the timeline: it isn't past the write stage, and its intent isn't known there, or its instruction writes there.
abbrev pub is_writer : Job → Samples → Moment → (target address stage : ℕ) → Bool
is_writer job given now t a j =
    is_candidate (machine_of job) j t && timeline.may_write (machine_of job) (state_of job (start_of job)) given j (held now j) t a

-- Its result is ready there.
abbrev pub has_ready : Job → Samples → Moment → Inputs → ℕ → ℕ → Bool
has_ready job given now i t j =
    timeline.is_ready (machine_of job) (state_of job (start_of job)) given j (held now j) (timeline.blocked (machine_of job) (state_of job (start_of job)) given (held now) i j) t

-- THE CAUSE of a wait of stage k: it is a read of this stage without a guess, whose condition holds, at this address; and the stage that is named holds the
-- instruction of this number, may write what is read, is the nearest such stage above stage k, and isn't ready.
pub record IsCause (job : Job) (given : Samples) (now : Moment) (i : Inputs) (k : ℕ) (w : Wait) : Type 0 where
  pub there : w.read < length (sited job).reads
  pub own : (read_site job w.read).stage ≡ k
  pub plain : (read_site job w.read).guessed ≡ false
  pub asked : get_or (report job given (now.count k)).recorded.reads w.read None ≡ Some w.address
  pub above : k < w.stage
  pub within : w.stage < (machine_of job).stages
  pub number : held now w.stage ≡ Some w.writer
  pub writes : is_writer job given now (read_site job w.read).target w.address w.stage ≡ true
  pub unready : has_ready job given now i (read_site job w.read).target w.stage ≡ false
  pub nearest : (j : ℕ) → k < j → j < w.stage → is_writer job given now (read_site job w.read).target w.address j ≡ false

-- THE MOMENTS of a run: the moment after the first T of these inputs.
abbrev pub moment_at : Machine → Moment → List Inputs → ℕ → Moment
moment_at m now ins zero = now
moment_at m now [] (suc T) = now
moment_at m now (i ∷ ins) (suc T) = moment_at m (next_moment m now i) ins T

-- The run of the pipelined machine of a job from its start, its rows, and the samples that its instructions take.
abbrev pub run_rows : Job → (ℕ → ℕ) → List Inputs → List Row
run_rows job hints ins = (pipe (machine_of job) (state_of job (start_of job)) hints ins).rows

abbrev pub run_moment : Job → (ℕ → ℕ) → List Inputs → ℕ → Moment
run_moment job hints ins T = moment_at (machine_of job) (first_moment (state_of job (start_of job)) hints) ins T

abbrev pub run_given : Job → (ℕ → ℕ) → List Inputs → Samples
run_given job hints ins = taken (machine_of job) ins (run_rows job hints ins)
