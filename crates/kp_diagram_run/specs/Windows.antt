-- The run of a job from a cycle on, and the figure of a window of its diagram.
use Rattle.std.specs.Prelude.{◌≡◌, ℕ, ◌+◌, ◌-◌, ◌<◌, List, [], ◌∷◌, ◌++◌, All, length, get_or, map}
use Rattle.kp_base.specs.declared.row.Row as masks
use Rattle.kp_ast.specs.declared.tree.Job.{Job}
use Rattle.kp_stage.specs.Start.{stall_word}
use Rattle.kp_diagram.specs.{Diagram.Filling, Flights.flights, Flights.losses_from, Windows.minus, Windows.window}
use Rattle.kp_diagram.specs.Flights as diagram
use Rattle.kp_pipeline.specs.Rows.{counts}
use Rattle.kp_sched.specs.Rows.{bit_of, rows_seen}
use Rattle.kp_diagram_text.specs.{Figures.Figure, Losses.losses_shown, Windows.placed_seen, declared.window.Placed.Placed, declared.window.Window.Window}
use Rattle.kp_diagram_run.specs.{Figures.job_figure, Figures.job_rows, declared.window.JobWindow.JobWindow}

-- A figure from cycle `from` on: the cells of the figure in these columns, which are counted from there, and the difference of two accounts: that of the
-- complete figure, and that of the figure of the cycles before.
abbrev pub later_part : ℕ → Figure → Figure → Figure
later_part from complete earlier = record {
  name = complete.name;
  names = complete.names;
  stages = complete.stages;
  cycles = complete.cycles - from;
  fetches = window from complete.fetches;
  account = minus complete.account earlier.account;
}

-- THE FIGURE OF A WINDOW of a job: n cycles from cycle `from` on.
abbrev pub job_window : List (List ℕ) → ℕ → ℕ → Job → Figure
job_window names from n job = later_part from (job_figure names (from + n) job) (job_figure names from job)

-- the instruction that is in stage 0 when a run begins
abbrev pub first : List diagram.Placed
first = record { number = 0; stage = 0 } ∷ []

-- The rows and the stall words of n cycles from cycle `from` on, the number of the instruction in stage 0 in each of them, and the instructions in flight
-- in the first of them, and why each stage is empty there.
pub record IsWindowOf (job : Job) (from n : ℕ) (w : JobWindow) : Type 0 where
  pub before : List masks.Row
  pub long : length before ≡ from
  pub early : rows_seen job.stages.value before ≡ job_rows from job
  pub all : rows_seen job.stages.value (before ++ w.rows.items) ≡ job_rows (from + n) job
  pub count : length w.rows.items ≡ n
  pub many : length w.words.items ≡ n
  pub words : (T : ℕ) → T < n → get_or w.words.items T 0 ≡ stall_word job (from + T)
  pub numbered : length w.numbers.items ≡ n
  pub numbers : (T : ℕ) → T < n → get_or w.numbers.items T 0 ≡ counts job.stages.value (rows_seen job.stages.value (before ++ w.rows.items)) (from + T) 0
  pub flight : map placed_seen w.flight.items ≡ flights job.stages.value (λ k. 0) first (rows_seen job.stages.value before)
  pub within : All (λ (p : Placed). p.stage < job.stages.value) w.flight.items
  pub losses : (k : ℕ) → k < job.stages.value
      → losses_shown w.losses k ≡ losses_from (λ T. bit_of (stall_word job T)) 0 (λ j. Filling) (rows_seen job.stages.value before) k
  pub twelve : length w.losses ≡ 12

-- What such a run carries to the first cycle of the window.
pub record IsCarried (run : JobWindow) (cycle : ℕ) (w : Window) : Type 0 where
  pub from : w.from ≡ cycle
  pub numbers : w.numbers.now ≡ run.numbers.items
  pub flight : w.flight.now ≡ run.flight.items
  pub losses : w.losses ≡ run.losses
