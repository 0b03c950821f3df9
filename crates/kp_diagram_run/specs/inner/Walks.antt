-- What a run carries after some rows.
use Rattle.std.specs.Prelude.{◌≡◌, ℕ, ◌+◌, ◌<◌, Bool, List, ◌++◌, All, get_or, length, map}
use Rattle.kp_base.specs.declared.row.Row as masks
use Rattle.kp_diagram.specs.{Diagram.Filling, Flights.flights, Flights.losses_from}
use Rattle.kp_sched.specs.{Monitors.HasSeen, Monitors.Kept, Rows.rows_seen}
use Rattle.kp_diagram_text.specs.{Losses.losses_shown, Windows.placed_seen, declared.window.Placed.Placed}
use Rattle.kp_ast.specs.declared.tree.Job.{Job}
use Rattle.kp_stage.specs.Start.{stall_word}
use Rattle.kp_pipeline.specs.Rows.{counts}
use Rattle.kp_net.specs.Netlist.{Net, run}
use Rattle.kp_run.specs.Cycles.{HasRows, inputs_to}
use Rattle.kp_diagram_run.specs.{Windows.first, inner.Words.words_to, declared.window.JobWindow.JobWindow, declared.window.Walk.Walk}

abbrev pub no_placed : Placed
no_placed = record { number = 0; stage = 0 }

pub record IsWalked (n : ℕ) (ext : ℕ → ℕ → Bool) (rows : List masks.Row) (w : Walk) : Type 0 where
  pub seen : HasSeen w.monitor rows
  pub stages : w.monitor.stages ≡ n
  pub flight : map placed_seen w.flight.items ≡ flights n (λ k. 0) first (rows_seen n rows)
  pub within : All (λ (p : Placed). p.stage < n) w.flight.items
  pub losses : (k : ℕ) → k < n → losses_shown w.losses k ≡ losses_from ext 0 (λ j. Filling) (rows_seen n rows) k
  pub twelve : length w.losses ≡ 12

-- n cycles from cycle `from` on were recorded.
pub record IsRecorded (job : Job) (net : Net) (from n : ℕ) (walk : Walk) (w : JobWindow) : Type 0 where
  pub monitor : Kept
  pub has : HasRows job net (from + n) ((run net (inputs_to job from)).rows ++ w.rows.items) monitor
  pub count : length w.rows.items ≡ n
  pub words : w.words.items ≡ words_to (λ T. stall_word job (from + T)) n
  pub numbered : length w.numbers.items ≡ n
  pub numbers : (T : ℕ) → T < n → get_or w.numbers.items T 0
      ≡ counts job.stages.value (rows_seen job.stages.value ((run net (inputs_to job from)).rows ++ w.rows.items)) (from + T) 0
  pub flight : w.flight.items ≡ walk.flight.items
  pub losses : w.losses ≡ walk.losses
