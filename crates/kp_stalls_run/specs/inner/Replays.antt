-- A netlist that runs again.
use Rattle.std.specs.Prelude.{◌≡◌, ℕ, [], ◌∷◌, Some, Bool, false, is_some}
use Rattle.kp_ast.specs.declared.tree.Job.{Job}
use Rattle.kp_cycle.specs.Steps.{Running}
use Rattle.kp_net.specs.Netlist.{Net, State, cells_of, last_of, stalled, start_of}
use Rattle.kp_pipeline.specs.Trimming.{trimmed}
use Rattle.kp_run.specs.Cycles.{inputs_to}
use Rattle.kp_sites.specs.Sites.{sited}
use Rattle.kp_synth_registers.specs.{Holding.Holds, Holding.inputs_of, Keys.keys_of}
use Rattle.kp_design.specs.Spans.{is_alive}
use Rattle.kp_stalls.specs.declared.cause.{Cause.Cause, Cause.TheVariants.Squashed, Cause.TheVariants.Unsure, Line.Line}
use Rattle.kp_stalls_run.specs.{declared.guesses.Tables.Tables, Runs.state_at}

-- whether a cause names a guess
abbrev pub names_guess : Cause → Bool
names_guess (Squashed w) = is_some w.guess
names_guess _ = false

abbrev pub names_one : Line → Bool
names_one l = names_guess l.cause

-- after T cycles, with the start state in the one slot
abbrev pub run_at : Job → Net → ℕ → Running
run_at job net T = record { net = net; state = last_of net (inputs_to job T); slots = Some (start_of net) ∷ [] }

-- The registers hold the state of the pipeline after T cycles.
abbrev pub HoldsState : Job → State → ℕ → Type 0
HoldsState job s T = Holds job (cells_of (stalled 0) s) (trimmed (is_alive job) (state_at job T)) (inputs_of job (stalled 0))

-- The tables are those of the job.
pub record AreTables (job : Job) (tables : Tables) : Type 0 where
  pub layout : tables.layout ≡ job
  pub keys : tables.keys ≡ keys_of job
  pub sites : tables.sites ≡ sited job

-- the default for a line that doesn't exist
abbrev pub no_line : Line
no_line = record { cycle = 0; number = 0; stage = 0; cause = Unsure }
