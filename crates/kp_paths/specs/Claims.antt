-- WHAT THE CELLS SAY of a run.
use Rattle.std.specs.Prelude.{◌≡◌, ◌≢◌, ℕ, ◌≤◌, true, false, List, Some, None, is_some, ◌⊎◌}
use Rattle.kp_ast.specs.declared.tree.{ReadStmt.ReadStmt, Job.Job}
use Rattle.kp_pipeline.specs.{Machine.Machine, Ends.Ends, Nearest.IsNearestHit}
use Rattle.kp_pipeline.specs.Pipeline.{Inputs, PipelineState, above, candidate_hits, intent_known, pipeline_start, stall}
use Rattle.kp_pipeline.specs.Rows.{state_after}
use Rattle.kp_machine.specs.Machine.{machine_of}
use Rattle.kp_paths.specs.declared.cell.Cell.TheVariants.{Reads, Empty, Wait, Guess, Bypass}
use Rattle.kp_paths.specs.Table.{cell_at, target_read}
use Rattle.kp_pipeline.specs.Machine.{State}

-- Whatever stage i reads and takes of samples, it sets the result of target t; and it never sets it.
abbrev pub SetsAlways : Machine → ℕ → ℕ → Type 0
SetsAlways m i t = (q p : ℕ → ℕ) → Ends (λ puts sets. is_some (sets t) ≡ true) (m.body i q p)

abbrev pub SetsNever : Machine → ℕ → ℕ → Type 0
SetsNever m i t = (q p : ℕ → ℕ) → Ends (λ puts sets. sets t ≡ None) (m.body i q p)

-- An instruction in stage j has a value for target t as soon as the stage isn't stalled: its intent is known, and the result has been set, or stage j
-- writes it.
pub record HasValue (m : Machine) (t j : ℕ) : Type 0 where
  pub known : intent_known m j t ≡ true
  pub set : (j ≡ m.write_stage t) ⊎ ((i : ℕ) × (i ≤ j) × SetsAlways m i t)

-- It has none: its intent isn't known, or nothing has set the result and stage j doesn't write it.
abbrev pub HasNoValue : Machine → ℕ → ℕ → Type 0
HasNoValue m t j = (intent_known m j t ≡ false) ⊎ ((j ≢ m.write_stage t) × ((i : ℕ) → i ≤ j → SetsNever m i t))

-- The state after T cycles from a start state and hints, with these inputs.
abbrev pub state_at : Machine → State → (ℕ → ℕ) → List Inputs → ℕ → PipelineState
state_at m s hints ins T = state_after m (pipeline_start s hints) ins T

-- In each state of each run, for a read of target t at address a in stage k whose nearest hit is stage j:
pub record ArePaths (job : Job) : Type 0 where
  -- if the cell is `bypass`, the read has its value once stage j isn't stalled, so it meets no data hazard
  pub bypass : (s : State) (hints : ℕ → ℕ) (ins : List Inputs) (T : ℕ) (inputs : Inputs) (r : ReadStmt) (k j a : ℕ)
      → cell_at job r k j ≡ Bypass
      → IsNearestHit (machine_of job) (state_at (machine_of job) s hints ins T) k (target_read job r) a j
      → stall (machine_of job) (state_at (machine_of job) s hints ins T) inputs j ≡ false
      → (v : ℕ) × ((above (machine_of job) (state_at (machine_of job) s hints ins T) inputs k).truth (target_read job r) a ≡ Some v)
  -- if it is `wait` or `guess`, the read has no value
  pub unmet : (s : State) (hints : ℕ → ℕ) (ins : List Inputs) (T : ℕ) (inputs : Inputs) (r : ReadStmt) (k j a : ℕ)
      → (cell_at job r k j ≡ Wait) ⊎ (cell_at job r k j ≡ Guess)
      → IsNearestHit (machine_of job) (state_at (machine_of job) s hints ins T) k (target_read job r) a j
      → (above (machine_of job) (state_at (machine_of job) s hints ins T) inputs k).truth (target_read job r) a ≡ None
  -- and no cell is empty: in any state, a read takes no value from a stage whose cell is empty
  pub empty : (st : PipelineState) (r : ReadStmt) (k j a : ℕ)
      → (cell_at job r k j ≡ Reads) ⊎ (cell_at job r k j ≡ Empty)
      → IsNearestHit (machine_of job) st k (target_read job r) a j → ⊥
  -- a full stage whose intent isn't known hits at every address: where the intent is unknown, `wait` and `guess` don't depend on the address
  pub unknown : (st : PipelineState) (r : ReadStmt) (k j a : ℕ)
      → (cell_at job r k j ≡ Wait) ⊎ (cell_at job r k j ≡ Guess)
      → intent_known (machine_of job) j (target_read job r) ≡ false
      → (st.stage j).full ≡ true → candidate_hits (machine_of job) st j (target_read job r) a ≡ true
