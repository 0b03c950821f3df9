-- WHERE NO STAGE WAITS FOR DATA, by the table of `kpview paths`.
use Rattle.std.specs.Prelude.{◌≡◌, ◌⊎◌, ℕ, ◌<◌, Bool, true, false, ◌&&◌, leb, List, [], ◌∷◌, None, slice_get}
use Rattle.kp_ast.specs.declared.tree.{ReadStmt.ReadStmt, Stmt.Stmt, StmtKind.TheVariants.Read, Job.Job}
use Rattle.kp_stage.specs.Facts.{stmts_in}
use Rattle.kp_pipeline.specs.{Machine.State, Pipeline.Inputs, Pipeline.back, Pipeline.stall, Pipeline.ue}
use Rattle.kp_machine.specs.Machine.{machine_of}
use Rattle.kp_paths.specs.declared.cell.Cell.{Cell, TheVariants.Reads, TheVariants.Empty, TheVariants.Bypass}
use Rattle.kp_paths.specs.{Table.cell_at, Claims.state_at}

-- one of these statements is this read
abbrev pub IsReadIn : ReadStmt → List Stmt → Type 0
IsReadIn r [] = ⊥
IsReadIn r (s ∷ ss) = (s.kind ≡ Read r) ⊎ IsReadIn r ss

-- the stage gives the value once it isn't stalled, or it gives none ever
abbrev pub is_bypass : Cell → Bool
is_bypass Bypass = true
is_bypass Reads = true
is_bypass Empty = true
is_bypass _ = false

-- The table has no other cell for the reads without a guess.
abbrev pub IsBypassed : Job → Type 0
IsBypassed job =
    (r : ReadStmt) (k j : ℕ) → IsReadIn r (stmts_in (slice_get job.blocks k)) → r.guess ≡ None → is_bypass (cell_at job r k j) ≡ true

-- FULL THROUGHPUT. In each cycle of each run in which no stage is stalled from outside, no stage stalls (`calm`), and each full stage that isn't squashed
-- moves its instruction on (`moves`).
pub record NeverWaits (job : Job) : Type 0 where
  pub calm : (s : State) (hints : ℕ → ℕ) (ins : List Inputs) (T : ℕ) (i : Inputs) → ((k : ℕ) → k < (machine_of job).stages → i.ext k ≡ false)
      → (k : ℕ) → k < (machine_of job).stages → stall (machine_of job) (state_at (machine_of job) s hints ins T) i k ≡ false
  pub moves : (s : State) (hints : ℕ → ℕ) (ins : List Inputs) (T : ℕ) (i : Inputs) → ((k : ℕ) → k < (machine_of job).stages → i.ext k ≡ false)
      → (k : ℕ) → k < (machine_of job).stages
      → ue (machine_of job) (state_at (machine_of job) s hints ins T) i k
      ≡ (((state_at (machine_of job) s hints ins T).stage k).full && leb (back (machine_of job) (state_at (machine_of job) s hints ins T) i) k)
