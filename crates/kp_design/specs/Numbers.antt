-- WHAT A NUMBER DENOTES: the targets, pipes, hints and samples of a job in the order of declaration, which are those of
-- its machine, and its guessed reads.
use Rattle.std.specs.Prelude.{ℕ, suc, List, [], ◌∷◌, ◌++◌, get_or, Option, Some, None}
use Rattle.kp_ast.specs.declared.tree.{ReadStmt.ReadStmt, Expr.Expr, Stmt.Stmt, StmtKind.StmtKind, Block.Block, Job.Job}
use Rattle.kp_ast.specs.declared.tree.StmtKind.TheVariants as stmts
use Rattle.kp_machine.specs.Slots.{Slot, targets_of, pipes_of, hints_of, samples_of, number_of, width_of}
use Rattle.kp_machine.specs.Machine.{result_for, write_stage_of}
use Rattle.kp_design.specs.declared.guess.GuessSlot.{GuessSlot}

-- The default for an entry that doesn't exist.
abbrev pub no_slot : Slot
no_slot = record { name = []; width = 0; address = 0 }

abbrev pub target_at : Job → ℕ → Slot
target_at job t = get_or (targets_of job.decls) t no_slot

abbrev pub pipe_at : Job → ℕ → Slot
pipe_at job x = get_or (pipes_of job.decls) x no_slot

abbrev pub hint_at : Job → ℕ → Slot
hint_at job h = get_or (hints_of job.decls) h no_slot

abbrev pub sample_at : Job → ℕ → Slot
sample_at job x = get_or (samples_of job.decls) x no_slot

-- A GUESSED READ: its stage, its number among the guessed reads of the stage, its register, that register's width and write stage.
abbrev pub no_guess : GuessSlot
no_guess = record { stage = 0; index = 0; register = 0; width = 0; write = 0 }

abbrev pub guess_slot : Job → ℕ → ℕ → ReadStmt → GuessSlot
guess_slot job k i r = let register = number_of (targets_of job.decls) r.target.name in record {
  stage = k;
  index = i;
  register = register;
  width = width_of (targets_of job.decls) r.target.name;
  write = write_stage_of (result_for job register);
}

-- the guessed reads of a stage from one statement on, in text order, where i guessed reads precede it
abbrev pub with_read : Job → ℕ → ℕ → ReadStmt → Option Expr → (ℕ → List GuessSlot) → List GuessSlot
with_read job k i r None rest = rest i
with_read job k i r (Some guess) rest = guess_slot job k i r ∷ rest (suc i)

abbrev pub with_guess : Job → ℕ → ℕ → StmtKind → (ℕ → List GuessSlot) → List GuessSlot
with_guess job k i (stmts.Read r) rest = with_read job k i r r.guess rest
with_guess job k i _ rest = rest i

abbrev pub guesses_in : Job → ℕ → ℕ → List Stmt → List GuessSlot
guesses_in job k i [] = []
guesses_in job k i (s ∷ ss) = with_guess job k i s.kind (λ j. guesses_in job k j ss)

abbrev pub guesses_from : Job → ℕ → List Block → List GuessSlot
guesses_from job k [] = []
guesses_from job k (b ∷ bs) = guesses_in job k 0 b.stmts ++ guesses_from job (suc k) bs

-- The guesses of a job are numbered from 0, stage by stage, and in text order within a stage.
unfoldable pub guesses_of : Job → List GuessSlot
guesses_of job = guesses_from job 0 job.blocks

abbrev pub guess_at : Job → ℕ → GuessSlot
guess_at job g = get_or (guesses_of job) g no_guess
