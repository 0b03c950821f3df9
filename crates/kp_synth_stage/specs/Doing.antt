-- WHAT THE STATEMENTS OF A STAGE DO, in order, where the truth of a read may be missing.
use Rattle.std.specs.Prelude.{Bool, List, None, Option, Some, [], false, if◌then◌else◌, ℕ, ◌++◌, ◌||◌, ◌∷◌}
use Rattle.kp_ast.specs.declared.tree.{Decl.Decl, Expr.Expr, ReadStmt.ReadStmt, Stmt.Stmt, StmtKind.StmtKind}
use Rattle.kp_pipeline.specs.Sequential.{PendingGuess, StageOutcome}
use Rattle.kp_machine.specs.Slots.{hints_of, number_of, pipes_of, result_named, targets_of}
use Rattle.kp_machine.specs.Trees.{Progress, address_of, holds, value_of, value_with_hints, with_aim, with_name, with_put, with_set, word_of, word_read}
use Rattle.kp_synth_stage.specs.Reading.{given, lacks}
use Rattle.kp_ast.specs.declared.tree.StmtKind.TheVariants as stmts

-- what was done so far, whether a read had a data hazard, and the guesses that were made
pub record Doing : Type 0 where
  pub done : Progress
  pub hazard : Bool
  pub guesses : List PendingGuess

-- the truth of reads, by target and address
abbrev pub Truths : Type 0
Truths = ℕ → ℕ → Option ℕ

abbrev pub target_of : List Decl → ReadStmt → ℕ
target_of ds r = number_of (targets_of ds) r.target.name

-- a guess is of a register, which is read at address 0
abbrev pub address_read : List Decl → Progress → ReadStmt → Option Expr → ℕ
address_read ds done r None = address_of ds done r.address
address_read ds done r (Some e) = 0

abbrev pub truth_of : List Decl → Truths → Progress → ReadStmt → Option Expr → Option ℕ
truth_of ds v done r guess = v (target_of ds r) (address_read ds done r guess)

-- the replacement of a missing truth
abbrev pub miss_of : List Decl → (ℕ → ℕ) → Progress → Option Expr → ℕ
miss_of ds hints done None = 0
miss_of ds hints done (Some e) = value_with_hints ds done e hints

-- without a guess that is a data hazard, and with one the guess becomes pending
abbrev pub hazard_of : Option Expr → Bool → Bool
hazard_of None lacking = lacking
hazard_of (Some e) lacking = false

abbrev pub guess_of : Option Expr → Bool → PendingGuess → List PendingGuess
guess_of None lacking guess = []
guess_of (Some e) lacking guess = if lacking then guess ∷ [] else []

abbrev pub read_value : List Decl → Truths → (ℕ → ℕ) → Progress → ReadStmt → ℕ
read_value ds v hints done r = given (holds ds done r.when) (truth_of ds v done r r.guess) (miss_of ds hints done r.guess)

abbrev pub read_lacks : List Decl → Truths → Progress → ReadStmt → Bool
read_lacks ds v done r = lacks (holds ds done r.when) (truth_of ds v done r r.guess)

abbrev pub read_guess : List Decl → (ℕ → ℕ) → Progress → ReadStmt → PendingGuess
read_guess ds hints done r = record { register = target_of ds r; value = miss_of ds hints done r.guess }

-- after a statement
abbrev pub after_stmt : List Decl → Truths → (ℕ → ℕ) → Doing → StmtKind → Doing
after_stmt ds v hints d (stmts.Read r) = record {
  done = with_name d.done r.name.name (word_read ds r (read_value ds v hints d.done r));
  hazard = d.hazard || hazard_of r.guess (read_lacks ds v d.done r);
  guesses = d.guesses ++ guess_of r.guess (read_lacks ds v d.done r) (read_guess ds hints d.done r);
}
after_stmt ds v hints d (stmts.Let n e) = record d { done = with_name d.done n.name (word_of ds d.done e) }
after_stmt ds v hints d (stmts.Put n e) = record d { done = with_put d.done (number_of (pipes_of ds) n.name) (value_of ds d.done e) }
after_stmt ds v hints d (stmts.Set n e when) = record d { done = if holds ds d.done when then with_set ds d.done (result_named ds n.name) (value_of ds d.done e) else d.done }
after_stmt ds v hints d (stmts.Aim n e) = record d { done = with_aim d.done (number_of (hints_of ds) n.name) (value_with_hints ds d.done e) }

abbrev pub after_stmts : List Decl → Truths → (ℕ → ℕ) → Doing → List Stmt → Doing
after_stmts ds v hints d [] = d
after_stmts ds v hints d (x ∷ xs) = after_stmts ds v hints (after_stmt ds v hints d x.kind) xs

-- nothing is done yet
abbrev pub begun : Progress → Doing
begun done = record { done = done; hazard = false; guesses = [] }

-- the outcome
abbrev pub outcome_of : (ℕ → ℕ) → Doing → StageOutcome
outcome_of hints d = record { hazard = d.hazard; puts = d.done.puts; sets = d.done.sets; guesses = d.guesses; aims = d.done.aims hints }
