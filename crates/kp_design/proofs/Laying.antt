-- The guesses of a block, one statement on.
use Rattle.std.proofs.Common.{◌≡◌, ℕ, suc, ◌+◌, List, ◌∷◌, ◌++◌, Option, Some, None, ap, arith}
use Rattle.kp_ast.specs.declared.tree.{Expr.Expr, ReadStmt.ReadStmt, StmtKind.StmtKind, Job.Job}
use Rattle.kp_ast.specs.declared.tree.StmtKind.TheVariants as stmts
use Rattle.kp_stage.specs.Counts.{one_if_some}
use Rattle.kp_design.specs.declared.guess.GuessSlot.{GuessSlot}
use Rattle.kp_design.specs.Numbers.{guess_slot, with_read, with_guess}
use Rattle.kp_design.specs.inner.Tables.{read_here, guess_here, guess_count}

read_step : (job : Job) (k i : ℕ) (r : ReadStmt) (o : Option Expr) (rest : ℕ → List GuessSlot) → with_read job k i r o rest ≡ read_here job k i r o ++ rest (i + one_if_some o)
read_step job k i r None rest = let z : i ≡ i + 0 = omega arith in ap rest z
read_step job k i r (Some e) rest = let z : suc i ≡ i + 1 = omega arith in ap (λ n. guess_slot job k i r ∷ rest n) z

pub guess_step : (job : Job) (k i : ℕ) (x : StmtKind) (rest : ℕ → List GuessSlot) → with_guess job k i x rest ≡ guess_here job k i x ++ rest (i + guess_count x)
guess_step job k i (stmts.Read r) rest = read_step job k i r r.guess rest
guess_step job k i x rest = let z : i ≡ i + 0 = omega arith in ap rest z
