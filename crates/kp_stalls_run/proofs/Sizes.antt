-- A guess has the width of its register.
use Rattle.std.proofs.Common.{◌≡◌, ℕ, suc, ◌<◌, List, [], ◌∷◌, Option, Some, None, length, get_or, refl}
use Rattle.std.specs.List.{AllByRecursion}
use Rattle.kp_ast.specs.{Expressions.is_same_name, declared.tree.Block.Block, declared.tree.Expr.Expr, declared.tree.Job.Job, declared.tree.ReadStmt.ReadStmt}
use Rattle.kp_ast.specs.declared.tree.{Stmt.Stmt, StmtKind.StmtKind}
use Rattle.kp_ast.specs.declared.tree.StmtKind.TheVariants as stmts
use Rattle.kp_machine.{specs.Slots.Slot, specs.Slots.number_of, specs.Slots.targets_of, specs.Slots.width_of, proofs.Cases.by_test}
use Rattle.kp_pipeline.proofs.Lists.{all-append}
use Rattle.kp_design.proofs.Fitting.{all_at}
use Rattle.kp_design.specs.declared.guess.GuessSlot.{GuessSlot}
use Rattle.kp_design.specs.Numbers.{guess_at, guesses_from, guesses_in, guesses_of, no_guess, no_slot, target_at, with_guess, with_read}

named_width : (ss : List Slot) (name : List ℕ) → width_of ss name ≡ (get_or ss (number_of ss name) no_slot).width
named_width [] name = refl
named_width (s ∷ ss) name = by_test (is_same_name name s.name)
    (λ e. rw e refl)
    (λ e. rw e (named_width ss name))

module _ (job : Job) where
  abbrev IsSized : GuessSlot → Type 0
  IsSized g = g.width ≡ (target_at job g.register).width

  module _ (k : ℕ) where
    read_sized : (i : ℕ) (r : ReadStmt) (o : Option Expr) (rest : ℕ → List GuessSlot) → ((m : ℕ) → AllByRecursion IsSized (rest m)) → AllByRecursion IsSized (with_read job k i r o rest)
    read_sized i r None rest more = more i
    read_sized i r (Some e) rest more = (named_width (targets_of job.decls) r.target.name, more (suc i))

    kind_sized : (i : ℕ) (x : StmtKind) (rest : ℕ → List GuessSlot) → ((m : ℕ) → AllByRecursion IsSized (rest m)) → AllByRecursion IsSized (with_guess job k i x rest)
    kind_sized i (stmts.Read r) rest more = read_sized i r r.guess rest more
    kind_sized i _ rest more = more i

    block_sized : (i : ℕ) (ss : List Stmt) → AllByRecursion IsSized (guesses_in job k i ss)
    block_sized i [] = tt
    block_sized i (s ∷ ss) = kind_sized i s.kind (λ j. guesses_in job k j ss) (λ j. block_sized j ss)

  blocks_sized : (k : ℕ) (bs : List Block) → AllByRecursion IsSized (guesses_from job k bs)
  blocks_sized k [] = tt
  blocks_sized k (b ∷ bs) = all-append IsSized (guesses_in job k 0 b.stmts) (guesses_from job (suc k) bs) (block_sized k 0 b.stmts) (blocks_sized (suc k) bs)

  pub guess_sized : (g : ℕ) → g < length (guesses_of job) → (guess_at job g).width ≡ (target_at job (guess_at job g).register).width
  unfolding guesses_of
  guess_sized g b = all_at IsSized (guesses_from job 0 job.blocks) no_guess (blocks_sized 0 job.blocks) g b
