-- What the rules of the language guarantee: a block for each stage, and guesses of registers alone.
use Rattle.std.proofs.Common.{◌≡◌, ◌∙◌, ℕ, suc, ◌+◌, List, [], ◌∷◌, Option, Some, None, refl, sym, ap, subst, arith}
use Rattle.std.specs.{Prelude.slice_get, List.AllByRecursion}
use Rattle.kp_ast.specs.declared.tree.{ReadStmt.ReadStmt, Expr.Expr, Stmt.Stmt, StmtKind.StmtKind, Block.Block, Job.Job}
use Rattle.kp_ast.specs.declared.tree.StmtKind.TheVariants as stmts
use Rattle.kp_width.{specs.Widths.widths_of, proofs.Unbroken.Unbroken}
use Rattle.kp_stage.specs.{Facts.stmts_in, Stages.broken_of, Design.Plan, Design.IsSound}
use Rattle.kp_pipeline.proofs.Lists.{all-append}
use Rattle.kp_machine.{specs.Slots.targets_of, proofs.Stages.stages_inside}
use Rattle.kp_design.specs.declared.guess.GuessSlot.{GuessSlot}
use Rattle.kp_design.specs.Numbers.{target_at, no_guess, guess_slot, with_read, with_guess, guesses_in, guesses_from, guesses_of}
use Rattle.kp_design.proofs.Fitting.{width_there, all_at}
use Rattle.kp_synth_stage.{specs.Work.stmts_at, specs.inner.Standing.StmtRight, proofs.Scoping.is_right}
use Rattle.kp_synth_stage.proofs.Taking.{ReadRight, Asks, read_right}
use Rattle.kp_synth.specs.inner.Whole.{GuessOk, GuessesOk, RulesGive}

-- these are the statements of stage k from j on
abbrev pub StandFrom : Job → ℕ → ℕ → List Stmt → Type 0
StandFrom job k j ss = (n : ℕ) (s : Stmt) → slice_get ss n ≡ Some s → slice_get (stmts_at job k) (j + n) ≡ Some s

pub stand_next : (job : Job) (k j : ℕ) (s : Stmt) (ss : List Stmt) → StandFrom job k j (s ∷ ss) → StandFrom job k (suc j) ss
stand_next job k j s ss h = λ n x e. let z : j + suc n ≡ suc j + n = omega arith in subst (λ i. slice_get (stmts_at job k) i ≡ Some x) z (h (suc n) x e)

pub stand_here : (job : Job) (k j : ℕ) (s : Stmt) (ss : List Stmt) → StandFrom job k j (s ∷ ss) → slice_get (stmts_at job k) j ≡ Some s
stand_here job k j s ss h = let z : j + 0 ≡ j = omega arith in subst (λ i. slice_get (stmts_at job k) i ≡ Some s) z (h 0 s refl)

module _ (job : Job) (right : Unbroken (widths_of job)) (kept : broken_of job ≡ None) where
  -- a read that is guessed has no address, so it is of a register
  guess_right : (k j i : ℕ) (r : ReadStmt) (e : Expr) → r.guess ≡ Some e → ReadRight job k j r → GuessOk job (guess_slot job k i r)
  guess_right k j i r e is read = record {
    target = read.inside;
    register = subst (λ (o : Option Expr). Asks job k j (target_at job (guess_slot job k i r).register).address o) (read.plain e is) read.asks;
    width = sym (width_there r.target.name (targets_of job.decls) read.inside);
  }

  guess_in : (k j i : ℕ) (r : ReadStmt) (o : Option Expr) (rest : ℕ → List GuessSlot) → r.guess ≡ o → ReadRight job k j r
      → ((m : ℕ) → AllByRecursion (GuessOk job) (rest m)) → AllByRecursion (GuessOk job) (with_read job k i r o rest)
  guess_in k j i r None rest is read more = more i
  guess_in k j i r (Some e) rest is read more = (guess_right k j i r e is read, more (suc i))

  guess_of : (k j i : ℕ) (s : Stmt) (x : StmtKind) (rest : ℕ → List GuessSlot) → s.kind ≡ x → slice_get (stmts_at job k) j ≡ Some s
      → ((m : ℕ) → AllByRecursion (GuessOk job) (rest m)) → AllByRecursion (GuessOk job) (with_guess job k i x rest)
  guess_of k j i s (stmts.Read r) rest e at more =
      guess_in k j i r r.guess rest refl (read_right job right k j r (subst (λ (y : StmtKind). StmtRight job k j y) e (is_right job k j s right kept at))) more
  guess_of k j i s x rest e at more = more i

  guesses_right : (k j i : ℕ) (ss : List Stmt) → StandFrom job k j ss → AllByRecursion (GuessOk job) (guesses_in job k i ss)
  guesses_right k j i [] h = tt
  guesses_right k j i (s ∷ ss) h =
      guess_of k j i s s.kind (λ m. guesses_in job k m ss) refl (stand_here job k j s ss h) (λ m. guesses_right k (suc j) m ss (stand_next job k j s ss h))

  all_guesses_right : (k : ℕ) (bs : List Block) → ((i : ℕ) → stmts_in (slice_get bs i) ≡ stmts_at job (k + i)) → AllByRecursion (GuessOk job) (guesses_from job k bs)
  all_guesses_right k [] at = tt
  all_guesses_right k (b ∷ bs) at =
      let here : k + 0 ≡ k = omega arith in
      let e : b.stmts ≡ stmts_at job k = at 0 ∙ ap (stmts_at job) here in
      all-append (GuessOk job) (guesses_in job k 0 b.stmts) (guesses_from job (suc k) bs)
      (guesses_right k 0 0 b.stmts (λ n s x. let z : n ≡ 0 + n = omega arith in sym (ap (λ (ss : List Stmt). slice_get ss (0 + n)) e) ∙ sym (ap (slice_get b.stmts) z) ∙ x))
      (all_guesses_right (suc k) bs (λ i. let next : k + suc i ≡ suc k + i = omega arith in at (suc i) ∙ ap (stmts_at job) next))

  every_guess : AllByRecursion (GuessOk job) (guesses_of job)
  unfolding guesses_of
  every_guess = all_guesses_right 0 job.blocks (λ i. let z : i ≡ 0 + i = omega arith in ap (stmts_at job) z)

  pub rules_give : RulesGive job
  unfolding GuessesOk
  rules_give = record { blocks = stages_inside job kept; guesses = λ g l. all_at (GuessOk job) (guesses_of job) no_guess every_guess g l }

-- a design keeps them
pub rules_of : (p : Plan) (job : Job) → p.job ≡ job → IsSound p → RulesGive job
rules_of p job e h = subst RulesGive e (rules_give p.job h.names h.stages)
