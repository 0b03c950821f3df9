-- Where no read has a guess, no tree has one; and where no sample is declared, no stage looks at one.
use Rattle.std.proofs.Common.{◌≡◌, ◌<◌, ℕ, zero, suc, List, [], ◌∷◌, Option, Some, None, ap, arith, refl}
use Rattle.std.{proofs.lemmas.Bool.cond_both, proofs.lemmas.List.Sums.sum_by-cons, specs.Prelude.slice_get, specs.Prelude.get_or, specs.Prelude.sum_by}
use Rattle.std.specs.List.{AllByRecursion}
use Rattle.kp_ast.specs.declared.tree.{Expr.Expr, ReadStmt.ReadStmt, Decl.Decl, Stmt.Stmt, StmtKind.StmtKind, Block.Block, Job.Job}
use Rattle.kp_ast.specs.declared.tree.StmtKind.TheVariants as stmts
use Rattle.kp_stage.specs.{Counts.guesses_in, Counts.guesses_of, Counts.one_if_some, Counts.summary_of, Facts.stmts_in}
use Rattle.kp_pipeline.specs.{Machine.Tree, Timeline.HasNoGuess, Timeline.HasNoGuessOrSample}
use Rattle.kp_machine.specs.Trees.{Progress, entered, holds, value_of, value_with_hints, with_name, with_put, with_set, with_aim, word_of, word_read, read_of, statement_of, tree_of}
use Rattle.kp_machine.specs.{Slots.hints_of, Slots.pipes_of, Slots.sample_stages, Slots.number_of, Slots.result_named, Machine.machine_of, Machine.stage_tree}
use Rattle.kp_machine.proofs.Sampleless.{none_declared}

abbrev NoneIn : List Stmt → Type 0
NoneIn ss = AllByRecursion (λ s. guesses_of s.kind ≡ 0) ss

none_in_stmts : (ss : List Stmt) → sum_by guesses_in ss ≡ 0 → NoneIn ss
none_in_stmts [] h = tt
none_in_stmts (s ∷ ss) h =
    let e = sum_by-cons guesses_in s ss in
    (omega (arith, e, h), none_in_stmts ss (omega (arith, e, h)))

none_in_blocks : (bs : List Block) (k : ℕ) → sum_by (λ b. sum_by guesses_in b.stmts) bs ≡ 0 → NoneIn (stmts_in (slice_get bs k))
none_in_blocks [] k h = tt
none_in_blocks (b ∷ bs) zero h = let e = sum_by-cons (λ (x : Block). sum_by guesses_in x.stmts) b bs in none_in_stmts b.stmts (omega (arith, e, h))
none_in_blocks (b ∷ bs) (suc k) h = let e = sum_by-cons (λ (x : Block). sum_by guesses_in x.stmts) b bs in none_in_blocks bs k (omega (arith, e, h))

module _ (ds : List Decl) where
  read : (done : Progress) (r : ReadStmt) (o : Option Expr) (rest : ℕ → Tree) → r.guess ≡ o → one_if_some r.guess ≡ 0
      → ((v : ℕ) → HasNoGuess (rest v)) → HasNoGuess (read_of ds done r o rest)
  read done r None rest is h go = go
  read done r (Some e) rest is h go = let one : one_if_some r.guess ≡ 1 = ap one_if_some is in absurd (omega (arith, one, h))

  statement : (done : Progress) (s : StmtKind) (rest : Progress → Tree) → guesses_of s ≡ 0
      → ((next : Progress) → HasNoGuess (rest next)) → HasNoGuess (statement_of ds done s rest)
  statement done (stmts.Read r) rest h go =
      cond_both (holds ds done r.when)
      (read_of ds done r r.guess (λ v. rest (with_name done r.name.name (word_read ds r v))))
      (rest (with_name done r.name.name (word_read ds r 0))) HasNoGuess
      (λ _. read done r r.guess (λ v. rest (with_name done r.name.name (word_read ds r v))) refl h (λ v. go (with_name done r.name.name (word_read ds r v))))
      (λ _. go (with_name done r.name.name (word_read ds r 0)))
  statement done (stmts.Let n e) rest h go = go (with_name done n.name (word_of ds done e))
  statement done (stmts.Put n e) rest h go = go (with_put done (number_of (pipes_of ds) n.name) (value_of ds done e))
  statement done (stmts.Set n e when) rest h go =
      cond_both (holds ds done when) (rest (with_set ds done (result_named ds n.name) (value_of ds done e))) (rest done) HasNoGuess
      (λ _. go (with_set ds done (result_named ds n.name) (value_of ds done e))) (λ _. go done)
  statement done (stmts.Aim n e) rest h go = go (with_aim done (number_of (hints_of ds) n.name) (value_with_hints ds done e))

  tree : (done : Progress) (ss : List Stmt) → NoneIn ss → HasNoGuess (tree_of ds done ss)
  tree done [] h = tt
  tree done (s ∷ ss) h = statement done s.kind (λ next. tree_of ds next ss) h.0 (λ next. tree next ss h.1)

pub without_guess : (job : Job) → (summary_of job).guesses ≡ 0 → (k : ℕ) (q p : ℕ → ℕ) → k < (machine_of job).stages → HasNoGuess ((machine_of job).body k q p)
unfolding machine_of stage_tree summary_of
without_guess job h k q p b = tree job.decls (entered job.decls q p) (stmts_in (slice_get job.blocks k)) (none_in_blocks job.blocks k h)

pub guessless : (job : Job) → (summary_of job).guesses ≡ 0 → (summary_of job).samples ≡ 0 → HasNoGuessOrSample (machine_of job)
unfolding machine_of stage_tree summary_of
guessless job h none = (
  without_guess job h,
  (λ x. let e : get_or (sample_stages job.decls) x job.stages.value ≡ job.stages.value = ap (λ (s : List ℕ). get_or s x job.stages.value) (none_declared job.decls none).1 in omega (arith, e)),
)
