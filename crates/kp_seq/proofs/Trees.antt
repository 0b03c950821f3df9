-- A stage of the abstract machine that sees a state, statement by statement.
use Rattle.std.proofs.Common.{◌≡◌, ◌∙◌, ℕ, List, [], ◌∷◌, Option, Some, None, Bool, true, false, cond, refl}
use Rattle.kp_ast.specs.declared.tree.{Expr.Expr, ReadStmt.ReadStmt, Decl.Decl, Stmt.Stmt, StmtKind.StmtKind}
use Rattle.kp_ast.specs.declared.tree.StmtKind.TheVariants as stmts
use Rattle.kp_pipeline.specs.{Machine.Tree, Machine.Done, Sequential.StageOutcome, Sequential.run}
use Rattle.kp_machine.specs.Slots.{targets_of, number_of, result_named}
use Rattle.kp_machine.specs.Trees.{Progress, holds, value_of, word_read, with_name, with_set, read_of, statement_of, tree_of}
use Rattle.kp_seq.specs.Recorded.{done_after}
use Rattle.kp_seq.specs.Recorded as recorded

module _ (ds : List Decl) (s : ℕ → ℕ → ℕ) where
  -- what a stage sees
  abbrev pub seen : ℕ → ℕ → Option ℕ
  seen t a = Some (s t a)

  abbrev pub no_hints : ℕ → ℕ
  no_hints h = 0

  abbrev pub address_read : Progress → ReadStmt → Option Expr → ℕ
  address_read = recorded.address_read ds

  -- the value of a read
  abbrev pub value_read : Progress → ReadStmt → ℕ
  value_read = recorded.value_read ds s

  -- what is done after a statement
  abbrev pub next : Progress → StmtKind → Progress
  next = done_after ds s

  abbrev pub nexts : Progress → List Stmt → Progress
  nexts done [] = done
  nexts done (x ∷ xs) = nexts (next done x.kind) xs

  abbrev outcome : Tree → StageOutcome
  outcome = run seen no_hints

  read_runs : (done : Progress) (r : ReadStmt) (guess : Option Expr) (b : Bool) (rest : Progress → Tree)
      → outcome (cond b (read_of ds done r guess (λ v. rest (with_name done r.name.name (word_read ds r v)))) (rest (with_name done r.name.name (word_read ds r 0))))
      ≡ outcome (rest (with_name done r.name.name (word_read ds r (cond b (s (number_of (targets_of ds) r.target.name) (address_read done r guess)) 0))))
  read_runs done r None true rest = refl
  read_runs done r (Some e) true rest = refl
  read_runs done r guess false rest = refl

  set_runs : (done more : Progress) (b : Bool) (rest : Progress → Tree) → outcome (cond b (rest more) (rest done)) ≡ outcome (rest (cond b more done))
  set_runs done more true rest = refl
  set_runs done more false rest = refl

  one_runs : (done : Progress) (x : StmtKind) (rest : Progress → Tree) → outcome (statement_of ds done x rest) ≡ outcome (rest (next done x))
  one_runs done (stmts.Read r) rest = read_runs done r r.guess (holds ds done r.when) rest
  one_runs done (stmts.Let n e) rest = refl
  one_runs done (stmts.Put n e) rest = refl
  one_runs done (stmts.Set n e when) rest = set_runs done (with_set ds done (result_named ds n.name) (value_of ds done e)) (holds ds done when) rest
  one_runs done (stmts.Aim n e) rest = refl

  -- a stage runs by executing its statements in order
  pub stage_runs : (done : Progress) (xs : List Stmt) → outcome (tree_of ds done xs) ≡ outcome (Done (nexts done xs).puts (nexts done xs).sets (nexts done xs).aims)
  stage_runs done [] = refl
  stage_runs done (x ∷ xs) = one_runs done x.kind (λ more. tree_of ds more xs) ∙ stage_runs (next done x.kind) xs
