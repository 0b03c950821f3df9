-- AN INSTRUCTION from statement to statement: what has been set before each.
use Rattle.std.proofs.Common.{◌≡◌, ◌∙◌, ℕ, zero, suc, Bool, true, false, cond, eqb, List, [], ◌∷◌, length, take, ◌≤◌, Option, Some, None, is_some, refl, ap, sym, arith}
use Rattle.std.{proofs.lemmas.Bool.cond_both, proofs.lemmas.List.take_all, specs.Prelude.slice_get, specs.Prelude.if◌then◌else◌}
use Rattle.kp_ast.specs.declared.tree.{Expr.Expr, Named.Named, ReadStmt.ReadStmt, ResultDecl.ResultDecl, Decl.Decl, Stmt.Stmt, StmtKind.StmtKind, Job.Job}
use Rattle.kp_ast.specs.declared.tree.StmtKind.TheVariants as stmts
use Rattle.kp_stage.specs.Facts.{stmts_in}
use Rattle.kp_pipeline.specs.{Machine.Tree, Sequential.StageOutcome, Sequential.before_stage, Sequential.first_value, Sequential.run}
use Rattle.kp_machine.specs.Trees.{Progress, address_of, entered, holds, value_of, value_with_hints, with_aim, with_name, with_put, with_set, with_value, word_of, word_read, read_of, statement_of, tree_of}
use Rattle.kp_machine.specs.{Slots.targets_of, Slots.pipes_of, Slots.hints_of, Slots.number_of, Slots.result_named, Machine.machine_of, Machine.stage_tree}
use Rattle.kp_lint.specs.Claims.{IsBetweenStages, instruction_at}

-- of two optional values
first_kept : (o n : Option ℕ) → is_some o ≡ true → is_some (first_value o n) ≡ true
first_kept None n h = cc
first_kept (Some v) n h = refl

later_kept : (o n : Option ℕ) → is_some n ≡ true → is_some (first_value o n) ≡ true
later_kept None n h = h
later_kept (Some v) n h = refl

pub first_alone : (o : Option ℕ) → first_value o None ≡ o
first_alone None = refl
first_alone (Some v) = refl

both_kept : (o n m : Option ℕ) → (is_some n ≡ true → is_some m ≡ true) → is_some (first_value o n) ≡ true → is_some (first_value o m) ≡ true
both_kept None n m f h = f h
both_kept (Some v) n m f h = refl

-- a statement that isn't there is past the last
pub past : (ss : List Stmt) (j : ℕ) → slice_get ss j ≡ None → length ss ≤ j
past [] j e = omega arith
past (s ∷ ss) zero e = cc
past (s ∷ ss) (suc j) e = let more = past ss j e in omega (arith, more)

-- whether a result is that of target t
abbrev pub hits : List Decl → Option ResultDecl → ℕ → Bool
hits ds None t = false
hits ds (Some r) t = eqb t (number_of (targets_of ds) r.target.name)

module _ (ds : List Decl) (s : ℕ → ℕ → ℕ) where
  -- what a read yields
  abbrev read_value : Progress → ReadStmt → Option Expr → ℕ
  read_value done r None = s (number_of (targets_of ds) r.target.name) (address_of ds done r.address)
  read_value done r (Some e) = s (number_of (targets_of ds) r.target.name) 0

  -- the progress after a statement
  abbrev pub after : Progress → StmtKind → Progress
  after done (stmts.Read r) =
      cond (holds ds done r.when) (with_name done r.name.name (word_read ds r (read_value done r r.guess))) (with_name done r.name.name (word_read ds r 0))
  after done (stmts.Let n e) = with_name done n.name (word_of ds done e)
  after done (stmts.Put n e) = with_put done (number_of (pipes_of ds) n.name) (value_of ds done e)
  after done (stmts.Set n e when) = cond (holds ds done when) (with_set ds done (result_named ds n.name) (value_of ds done e)) done
  after done (stmts.Aim n e) = with_aim done (number_of (hints_of ds) n.name) (value_with_hints ds done e)

  abbrev pub reached : Progress → List Stmt → Progress
  reached done [] = done
  reached done (x ∷ xs) = reached (after done x.kind) xs

  abbrev run_on : Tree → StageOutcome
  run_on tree = run (λ t a. Some (s t a)) (λ h. 0) tree

  run_read : (done : Progress) (r : ReadStmt) (o : Option Expr) (rest : ℕ → Tree) → run_on (read_of ds done r o rest) ≡ run_on (rest (read_value done r o))
  run_read done r None rest = refl
  run_read done r (Some e) rest = refl

  run_both : (b : Bool) (x y : Tree) (p q : Progress) (rest : Progress → Tree) → run_on x ≡ run_on (rest p) → run_on y ≡ run_on (rest q)
      → run_on (cond b x y) ≡ run_on (rest (cond b p q))
  run_both true x y p q rest e f = e
  run_both false x y p q rest e f = f

  run_step : (done : Progress) (kind : StmtKind) (rest : Progress → Tree) → run_on (statement_of ds done kind rest) ≡ run_on (rest (after done kind))
  run_step done (stmts.Read r) rest =
      run_both (holds ds done r.when)
      (read_of ds done r r.guess (λ v. rest (with_name done r.name.name (word_read ds r v))))
      (rest (with_name done r.name.name (word_read ds r 0)))
      (with_name done r.name.name (word_read ds r (read_value done r r.guess))) (with_name done r.name.name (word_read ds r 0)) rest
      (run_read done r r.guess (λ v. rest (with_name done r.name.name (word_read ds r v)))) refl
  run_step done (stmts.Let n e) rest = refl
  run_step done (stmts.Put n e) rest = refl
  run_step done (stmts.Set n e when) rest =
      run_both (holds ds done when) (rest (with_set ds done (result_named ds n.name) (value_of ds done e))) (rest done)
      (with_set ds done (result_named ds n.name) (value_of ds done e)) done rest refl refl
  run_step done (stmts.Aim n e) rest = refl

  run_sets : (done : Progress) (xs : List Stmt) (t : ℕ) → (run_on (tree_of ds done xs)).sets t ≡ (reached done xs).sets t
  run_sets done [] t = refl
  run_sets done (x ∷ xs) t =
      ap (λ (o : StageOutcome). o.sets t) (run_step done x.kind (λ next. tree_of ds next xs)) ∙ run_sets (after done x.kind) xs t

  reached_more : (done : Progress) (ss : List Stmt) (j : ℕ) (x : Stmt) → slice_get ss j ≡ Some x
      → reached done (take (suc j) ss) ≡ after (reached done (take j ss)) x.kind
  reached_more done [] j x e = cc
  reached_more done (y ∷ ys) zero x e = let p : y ≡ x = cc in ap (λ (z : Stmt). after done z.kind) p
  reached_more done (y ∷ ys) (suc j) x e = reached_more (after done y.kind) ys j x e

  set_keeps : (o : Option ResultDecl) (done : Progress) (v t : ℕ) → is_some (done.sets t) ≡ true → is_some ((with_set ds done o v).sets t) ≡ true
  set_keeps None done v t h = h
  set_keeps (Some r) done v t h = first_kept (done.sets t) (with_value (number_of (targets_of ds) r.target.name) v (λ u. None) t) h

  set_hits : (o : Option ResultDecl) (done : Progress) (v t : ℕ) → hits ds o t ≡ true → is_some ((with_set ds done o v).sets t) ≡ true
  set_hits None done v t h = cc
  set_hits (Some r) done v t h =
      later_kept (done.sets t) (with_value (number_of (targets_of ds) r.target.name) v (λ u. None) t)
      (ap (λ (b : Bool). is_some (if b then Some v else None)) h)

  set_misses : (o : Option ResultDecl) (done : Progress) (v t : ℕ) → hits ds o t ≡ false → (with_set ds done o v).sets t ≡ done.sets t
  set_misses None done v t h = refl
  set_misses (Some r) done v t h = ap (λ (b : Bool). first_value (done.sets t) (if b then Some v else None)) h ∙ first_alone (done.sets t)

  -- what is set stays set
  after_keeps : (done : Progress) (kind : StmtKind) (t : ℕ) → is_some (done.sets t) ≡ true → is_some ((after done kind).sets t) ≡ true
  after_keeps done (stmts.Read r) t h =
      cond_both (holds ds done r.when)
      (with_name done r.name.name (word_read ds r (read_value done r r.guess))) (with_name done r.name.name (word_read ds r 0))
      (λ (p : Progress). is_some (p.sets t) ≡ true) (λ _. h) (λ _. h)
  after_keeps done (stmts.Let n e) t h = h
  after_keeps done (stmts.Put n e) t h = h
  after_keeps done (stmts.Set n e when) t h =
      cond_both (holds ds done when) (with_set ds done (result_named ds n.name) (value_of ds done e)) done
      (λ (p : Progress). is_some (p.sets t) ≡ true) (λ _. set_keeps (result_named ds n.name) done (value_of ds done e) t h) (λ _. h)
  after_keeps done (stmts.Aim n e) t h = h

  -- a set of another result changes nothing
  after_misses : (done : Progress) (n : Named) (e : Expr) (when : Option Expr) (t : ℕ) → hits ds (result_named ds n.name) t ≡ false
      → (after done (stmts.Set n e when)).sets t ≡ done.sets t
  after_misses done n e when t h =
      cond_both (holds ds done when) (with_set ds done (result_named ds n.name) (value_of ds done e)) done
      (λ (p : Progress). p.sets t ≡ done.sets t) (λ _. set_misses (result_named ds n.name) done (value_of ds done e) t h) (λ _. refl)

-- THE MACHINE of a job.
module _ (job : Job) (s : ℕ → ℕ → ℕ) (q : ℕ → ℕ) (k : ℕ) (t : ℕ) where
  abbrev block : List Stmt
  block = stmts_in (slice_get job.blocks k)

  abbrev start : Progress
  start = entered job.decls q (before_stage (machine_of job) s q k).pipes

  abbrev known : ℕ → Option ℕ
  known j = (instruction_at job s q k j).results t

  -- the result before the stage, and the progress before statement j
  abbrev earlier : Option ℕ
  earlier = (before_stage (machine_of job) s q k).results t

  abbrev done : ℕ → Progress
  done j = reached job.decls s start (take j block)

  known_is : (j : ℕ) → known j ≡ first_value earlier ((done j).sets t)
  known_is j = ap (first_value earlier) (run_sets job.decls s start (take j block) t)

  known_next : (j : ℕ) (x : Stmt) (kind : StmtKind) → slice_get block j ≡ Some x → x.kind ≡ kind → known (suc j) ≡ first_value earlier ((after job.decls s (done j) kind).sets t)
  known_next j x kind at is =
      known_is (suc j) ∙ ap (λ (p : Progress). first_value earlier (p.sets t)) (reached_more job.decls s start block j x at)
      ∙ ap (λ (kind : StmtKind). first_value earlier ((after job.decls s (done j) kind).sets t)) is

  -- from the stage before, and to the next
  pub begins : known 0 ≡ (before_stage (machine_of job) s q k).results t
  begins = first_alone earlier

  pub ends : (j : ℕ) → length block ≤ j → known j ≡ (before_stage (machine_of job) s q (suc k)).results t
  unfolding before_stage machine_of stage_tree
  ends j h =
      ap (λ (l : List Stmt). first_value ((before_stage (machine_of job) s q k).results t) ((run (λ t a. Some (s t a)) (λ h. 0) (tree_of job.decls start l)).sets t))
      (take_all j block h)

  pub kept : (j : ℕ) (x : Stmt) → slice_get block j ≡ Some x → is_some (known j) ≡ true → is_some (known (suc j)) ≡ true
  kept j x at h =
      ap is_some (known_next j x x.kind at refl)
      ∙ both_kept earlier ((done j).sets t) ((after job.decls s (done j) x.kind).sets t) (after_keeps job.decls s (done j) x.kind t) (sym (ap is_some (known_is j)) ∙ h)

  pub sure : (j : ℕ) (x : Stmt) (n : Named) (e : Expr) → slice_get block j ≡ Some x → x.kind ≡ stmts.Set n e None
      → hits job.decls (result_named job.decls n.name) t ≡ true → is_some (known (suc j)) ≡ true
  sure j x n e at is h =
      ap is_some (known_next j x (stmts.Set n e None) at is)
      ∙ later_kept earlier ((with_set job.decls (done j) (result_named job.decls n.name) (value_of job.decls (done j) e)).sets t)
      (set_hits job.decls s (result_named job.decls n.name) (done j) (value_of job.decls (done j) e) t h)

  pub missed : (j : ℕ) (x : Stmt) (n : Named) (e : Expr) (when : Option Expr) → slice_get block j ≡ Some x → x.kind ≡ stmts.Set n e when
      → hits job.decls (result_named job.decls n.name) t ≡ false → known (suc j) ≡ known j
  missed j x n e when at is h = known_next j x (stmts.Set n e when) at is ∙ ap (first_value earlier) (after_misses job.decls s (done j) n e when t h) ∙ sym (known_is j)

pub between : (job : Job) → IsBetweenStages job
between job s q k t = (begins job s q k t, ends job s q k t (length (stmts_in (slice_get job.blocks k))) (omega arith))
