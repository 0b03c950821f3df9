-- THE STAGES OF A JOB: a block with a set that has no condition always sets the result, and one without a set never does.
use Rattle.std.proofs.Common.{◌≡◌, ◌∙◌, ℕ, zero, suc, ◌+◌, ◌≤◌, Bool, true, false, ◌||◌, ◌&&◌, eqb, List, [], ◌∷◌, Option, Some, None, refl, ap, sym, subst, ⊎_elim, arith, eq-eqb}
use Rattle.std.proofs.lemmas.Bool.{and_from, and_parts, cond_both, eqb-true, false_from_ne_true, le-leb, leb-true, or_cases, or_left, or_parts, or_right}
use Rattle.std.proofs.lemmas.List.Folds.{list_any-append}
use Rattle.std.specs.{Prelude.is_none, Prelude.is_some, Prelude.nat_le, Prelude.slice_get, Prelude.if◌then◌else◌, List.list_any}
use Rattle.kp_ast.specs.declared.tree.{Expr.Expr, ReadStmt.ReadStmt, ResultDecl.ResultDecl, Decl.Decl, Stmt.Stmt, StmtKind.StmtKind, Block.Block, Job.Job}
use Rattle.kp_ast.specs.declared.tree.StmtKind.TheVariants as stmts
use Rattle.kp_stage.specs.Facts.{stmts_in}
use Rattle.kp_pipeline.specs.{Machine.Tree, Ends.Ends, Sequential.first_value}
use Rattle.kp_machine.specs.Trees.{Progress, entered, holds, value_of, value_with_hints, with_aim, with_name, with_put, with_set, with_value, word_of, word_read, read_of, statement_of, tree_of}
use Rattle.kp_machine.specs.{Slots.targets_of, Slots.pipes_of, Slots.hints_of, Slots.number_of, Slots.result_named, Machine.machine_of, Machine.stage_tree}
use Rattle.kp_machine.proofs.Cases.{by_test}
use Rattle.kp_paths.specs.Claims.{SetsAlways, SetsNever}
use Rattle.kp_paths.specs.Table.{is_set_by, is_surely_set_by, placed, set_in, sets_from, sets_in, sets_of}

read_ends : (P : (ℕ → Option ℕ) → (ℕ → Option ℕ) → Type 0) (ds : List Decl) (done : Progress) (r : ReadStmt) (o : Option Expr) (rest : ℕ → Tree) → ((v : ℕ) → Ends P (rest v)) → Ends P (read_of ds done r o rest)
read_ends P ds done r None rest go = go
read_ends P ds done r (Some e) rest go = go

or_none : (a : Bool) → (a || false) ≡ true → a ≡ true
or_none true h = refl
or_none false h = h

more_step : (o n : Option ℕ) (later : Bool) → (is_some o || later) ≡ true → (is_some (first_value o n) || later) ≡ true
more_step (Some x) n later h = refl
more_step None n later h = or_right (is_some n) later h

sure_step : (o : Option ℕ) (t num v : ℕ) (le later : Bool) → (is_some o || (((true && (eqb num t && le)) || false) || later)) ≡ true
    → (is_some (first_value o (with_value num v (λ u. None) t)) || later) ≡ true
sure_step (Some x) t num v le later h = refl
sure_step None t num v le later h = by_test (eqb t num)
    (λ y. ap (λ b. is_some (if b then Some v else None) || later) y)
    (λ n.
    let q : eqb num t ≡ false = false_from_ne_true (eqb num t) (λ y. let z : true ≡ false = sym (eq-eqb t num (sym (eqb-true num t y))) ∙ n in cc) in
    let g : later ≡ true = subst (λ b. (((b && le) || false) || later) ≡ true) q h in
    ap (λ b. is_some (if b then Some v else None) || later) n ∙ g)

module _ (ds : List Decl) (t j k : ℕ) where
  -- A SET WITHOUT A CONDITION.
  abbrev IsSet : (ℕ → Option ℕ) → (ℕ → Option ℕ) → Type 0
  IsSet puts sets = is_some (sets t) ≡ true

  one_more : (o : Option ResultDecl) (done : Progress) (v : ℕ) (later : Bool) → (is_some (done.sets t) || later) ≡ true
      → (is_some ((with_set ds done o v).sets t) || later) ≡ true
  one_more None done v later h = h
  one_more (Some r) done v later h = more_step (done.sets t) (with_value (number_of (targets_of ds) r.target.name) v (λ u. None) t) later h

  one_sure : (o : Option ResultDecl) (done : Progress) (v : ℕ) (later : Bool)
      → (is_some (done.sets t) || (list_any (is_surely_set_by t j) (placed ds k None o) || later)) ≡ true
      → (is_some ((with_set ds done o v).sets t) || later) ≡ true
  one_sure None done v later h = h
  one_sure (Some r) done v later h = sure_step (done.sets t) t (number_of (targets_of ds) r.target.name) v (nat_le k j) later h

  unsure : (o : Option ResultDecl) (c : Expr) (a later : Bool) → (a || (list_any (is_surely_set_by t j) (placed ds k (Some c) o) || later)) ≡ true → (a || later) ≡ true
  unsure None c a later h = h
  unsure (Some r) c a later h = h

  statement_sure : (done : Progress) (s : StmtKind) (rest : Progress → Tree) (later : Bool)
      → (is_some (done.sets t) || (list_any (is_surely_set_by t j) (set_in ds k s) || later)) ≡ true
      → ((next : Progress) → (is_some (next.sets t) || later) ≡ true → Ends IsSet (rest next)) → Ends IsSet (statement_of ds done s rest)
  statement_sure done (stmts.Read r) rest later h go =
      cond_both (holds ds done r.when)
      (read_of ds done r r.guess (λ v. rest (with_name done r.name.name (word_read ds r v))))
      (rest (with_name done r.name.name (word_read ds r 0))) (Ends IsSet)
      (λ _. read_ends IsSet ds done r r.guess (λ v. rest (with_name done r.name.name (word_read ds r v))) (λ v. go (with_name done r.name.name (word_read ds r v)) h))
      (λ _. go (with_name done r.name.name (word_read ds r 0)) h)
  statement_sure done (stmts.Let n e) rest later h go = go (with_name done n.name (word_of ds done e)) h
  statement_sure done (stmts.Put n e) rest later h go = go (with_put done (number_of (pipes_of ds) n.name) (value_of ds done e)) h
  statement_sure done (stmts.Set n e None) rest later h go =
      go (with_set ds done (result_named ds n.name) (value_of ds done e)) (one_sure (result_named ds n.name) done (value_of ds done e) later h)
  statement_sure done (stmts.Set n e (Some c)) rest later h go =
      let g = unsure (result_named ds n.name) c (is_some (done.sets t)) later h in
      cond_both (holds ds done (Some c))
      (rest (with_set ds done (result_named ds n.name) (value_of ds done e))) (rest done) (Ends IsSet)
      (λ _. go (with_set ds done (result_named ds n.name) (value_of ds done e)) (one_more (result_named ds n.name) done (value_of ds done e) later g))
      (λ _. go done g)
  statement_sure done (stmts.Aim n e) rest later h go = go (with_aim done (number_of (hints_of ds) n.name) (value_with_hints ds done e)) h

  tree_sure : (done : Progress) (ss : List Stmt) → (is_some (done.sets t) || list_any (is_surely_set_by t j) (sets_in ds k ss)) ≡ true → Ends IsSet (tree_of ds done ss)
  tree_sure done [] h = or_none (is_some (done.sets t)) h
  tree_sure done (s ∷ ss) h =
      statement_sure done s.kind (λ next. tree_of ds next ss) (list_any (is_surely_set_by t j) (sets_in ds k ss))
      (subst (λ b. (is_some (done.sets t) || b) ≡ true) (list_any-append (is_surely_set_by t j) (set_in ds k s.kind) (sets_in ds k ss)) h)
      (λ next g. tree_sure next ss g)

  -- such a set is in a stage up to j
  placed_low : (when : Option Expr) (o : Option ResultDecl) → list_any (is_surely_set_by t j) (placed ds k when o) ≡ true → k ≤ j
  placed_low when None h = cc
  placed_low when (Some r) h =
      let b = eqb (number_of (targets_of ds) r.target.name) t in
      let p = and_parts (is_none when) (b && nat_le k j) (or_none (is_none when && (b && nat_le k j)) h) in
      leb-true k j (and_parts b (nat_le k j) p.1).1

  set_low : (s : StmtKind) → list_any (is_surely_set_by t j) (set_in ds k s) ≡ true → k ≤ j
  set_low (stmts.Set n e when) h = placed_low when (result_named ds n.name) h
  set_low _ h = cc

  sets_low : (ss : List Stmt) → list_any (is_surely_set_by t j) (sets_in ds k ss) ≡ true → k ≤ j
  sets_low [] h = cc
  sets_low (s ∷ ss) h = ⊎_elim (set_low s.kind) (sets_low ss)
      (or_cases (list_any (is_surely_set_by t j) (set_in ds k s.kind)) (list_any (is_surely_set_by t j) (sets_in ds k ss))
      (sym (list_any-append (is_surely_set_by t j) (set_in ds k s.kind) (sets_in ds k ss)) ∙ h))

  -- NO SET.
  abbrev IsUnset : (ℕ → Option ℕ) → (ℕ → Option ℕ) → Type 0
  IsUnset puts sets = sets t ≡ None

  module _ (low : k ≤ j) where
    one_never : (when : Option Expr) (o : Option ResultDecl) (done : Progress) (v : ℕ) → list_any (is_set_by t j) (placed ds k when o) ≡ false
        → done.sets t ≡ None → (with_set ds done o v).sets t ≡ None
    one_never when None done v h d = d
    one_never when (Some r) done v h d =
        rw d (cond_both (eqb t (number_of (targets_of ds) r.target.name)) (Some v) None (λ o. o ≡ None)
        (λ y.
        let n = number_of (targets_of ds) r.target.name in
        let a : (eqb n t && nat_le k j) ≡ true = and_from (eqb n t) (nat_le k j) (eq-eqb n t (sym (eqb-true t n y))) (le-leb k j low) in
        let z : true ≡ false = sym (or_left (eqb n t && nat_le k j) false a) ∙ h in cc)
        (λ _. refl))

    statement_never : (done : Progress) (s : StmtKind) (rest : Progress → Tree) → done.sets t ≡ None → list_any (is_set_by t j) (set_in ds k s) ≡ false
        → ((next : Progress) → next.sets t ≡ None → Ends IsUnset (rest next)) → Ends IsUnset (statement_of ds done s rest)
    statement_never done (stmts.Read r) rest d h go =
        cond_both (holds ds done r.when)
        (read_of ds done r r.guess (λ v. rest (with_name done r.name.name (word_read ds r v))))
        (rest (with_name done r.name.name (word_read ds r 0))) (Ends IsUnset)
        (λ _. read_ends IsUnset ds done r r.guess (λ v. rest (with_name done r.name.name (word_read ds r v))) (λ v. go (with_name done r.name.name (word_read ds r v)) d))
        (λ _. go (with_name done r.name.name (word_read ds r 0)) d)
    statement_never done (stmts.Let n e) rest d h go = go (with_name done n.name (word_of ds done e)) d
    statement_never done (stmts.Put n e) rest d h go = go (with_put done (number_of (pipes_of ds) n.name) (value_of ds done e)) d
    statement_never done (stmts.Set n e when) rest d h go =
        cond_both (holds ds done when)
        (rest (with_set ds done (result_named ds n.name) (value_of ds done e))) (rest done) (Ends IsUnset)
        (λ _. go (with_set ds done (result_named ds n.name) (value_of ds done e)) (one_never when (result_named ds n.name) done (value_of ds done e) h d))
        (λ _. go done d)
    statement_never done (stmts.Aim n e) rest d h go = go (with_aim done (number_of (hints_of ds) n.name) (value_with_hints ds done e)) d

    tree_never : (done : Progress) (ss : List Stmt) → done.sets t ≡ None → list_any (is_set_by t j) (sets_in ds k ss) ≡ false → Ends IsUnset (tree_of ds done ss)
    tree_never done [] d h = d
    tree_never done (s ∷ ss) d h =
        let p = or_parts (list_any (is_set_by t j) (set_in ds k s.kind)) (list_any (is_set_by t j) (sets_in ds k ss)) (sym (list_any-append (is_set_by t j) (set_in ds k s.kind) (sets_in ds k ss)) ∙ h) in
        statement_never done s.kind (λ next. tree_of ds next ss) d p.0 (λ next g. tree_never next ss g p.1)

-- THE BLOCK of such a set.
sure_at : (ds : List Decl) (t j k : ℕ) (bs : List Block) → list_any (is_surely_set_by t j) (sets_from ds k bs) ≡ true
    → (i : ℕ) × (k + i ≤ j) × (list_any (is_surely_set_by t j) (sets_in ds (k + i) (stmts_in (slice_get bs i))) ≡ true)
sure_at ds t j k [] h = cc
sure_at ds t j k (b ∷ bs) h = ⊎_elim
    (λ (e : list_any (is_surely_set_by t j) (sets_in ds k b.stmts) ≡ true).
    let z : k + 0 ≡ k = omega arith in
    let low : k ≤ j = sets_low ds t j k b.stmts e in
    (0, omega arith, rw z e))
    (λ (e : list_any (is_surely_set_by t j) (sets_from ds (k + 1) bs) ≡ true).
    let r = sure_at ds t j (k + 1) bs e in
    let z : (k + 1) + r.0 ≡ k + suc r.0 = omega arith in
    (suc r.0, subst (λ (n : ℕ). n ≤ j) z r.1, subst (λ (n : ℕ). list_any (is_surely_set_by t j) (sets_in ds n (stmts_in (slice_get bs r.0))) ≡ true) z r.2))
    (or_cases (list_any (is_surely_set_by t j) (sets_in ds k b.stmts)) (list_any (is_surely_set_by t j) (sets_from ds (k + 1) bs))
    (sym (list_any-append (is_surely_set_by t j) (sets_in ds k b.stmts) (sets_from ds (k + 1) bs)) ∙ h))

none_at : (ds : List Decl) (t j k : ℕ) (bs : List Block) → list_any (is_set_by t j) (sets_from ds k bs) ≡ false
    → (i : ℕ) → list_any (is_set_by t j) (sets_in ds (k + i) (stmts_in (slice_get bs i))) ≡ false
none_at ds t j k [] h i = refl
none_at ds t j k (b ∷ bs) h zero =
    let z : k + 0 ≡ k = omega arith in
    rw z (or_parts (list_any (is_set_by t j) (sets_in ds k b.stmts)) (list_any (is_set_by t j) (sets_from ds (k + 1) bs)) (sym (list_any-append (is_set_by t j) (sets_in ds k b.stmts) (sets_from ds (k + 1) bs)) ∙ h)).0
none_at ds t j k (b ∷ bs) h (suc i) =
    let z : (k + 1) + i ≡ k + suc i = omega arith in
    subst (λ (n : ℕ). list_any (is_set_by t j) (sets_in ds n (stmts_in (slice_get bs i))) ≡ false) z
    (none_at ds t j (k + 1) bs (or_parts (list_any (is_set_by t j) (sets_in ds k b.stmts)) (list_any (is_set_by t j) (sets_from ds (k + 1) bs)) (sym (list_any-append (is_set_by t j) (sets_in ds k b.stmts) (sets_from ds (k + 1) bs)) ∙ h)).1 i)

-- THE MACHINE of a job.
pub sets_always : (job : Job) (t j : ℕ) → list_any (is_surely_set_by t j) (sets_of job) ≡ true → (i : ℕ) × (i ≤ j) × SetsAlways (machine_of job) i t
unfolding machine_of stage_tree
sets_always job t j h =
    let f = sure_at job.decls t j 0 job.blocks h in
    let z : 0 + f.0 ≡ f.0 = omega arith in (
      f.0,
      subst (λ (n : ℕ). n ≤ j) z f.1,
      λ q p. tree_sure job.decls t j f.0 (entered job.decls q p) (stmts_in (slice_get job.blocks f.0))
          (subst (λ (n : ℕ). list_any (is_surely_set_by t j) (sets_in job.decls n (stmts_in (slice_get job.blocks f.0))) ≡ true) z f.2),
    )

pub sets_never : (job : Job) (t j : ℕ) → list_any (is_set_by t j) (sets_of job) ≡ false → (i : ℕ) → i ≤ j → SetsNever (machine_of job) i t
unfolding machine_of stage_tree
sets_never job t j h i low q p =
    let z : 0 + i ≡ i = omega arith in
    tree_never job.decls t j i low (entered job.decls q p) (stmts_in (slice_get job.blocks i)) refl
    (subst (λ (n : ℕ). list_any (is_set_by t j) (sets_in job.decls n (stmts_in (slice_get job.blocks i))) ≡ false) z (none_at job.decls t j 0 job.blocks h i))
