-- A stage puts no pipe that its block doesn't put, and sets no result that its block doesn't set.
use Rattle.std.proofs.Common.{◌≡◌, ◌∙◌, ℕ, zero, suc, ◌+◌, ◌<◌, List, [], ◌∷◌, Option, Some, None, Bool, true, false, cond, eqb, length, refl, ap, sym, subst, arith}
use Rattle.std.{proofs.lemmas.Bool.cond_both, proofs.lemmas.Bool.eqb-true, proofs.lemmas.Bool.or_parts, specs.Prelude.slice_get, specs.List.list_any}
use Rattle.kp_ast.specs.{Expressions.is_same_name, declared.tree.Expr.Expr, declared.tree.Named.Named, declared.tree.ReadStmt.ReadStmt}
use Rattle.kp_ast.specs.declared.tree.{ResultDecl.ResultDecl, Decl.Decl, Stmt.Stmt, StmtKind.StmtKind, Block.Block, Job.Job}
use Rattle.kp_ast.specs.declared.tree.Decl.TheVariants as decls
use Rattle.kp_ast.specs.declared.tree.StmtKind.TheVariants as stmts
use Rattle.kp_width.{specs.Widths.widths_of, proofs.Unbroken.Unbroken}
use Rattle.kp_stage.specs.{Facts.stmts_in, Stages.broken_of, Uses.puts as is_put, Uses.sets as is_set}
use Rattle.kp_pipeline.specs.{Machine.Tree, Ends.Ends}
use Rattle.kp_machine.specs.Trees.{Progress, entered, holds, value_of, value_with_hints, with_name, with_put, with_set, with_aim, word_of, word_read, read_of, statement_of, tree_of}
use Rattle.kp_machine.specs.Slots.{Slot, targets_of, pipes_of, hints_of, number_of, result_named}
use Rattle.kp_machine.{specs.Machine.machine_of, specs.Machine.stage_tree, specs.Machine.result_for, proofs.Cases.by_test}
use Rattle.kp_machine.proofs.{Names.is_same, Names.same_name, Results.named_stands, Placing.own}
use Rattle.kp_design.specs.{Spans.put_after, Spans.set_after, Numbers.pipe_at, Spans.set_by}
use Rattle.kp_design.proofs.Lasting.{number_there}

-- a block before the first that has such a statement
module _ (test : StmtKind → Bool) (after : ℕ → List Block → ℕ) (is : (j : ℕ) (b : Block) (bs : List Block) → after j (b ∷ bs) ≡ cond (list_any (λ (s : Stmt). test s.kind) b.stmts) (j + 1) (after (j + 1) bs)) where
  abbrev has : List Stmt → Bool
  has ss = list_any (λ (s : Stmt). test s.kind) ss

  at : (i j : ℕ) (b : Block) (bs : List Block) (t : Bool) → i < after j (b ∷ bs) → has b.stmts ≡ t → i < cond t (j + 1) (after (j + 1) bs)
  at i j b bs t l y = subst (λ c. i < cond c (j + 1) (after (j + 1) bs)) y (subst (λ n. i < n) (is j b bs) l)

  gap : (j k : ℕ) (bs : List Block) → suc (j + k) < after j bs → has (stmts_in (slice_get bs k)) ≡ false
  gap j k [] l = refl
  gap j zero (b ∷ bs) l = by_test (has b.stmts) (λ y. absurd (omega (arith, at (suc (j + zero)) j b bs true l y))) (λ y. y)
  gap j (suc k) (b ∷ bs) l = by_test (has b.stmts)
      (λ y. absurd (omega (arith, at (suc (j + suc k)) j b bs true l y)))
      (λ y. gap (j + 1) k bs (omega (arith, at (suc (j + suc k)) j b bs false l y)))

-- a result that is found by its name has it
named_name : (ds : List Decl) (name : List ℕ) (r : ResultDecl) → result_named ds name ≡ Some r → r.name.name ≡ name
named_name [] name r e = cc
named_name (decls.Target q ∷ ds) name r e = by_test (is_same_name name q.name.name)
    (λ y.
    let f : Some q ≡ Some r = sym (ap (λ b. cond b (Some q) (result_named ds name)) y) ∙ e in
    let same : q ≡ r = cc in
    ap (λ (x : ResultDecl). x.name.name) (sym same) ∙ sym (same_name name q.name.name y))
    (λ y. named_name ds name r (sym (ap (λ b. cond b (Some q) (result_named ds name)) y) ∙ e))
named_name (d ∷ ds) name r e = named_name ds name r e

module _ (job : Job) where
  abbrev pipes : List Slot
  pipes = pipes_of job.decls

  abbrev targets : List Slot
  targets = targets_of job.decls

  set_puts : (done : Progress) (o : Option ResultDecl) (v : ℕ) → (with_set job.decls done o v).puts ≡ done.puts
  set_puts done None v = refl
  set_puts done (Some r) v = refl

  -- what the statements of a block keep of puts and sets holds at the ends of its tree
  module _ (P : (ℕ → Option ℕ) → (ℕ → Option ℕ) → Type 0) (test : StmtKind → Bool)
      (put : (done : Progress) (n : Named) (w : Expr) → P done.puts done.sets → test (stmts.Put n w) ≡ false → P (with_put done (number_of pipes n.name) (value_of job.decls done w)).puts done.sets)
      (set : (done : Progress) (n : Named) (w : Expr) (when : Option Expr) (v : ℕ) → P done.puts done.sets → test (stmts.Set n w when) ≡ false
      → P (with_set job.decls done (result_named job.decls n.name) v).puts (with_set job.decls done (result_named job.decls n.name) v).sets) where
    read_ends : (done : Progress) (r : ReadStmt) (o : Option Expr) (rest : ℕ → Tree) → ((v : ℕ) → Ends P (rest v)) → Ends P (read_of job.decls done r o rest)
    read_ends done r None rest go = go
    read_ends done r (Some e) rest go = go

    statement_ends : (done : Progress) (s : StmtKind) (rest : Progress → Tree) → P done.puts done.sets → test s ≡ false
        → ((next : Progress) → P next.puts next.sets → Ends P (rest next)) → Ends P (statement_of job.decls done s rest)
    statement_ends done (stmts.Read r) rest h e go =
        let next : ℕ → Tree = λ v. rest (with_name done r.name.name (word_read job.decls r v)) in
        cond_both (holds job.decls done r.when) (read_of job.decls done r r.guess next) (next 0) (Ends P)
        (λ _. read_ends done r r.guess next (λ v. go (with_name done r.name.name (word_read job.decls r v)) h))
        (λ _. go (with_name done r.name.name (word_read job.decls r 0)) h)
    statement_ends done (stmts.Let n w) rest h e go = go (with_name done n.name (word_of job.decls done w)) h
    statement_ends done (stmts.Put n w) rest h e go = go (with_put done (number_of pipes n.name) (value_of job.decls done w)) (put done n w h e)
    statement_ends done (stmts.Set n w when) rest h e go =
        let next = with_set job.decls done (result_named job.decls n.name) (value_of job.decls done w) in
        cond_both (holds job.decls done when) (rest next) (rest done) (Ends P) (λ _. go next (set done n w when (value_of job.decls done w) h e)) (λ _. go done h)
    statement_ends done (stmts.Aim n w) rest h e go = go (with_aim done (number_of (hints_of job.decls) n.name) (value_with_hints job.decls done w)) h

    tree_ends : (done : Progress) (ss : List Stmt) → P done.puts done.sets → list_any (λ (s : Stmt). test s.kind) ss ≡ false → Ends P (tree_of job.decls done ss)
    tree_ends done [] h e = h
    tree_ends done (s ∷ ss) h e =
        let p = or_parts (test s.kind) (list_any (λ (x : Stmt). test x.kind) ss) e in
        statement_ends done s.kind (λ next. tree_of job.decls next ss) h p.0 (λ next f. tree_ends next ss f p.1)

  -- ONE PIPE
  module _ (x : ℕ) (l : x < length pipes) where
    abbrev NotPut : (ℕ → Option ℕ) → (ℕ → Option ℕ) → Type 0
    NotPut puts sets = puts x ≡ None

    abbrev name : List ℕ
    name = (pipe_at job x).name

    put_other : (done : Progress) (n : Named) (w : Expr) → done.puts x ≡ None → is_put name (stmts.Put n w) ≡ false → (with_put done (number_of pipes n.name) (value_of job.decls done w)).puts x ≡ None
    put_other done n w h e =
        cond_both (eqb x (number_of pipes n.name)) (Some (value_of job.decls done w)) (done.puts x) (λ o. o ≡ None)
        (λ y.
        let same : x ≡ number_of pipes n.name = eqb-true _ _ y in
        let there : (pipe_at job (number_of pipes n.name)).name ≡ n.name = number_there pipes n.name (omega (arith, same, l)) in
        let f : name ≡ n.name = ap (λ m. (pipe_at job m).name) same ∙ there in
        let g : true ≡ false = sym (is_same name n.name f) ∙ e in cc)
        (λ _. h)

  -- before the stage of its put a pipe isn't put
  pub no_put : (k x : ℕ) (s p : ℕ → ℕ) → x < length pipes → suc k < put_after (pipe_at job x).name 0 job.blocks
      → Ends (λ puts sets. puts x ≡ None) ((machine_of job).body k s p)
  unfolding machine_of stage_tree
  no_put k x s p l b =
      let n = (pipe_at job x).name in
      tree_ends (NotPut x l) (is_put n) (put_other x l) (λ done m w when v h e. ap (λ (f : ℕ → Option ℕ). f x) (set_puts done (result_named job.decls m.name) v) ∙ h)
      (entered job.decls s p) (stmts_in (slice_get job.blocks k)) refl (let z : 0 + k ≡ k = omega arith in gap (is_put n) (put_after n) (λ j c cs. refl) 0 k job.blocks (omega (arith, b, z)))

  -- ONE RESULT
  module _ (right : Unbroken (widths_of job)) (kept : broken_of job ≡ None) where
    module _ (t : ℕ) (r : ResultDecl) (is : result_for job t ≡ Some r) where
      abbrev NotSet : (ℕ → Option ℕ) → (ℕ → Option ℕ) → Type 0
      NotSet puts sets = sets t ≡ None

      set_other : (done : Progress) (v : ℕ) (n : Named) (o : Option ResultDecl) → result_named job.decls n.name ≡ o → is_same_name r.name.name n.name ≡ false
          → done.sets t ≡ None → (with_set job.decls done o v).sets t ≡ None
      set_other done v n None e d h = h
      set_other done v n (Some q) e d h =
          rw h (cond_both (eqb t (number_of targets q.target.name)) (Some v) None (λ o. o ≡ None)
          (λ y.
          let there = named_stands job.decls n.name q e in
          let f : Some r ≡ Some q = sym is ∙ ap (result_for job) (eqb-true _ _ y) ∙ own job right kept q there.0 in
          let same : r ≡ q = cc in
          let g : r.name.name ≡ n.name = ap (λ (z : ResultDecl). z.name.name) same ∙ named_name job.decls n.name q e in
          let z : true ≡ false = sym (is_same r.name.name n.name g) ∙ d in cc)
          (λ _. refl))

    set_later : (k t : ℕ) (o : Option ResultDecl) (s p : ℕ → ℕ) → result_for job t ≡ o → suc k < set_by job o
        → Ends (λ puts sets. sets t ≡ None) ((machine_of job).body k s p)
    unfolding machine_of stage_tree
    set_later k t None s p is b = absurd (omega (arith, b))
    set_later k t (Some r) s p is b =
        let n = r.name.name in
        let z : 0 + k ≡ k = omega arith in
        tree_ends (NotSet t r is) (is_set n) (λ done m w h e. h) (λ done m w when v h e. set_other t r is done v m (result_named job.decls m.name) refl e h)
        (entered job.decls s p) (stmts_in (slice_get job.blocks k)) refl (gap (is_set n) (set_after n) (λ j c cs. refl) 0 k job.blocks (omega (arith, b, z)))

    -- before the first stage that may set it a result isn't set
    pub no_set : (k t : ℕ) (s p : ℕ → ℕ) → suc k < set_by job (result_for job t) → Ends (λ puts sets. sets t ≡ None) ((machine_of job).body k s p)
    no_set k t s p b = set_later k t (result_for job t) s p refl b
