-- A SET IN VAIN: its result has been set before it in every instruction.
use Rattle.std.proofs.Common.{◌≡◌, ◌∙◌, ℕ, suc, ◌+◌, true, false, List, [], ◌∷◌, ◌++◌, Option, Some, None, is_some, refl, ap, sym, subst, arith}
use Rattle.std.{specs.List.AllByRecursion, specs.Prelude.is_none, specs.Prelude.slice_get, specs.Prelude.◌==◌, specs.Prelude.◌&&◌, specs.Prelude.◌||◌, proofs.lemmas.Bool.cond_both}
use Rattle.std.proofs.lemmas.Bool.{Decides.Decides-eqb, and_parts}
use Rattle.kp_ast.specs.{Expressions.is_same_name, declared.tree.Expr.Expr, declared.tree.Named.Named, declared.tree.Stmt.Stmt, declared.tree.StmtKind.StmtKind}
use Rattle.kp_ast.specs.declared.tree.{Block.Block, Job.Job}
use Rattle.kp_ast.specs.declared.tree.StmtKind.TheVariants as stmts
use Rattle.kp_stage.specs.Facts.{stmts_in}
use Rattle.kp_machine.{specs.Slots.result_named, proofs.Cases.by_test, proofs.Names.same_name}
use Rattle.kp_lint.specs.{declared.sets.PlacedSet.PlacedSet, Lints.is_among, Sets.in_vain, Sets.set_here, Sets.sets_from, Sets.sets_in}
use Rattle.kp_lint.specs.Claims.{AreInVain, NeverSets, instruction_at}
use Rattle.kp_lint.proofs.Steps.{begins, ends, hits, kept, missed, past, sure}

-- what a list has from number j on
abbrev IsRest : {X : Type 0} → List X → ℕ → List X → Type 0
IsRest all j xs = (i : ℕ) → slice_get all (j + i) ≡ slice_get xs i

rest_head : {X : Type 0} (all : List X) (j : ℕ) (x : X) (xs : List X) → IsRest all j (x ∷ xs) → slice_get all j ≡ Some x
rest_head all j x xs f = let z : j + 0 ≡ j = omega arith in subst (λ (i : ℕ). slice_get all i ≡ Some x) z (f 0)

rest_tail : {X : Type 0} (all : List X) (j : ℕ) (x : X) (xs : List X) → IsRest all j (x ∷ xs) → IsRest all (j + 1) xs
rest_tail all j x xs f i = let z : (j + 1) + i ≡ j + suc i = omega arith in rw z (f (suc i))

rest_end : {X : Type 0} (all : List X) (j : ℕ) → IsRest all j [] → slice_get all j ≡ None
rest_end all j f = let z : j + 0 ≡ j = omega arith in subst (λ (i : ℕ). slice_get all i ≡ None) z (f 0)

module _ (job : Job) (result : List ℕ) where
  -- in every instruction the result has been set before statement j of stage k
  abbrev IsSetBefore : ℕ → ℕ → Type 0
  IsSetBefore k j = (s : ℕ → ℕ → ℕ) (q : ℕ → ℕ) (t : ℕ) → hits job.decls (result_named job.decls result) t ≡ true
      → is_some ((instruction_at job s q k j).results t) ≡ true

  abbrev AreNever : List PlacedSet → Type 0
  AreNever = AllByRecursion (λ s. NeverSets job s.stage s.index)

  next_stage : (k j : ℕ) → slice_get (stmts_in (slice_get job.blocks k)) j ≡ None → IsSetBefore k j → IsSetBefore (k + 1) 0
  next_stage k j e h s q t hit =
      let z : k + 1 ≡ suc k = omega arith in
      rw z (ap is_some (begins job s q (suc k) t ∙ sym (ends job s q k t j (past (stmts_in (slice_get job.blocks k)) j e))) ∙ h s q t hit)

  never : (k j : ℕ) (x : Stmt) (n : Named) (e : Expr) (when : Option Expr) → slice_get (stmts_in (slice_get job.blocks k)) j ≡ Some x
      → x.kind ≡ stmts.Set n e when → n.name ≡ result → IsSetBefore k j → NeverSets job k j
  never k j x n e when at is same h s q t set =
      by_test (hits job.decls (result_named job.decls n.name) t)
      (λ y.
      let g : hits job.decls (result_named job.decls result) t ≡ true = ap (λ (l : List ℕ). hits job.decls (result_named job.decls l) t) (sym same) ∙ y in
      let w : false ≡ true = sym (ap is_some set.0) ∙ h s q t g in cc)
      (λ y.
      let z : j + 1 ≡ suc j = omega arith in
      let more : (instruction_at job s q k (suc j)).results t ≡ Some set.1.0 = subst (λ (i : ℕ). (instruction_at job s q k i).results t ≡ Some set.1.0) z set.1.1 in
      let w : None ≡ Some set.1.0 = sym set.0 ∙ sym (missed job s q k t j x n e when at is y) ∙ more in cc)

  -- the statements of stage k from number j on
  abbrev From : ℕ → ℕ → List Stmt → Type 0
  From k j ss = IsRest (stmts_in (slice_get job.blocks k)) j ss

  next_set : (k j : ℕ) (x : Stmt) → slice_get (stmts_in (slice_get job.blocks k)) j ≡ Some x → IsSetBefore k j → IsSetBefore k (j + 1)
  next_set k j x at h s q t hit = let z : j + 1 ≡ suc j = omega arith in rw z (kept job s q k t j x at (h s q t hit))

  sure_set : (k j : ℕ) (x : Stmt) (n : Named) (e : Expr) → slice_get (stmts_in (slice_get job.blocks k)) j ≡ Some x
      → x.kind ≡ stmts.Set n e None → n.name ≡ result → IsSetBefore k (j + 1)
  sure_set k j x n e at is same s q t hit =
      let z : j + 1 ≡ suc j = omega arith in
      rw z (sure job s q k t j x n e at is (ap (λ (l : List ℕ). hits job.decls (result_named job.decls l) t) same ∙ hit))

  -- AFTER a set without a condition, no set takes place.
  all_one : (k j : ℕ) (x : Stmt) (kind : StmtKind) (more rest : List PlacedSet) → x.kind ≡ kind
      → slice_get (stmts_in (slice_get job.blocks k)) j ≡ Some x → IsSetBefore k j → AreNever (more ++ rest)
      → AreNever ((set_here result k j x.at kind ++ more) ++ rest)
  all_one k j x (stmts.Set n e when) more rest is at h go =
      cond_both (is_same_name n.name result) (record { stage = k; index = j; place = x.at; sure = is_none when } ∷ []) []
      (λ (l : List PlacedSet). AreNever ((l ++ more) ++ rest))
      (λ y. (never k j x n e when at is (same_name n.name result y) h, go)) (λ _. go)
  all_one k j x _ more rest is at h go = go

  all_stmts : (k j : ℕ) (ss : List Stmt) (rest : List PlacedSet) → From k j ss → IsSetBefore k j → (IsSetBefore (k + 1) 0 → AreNever rest)
      → AreNever (sets_in result k j ss ++ rest)
  all_stmts k j [] rest f h go = go (next_stage k j (rest_end (stmts_in (slice_get job.blocks k)) j f) h)
  all_stmts k j (x ∷ ss) rest f h go =
      let at = rest_head (stmts_in (slice_get job.blocks k)) j x ss f in
      all_one k j x x.kind (sets_in result k (j + 1) ss) rest refl at h
      (all_stmts k (j + 1) ss rest (rest_tail (stmts_in (slice_get job.blocks k)) j x ss f) (next_set k j x at h) go)

  blocks_head : (k : ℕ) (b : Block) (bs : List Block) → IsRest job.blocks k (b ∷ bs) → From k 0 b.stmts
  blocks_head k b bs f i = let y : 0 + i ≡ i = omega arith in rw y (ap (λ (o : Option Block). slice_get (stmts_in o) i) (rest_head job.blocks k b bs f))

  all_blocks : (k : ℕ) (bs : List Block) → IsRest job.blocks k bs → IsSetBefore k 0 → AreNever (sets_from result k bs)
  all_blocks k [] f h = tt
  all_blocks k (b ∷ bs) f h =
      all_stmts k 0 b.stmts (sets_from result (k + 1) bs) (blocks_head k b bs f) h (all_blocks (k + 1) bs (rest_tail job.blocks k b bs f))

  -- BEFORE it, each set may.
  vain_one : (k j : ℕ) (x : Stmt) (kind : StmtKind) (more rest : List PlacedSet) → x.kind ≡ kind
      → slice_get (stmts_in (slice_get job.blocks k)) j ≡ Some x → (IsSetBefore k (j + 1) → AreNever (more ++ rest)) → AreNever (in_vain (more ++ rest))
      → AreNever (in_vain ((set_here result k j x.at kind ++ more) ++ rest))
  vain_one k j x (stmts.Set n e None) more rest is at all go =
      cond_both (is_same_name n.name result) (record { stage = k; index = j; place = x.at; sure = true } ∷ []) []
      (λ (l : List PlacedSet). AreNever (in_vain ((l ++ more) ++ rest)))
      (λ y. all (sure_set k j x n e at is (same_name n.name result y))) (λ _. go)
  vain_one k j x (stmts.Set n e (Some c)) more rest is at all go =
      cond_both (is_same_name n.name result) (record { stage = k; index = j; place = x.at; sure = false } ∷ []) []
      (λ (l : List PlacedSet). AreNever (in_vain ((l ++ more) ++ rest))) (λ _. go) (λ _. go)
  vain_one k j x _ more rest is at all go = go

  vain_stmts : (k j : ℕ) (ss : List Stmt) (rest : List PlacedSet) → From k j ss → (IsSetBefore (k + 1) 0 → AreNever rest) → AreNever (in_vain rest)
      → AreNever (in_vain (sets_in result k j ss ++ rest))
  vain_stmts k j [] rest f all go = go
  vain_stmts k j (x ∷ ss) rest f all go =
      let tail = rest_tail (stmts_in (slice_get job.blocks k)) j x ss f in
      vain_one k j x x.kind (sets_in result k (j + 1) ss) rest refl (rest_head (stmts_in (slice_get job.blocks k)) j x ss f)
      (λ h. all_stmts k (j + 1) ss rest tail h all) (vain_stmts k (j + 1) ss rest tail all go)

  vain_blocks : (k : ℕ) (bs : List Block) → IsRest job.blocks k bs → AreNever (in_vain (sets_from result k bs))
  vain_blocks k [] f = tt
  vain_blocks k (b ∷ bs) f =
      let tail = rest_tail job.blocks k b bs f in
      vain_stmts k 0 b.stmts (sets_from result (k + 1) bs) (blocks_head k b bs f) (all_blocks (k + 1) bs tail) (vain_blocks (k + 1) bs tail)

  -- the statement of a set among them
  found : (k j : ℕ) (sets : List PlacedSet) → AreNever sets → is_among k j sets ≡ true → NeverSets job k j
  found k j [] never e = cc
  found k j (s ∷ ss) never e = by_test ((s.stage == k) && (s.index == j))
      (λ y.
      let same = and_parts (s.stage == k) (s.index == j) y in
      let stage : s.stage ≡ k = (Decides-eqb s.stage k).0 same.0 in
      let index : s.index ≡ j = (Decides-eqb s.index j).0 same.1 in
      subst (λ (i : ℕ). NeverSets job k i) index (subst (λ (n : ℕ). NeverSets job n s.index) stage never.0))
      (λ n. found k j ss never.1 (sym (ap (λ b. b || is_among k j ss) n) ∙ e))

pub are_in_vain : (job : Job) → AreInVain job
are_in_vain job result k j =
    found job result k j (in_vain (sets_from result 0 job.blocks))
    (vain_blocks job result 0 job.blocks (λ i. let z : 0 + i ≡ i = omega arith in ap (λ (n : ℕ). slice_get job.blocks n) z))
