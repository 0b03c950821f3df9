-- A stage uses only its own samples: if two input vectors agree on these, its tree is the same.
use Rattle.std.proofs.Common.{◌≡◌, ◌∙◌, ℕ, zero, suc, ◌+◌, List, [], ◌∷◌, map, Option, Some, None, Bool, true, false, not, cond, eqb, refl, ap, sym, subst, arith}
use Rattle.std.{proofs.lemmas.Bool.eqb-true, specs.Prelude.slice_get, specs.Prelude.get_or}
use Rattle.std.specs.List.{list_any}
use Rattle.kp_base.specs.{First.first, declared.place.Place.Place}
use Rattle.kp_bits.specs.Word.{Word, word}
use Rattle.kp_ast.specs.{Expressions.is_same_name, Expressions.look_up, declared.tree.Expr.Expr, declared.tree.Named.Named, declared.tree.Num.Num}
use Rattle.kp_ast.specs.declared.tree.{Decl.Decl, Stmt.Stmt, Job.Job}
use Rattle.kp_ast.specs.declared.tree.Decl.TheVariants as decls
use Rattle.kp_stage.specs.Facts.{Facts, facts_of, sample_at, stmts_in}
use Rattle.kp_stage.specs.Rules.{holds_of, ask_name, ask_expr, ask_stmt, ask_stmts}
use Rattle.kp_stage.{specs.declared.rules.Rule.Rule, specs.Uses.exprs_in, specs.Uses.uses, proofs.Unbroken.first_none, proofs.Unbroken.found_none}
use Rattle.kp_stage.proofs.Names.{either, name_asked, exprs_asked}
use Rattle.kp_machine.specs.{Trees.entered, Slots.pipes_of, Slots.samples_of, Slots.sample_stages, Slots.words_from, Slots.words_of, Machine.stage_tree}
use Rattle.kp_machine.proofs.{Alike.alike_append, Alike.tree_same, Cases.by_test}

not_twice : (b : Bool) → not (not b) ≡ true → b ≡ true
not_twice true e = refl
not_twice false e = cc

-- if two input vectors agree on the samples of stage k, they have the same word for a name that is not a sample of another stage
same_words : (k : ℕ) (ds : List Decl) (i d : ℕ) (q r : ℕ → ℕ) (n : List ℕ) → ((x : ℕ) → get_or (sample_stages ds) x d ≡ k → q (i + x) ≡ r (i + x))
    → not (holds_of (λ w. not (eqb w k)) (first (map (sample_at n) ds))) ≡ true → look_up (words_from i q (samples_of ds)) n ≡ look_up (words_from i r (samples_of ds)) n
same_words k [] i d q r n agree own = refl
same_words k (decls.Sample m w s ∷ ds) i d q r n agree own =
    let z : i + 0 ≡ i = omega arith in
    let asks : Bool → Bool = λ b. not (holds_of (λ x. not (eqb x k)) (first (cond b (Some s.value) None ∷ map (sample_at n) ds))) in
    let at : (ℕ → ℕ) → Bool → Option Word = λ f b. cond b (Some (word w.value (f i))) (look_up (words_from (suc i) f (samples_of ds)) n) in
    by_test (is_same_name n m.name)
    (λ y.
    let here : s.value ≡ k = eqb-true s.value k (not_twice (eqb s.value k) (sym (ap asks y) ∙ own)) in
    let same : q i ≡ r i = subst (λ j. q j ≡ r j) z (agree 0 here) in
    ap (at q) y ∙ ap (λ v. Some (word w.value v)) same ∙ sym (ap (at r) y))
    (λ y.
    let more : look_up (words_from (suc i) q (samples_of ds)) n ≡ look_up (words_from (suc i) r (samples_of ds)) n =
    same_words k ds (suc i) d q r n (λ x e. let j : i + suc x ≡ suc i + x = omega arith in subst (λ j. q j ≡ r j) j (agree (suc x) e)) (sym (ap asks y) ∙ own) in
    ap (at q) y ∙ more ∙ sym (ap (at r) y))
same_words k (_ ∷ ds) i d q r n agree own = same_words k ds i d q r n agree own

module _ (facts : Facts) (k : ℕ) where
  -- a name is no sample of another stage
  abbrev own : List ℕ → Bool
  own n = not (holds_of (λ w. not (eqb w k)) (facts.sample n))

  own_name : (n : List ℕ) (at : Place) → ask_name facts Rule.E34 k n at ≡ None → own n ≡ true
  own_name n at e = found_none _ _ (facts.sample n) at e

  -- each name that is used
  exprs_own : (es : List Expr) (n : List ℕ) → first (map (ask_expr facts Rule.E34 k) es) ≡ None → list_any (uses n) es ≡ true → own n ≡ true
  exprs_own [] n free u = cc
  exprs_own (e ∷ es) n free u =
      let both = first_none (ask_expr facts Rule.E34 k e) (map (ask_expr facts Rule.E34 k) es) free in
      either (uses n e) (list_any (uses n) es) u (λ y. let a = name_asked facts Rule.E34 k n e y both.0 in own_name n a.0 a.1) (λ y. exprs_own es n both.1 y)

  stmts_own : (j : ℕ) (ss : List Stmt) (n : List ℕ) → first (ask_stmts facts Rule.E34 k j ss) ≡ None → list_any (λ (s : Stmt). list_any (uses n) (exprs_in s.kind)) ss ≡ true → own n ≡ true
  stmts_own j [] n free u = cc
  stmts_own j (s ∷ ss) n free u =
      let both = first_none (ask_stmt facts Rule.E34 k j s.kind) (ask_stmts facts Rule.E34 k (j + 1) ss) free in
      either (list_any (uses n) (exprs_in s.kind)) _ u (λ y. exprs_own (exprs_in s.kind) n (exprs_asked facts Rule.E34 k s.kind both.0) y) (λ y. stmts_own (j + 1) ss n both.1 y)

-- the tree of a stage is one for rows that agree on its own samples
pub own_samples : (job : Job) (k : ℕ) → first (ask_stmts (facts_of job) Rule.E34 k 0 (stmts_in (slice_get job.blocks k))) ≡ None
    → (q r p : ℕ → ℕ) → ((x : ℕ) → get_or (sample_stages job.decls) x job.stages.value ≡ k → q x ≡ r x) → stage_tree job k q p ≡ stage_tree job k r p
unfolding stage_tree
own_samples job k free q r p agree =
    let test = own (facts_of job) k in
    let pipes = words_of (pipes_of job.decls) p in
    tree_same test job.decls (entered job.decls q p) (entered job.decls r p) (stmts_in (slice_get job.blocks k))
    (record {
      names = alike_append test pipes pipes (words_of (samples_of job.decls) q) (words_of (samples_of job.decls) r) (λ n o. refl)
          (λ n o. same_words k job.decls 0 job.stages.value q r n (λ x e. let z : 0 + x ≡ x = omega arith in subst (λ j. q j ≡ r j) (sym z) (agree x e)) o);
      puts = refl;
      sets = refl;
      aims = refl;
    })
    (λ n u. stmts_own (facts_of job) k 0 (stmts_in (slice_get job.blocks k)) n free u)

-- a sample has a declaration with its stage, or it is past them all
pub sample_stands : {G : Type 0} (ds : List Decl) (x d : ℕ)
    → ((j : ℕ) (n : Named) (w s : Num) → slice_get ds j ≡ Some (decls.Sample n w s) → get_or (sample_stages ds) x d ≡ s.value → G)
    → (get_or (sample_stages ds) x d ≡ d → G) → G
sample_stands [] x d there past = past refl
sample_stands (decls.Sample n w s ∷ ds) zero d there past = there 0 n w s refl refl
sample_stands (decls.Sample n w s ∷ ds) (suc x) d there past = sample_stands ds x d (λ j m v t at e. there (suc j) m v t at e) past
sample_stands (_ ∷ ds) x d there past = sample_stands ds x d (λ j m v t at e. there (suc j) m v t at e) past
