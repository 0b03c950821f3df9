-- If no rule of stages is violated, each check of the head, a declaration or a statement passes.
use Rattle.std.proofs.Common.{◌≡◌, ℕ, zero, suc, ◌+◌, List, [], ◌∷◌, ◌++◌, Option, Some, None, refl, arith, subst}
use Rattle.std.specs.{Prelude.slice_get, Option.option_map}
use Rattle.kp_base.specs.First.{first}
use Rattle.kp_ast.specs.declared.tree.{Decl.Decl, Stmt.Stmt, Block.Block, Job.Job}
use Rattle.kp_stage.specs.{Findings.Answer, Findings.refusal_of, declared.rules.Rule.Rule, Facts.Facts, Facts.facts_of, Facts.stmts_in}
use Rattle.kp_stage.specs.Rules.{ask_head, ask_decl, ask_decls, ask_block, ask_stmt, ask_stmts, ask_in_block, ask_blocks, asked_at, asked_by_rules, asked_by, broken_by, all_rules}
use Rattle.kp_stage.{specs.Sizes.sizes_of, specs.Counts.counts_of, specs.Stages.answers_of, specs.Stages.broken_of, specs.Uses.statement_at, proofs.Unbroken.first_none, proofs.Unbroken.none_of_both}

option_none : {X Y : Type 0} (f : X → Y) (o : Option X) → option_map f o ≡ None → o ≡ None
option_none f None e = refl
option_none f (Some x) e = cc

abbrev numbers : Job → List Answer
numbers job = first (sizes_of job).asked ∷ first (counts_of job).asked ∷ []

all_kept : (job : Job) → broken_of job ≡ None → (first (asked_by (facts_of job) job) ≡ None) × (first (numbers job) ≡ None)
unfolding broken_of answers_of
all_kept job e = none_of_both (asked_by (facts_of job) job) (numbers job) (option_none refusal_of (first (answers_of job)) e)

-- a job that violates no rule of stages satisfies the rules E15 to E25, E34 and E35
pub rules_kept : (job : Job) → broken_of job ≡ None → broken_by (facts_of job) job ≡ None
unfolding broken_by
rules_kept job e = (all_kept job e).0

-- E28, and E29
numbers_kept : (job : Job) → broken_of job ≡ None → first (numbers job) ≡ None
numbers_kept job e = (all_kept job e).1

pub sizes_kept : (job : Job) → broken_of job ≡ None → first (sizes_of job).asked ≡ None
sizes_kept job e = (first_none (first (sizes_of job).asked) (first (counts_of job).asked ∷ []) (numbers_kept job e)).0

pub counts_kept : (job : Job) → broken_of job ≡ None → first (counts_of job).asked ≡ None
counts_kept job e =
    (first_none (first (counts_of job).asked) [] (first_none (first (sizes_of job).asked) (first (counts_of job).asked ∷ []) (numbers_kept job e)).1).0

module _ (facts : Facts) (job : Job) where
  in_rules : (rules : List Rule) (n : ℕ) (rule : Rule) → first (asked_by_rules facts job rules) ≡ None → slice_get rules n ≡ Some rule → first (asked_at facts job rule) ≡ None
  in_rules [] n rule e at = cc
  in_rules (r ∷ rs) zero rule e at = let same : r ≡ rule = cc in subst (λ x. first (asked_at facts job x) ≡ None) same (none_of_both (asked_at facts job r) (asked_by_rules facts job rs) e).0
  in_rules (r ∷ rs) (suc n) rule e at = in_rules rs n rule (none_of_both (asked_at facts job r) (asked_by_rules facts job rs) e).1 at

module _ (facts : Facts) (job : Job) (kept : broken_by facts job ≡ None) where
  by_place : (n : ℕ) (rule : Rule) → slice_get all_rules n ≡ Some rule → first (asked_at facts job rule) ≡ None
  unfolding broken_by asked_by
  by_place n rule at = in_rules facts job all_rules n rule kept at

  pub rule_kept : (rule : Rule) → first (asked_at facts job rule) ≡ None
  rule_kept Rule.E15 = by_place 0 Rule.E15 refl
  rule_kept Rule.E16 = by_place 1 Rule.E16 refl
  rule_kept Rule.E17 = by_place 2 Rule.E17 refl
  rule_kept Rule.E18 = by_place 3 Rule.E18 refl
  rule_kept Rule.E19 = by_place 4 Rule.E19 refl
  rule_kept Rule.E20 = by_place 5 Rule.E20 refl
  rule_kept Rule.E21 = by_place 6 Rule.E21 refl
  rule_kept Rule.E22 = by_place 7 Rule.E22 refl
  rule_kept Rule.E23 = by_place 8 Rule.E23 refl
  rule_kept Rule.E24 = by_place 9 Rule.E24 refl
  rule_kept Rule.E25 = by_place 10 Rule.E25 refl
  rule_kept Rule.E34 = by_place 11 Rule.E34 refl
  rule_kept Rule.E35 = by_place 12 Rule.E35 refl

  module _ (rule : Rule) where
    abbrev in_decls : List Answer
    in_decls = ask_decls facts rule 0 job.decls

    abbrev in_blocks : List Answer
    in_blocks = ask_blocks facts rule 0 job.blocks

    -- the head keeps a rule
    pub head_kept : ask_head rule job ≡ None
    head_kept = (first_none (ask_head rule job) (in_decls ++ in_blocks) (rule_kept rule)).0

    -- the declarations keep it
    pub decls_kept : first (ask_decls facts rule 0 job.decls) ≡ None
    decls_kept = (none_of_both in_decls in_blocks (first_none (ask_head rule job) (in_decls ++ in_blocks) (rule_kept rule)).1).0

    -- the blocks keep it
    pub blocks_kept : first (ask_blocks facts rule 0 job.blocks) ≡ None
    blocks_kept = (none_of_both in_decls in_blocks (first_none (ask_head rule job) (in_decls ++ in_blocks) (rule_kept rule)).1).1

    decl_in : (ds : List Decl) (i j : ℕ) (d : Decl) → first (ask_decls facts rule i ds) ≡ None → slice_get ds j ≡ Some d → ask_decl facts rule (i + j) d ≡ None
    decl_in [] i j d e at = cc
    decl_in (x ∷ ds) i zero d e at =
        let p : x ≡ d = cc in
        let z : i + 0 ≡ i = omega arith in
        rw z (subst (λ y. ask_decl facts rule i y ≡ None) p (first_none (ask_decl facts rule i x) (ask_decls facts rule (i + 1) ds) e).0)
    decl_in (x ∷ ds) i (suc j) d e at = let z : i + suc j ≡ (i + 1) + j = omega arith in rw z (decl_in ds (i + 1) j d (first_none (ask_decl facts rule i x) (ask_decls facts rule (i + 1) ds) e).1 at)

    -- the declaration of number j keeps it
    pub decl_kept : (j : ℕ) (d : Decl) → slice_get job.decls j ≡ Some d → ask_decl facts rule j d ≡ None
    decl_kept j d there =
        let z : 0 + j ≡ j = omega arith in
        rw z at (decl_in job.decls 0 j d decls_kept there)

    stmts_at : (bs : List Block) (k i : ℕ) → first (ask_blocks facts rule k bs) ≡ None → first (ask_stmts facts rule (k + i) 0 (stmts_in (slice_get bs i))) ≡ None
    stmts_at [] k i e = refl
    stmts_at (b ∷ bs) k zero e = let z : k + 0 ≡ k = omega arith in rw z ((first_none (ask_block facts rule k b) (ask_stmts facts rule k 0 b.stmts) (none_of_both (ask_in_block facts rule k b) (ask_blocks facts rule (k + 1) bs) e).0).1)
    stmts_at (b ∷ bs) k (suc i) e = let z : k + suc i ≡ (k + 1) + i = omega arith in rw z (stmts_at bs (k + 1) i (none_of_both (ask_in_block facts rule k b) (ask_blocks facts rule (k + 1) bs) e).1)

    -- the statements of stage k keep it
    pub stmts_kept : (k : ℕ) → first (ask_stmts facts rule k 0 (stmts_in (slice_get job.blocks k))) ≡ None
    stmts_kept k =
        let z : 0 + k ≡ k = omega arith in
        rw z at (stmts_at job.blocks 0 k blocks_kept)

    stmt_in : (k : ℕ) (ss : List Stmt) (i j : ℕ) (s : Stmt) → first (ask_stmts facts rule k i ss) ≡ None → slice_get ss j ≡ Some s → ask_stmt facts rule k (i + j) s.kind ≡ None
    stmt_in k [] i j s e at = cc
    stmt_in k (x ∷ ss) i zero s e at =
        let p : x ≡ s = cc in
        let z : i + 0 ≡ i = omega arith in
        rw z (subst (λ (y : Stmt). ask_stmt facts rule k i y.kind ≡ None) p (first_none (ask_stmt facts rule k i x.kind) (ask_stmts facts rule k (i + 1) ss) e).0)
    stmt_in k (x ∷ ss) i (suc j) s e at = let z : i + suc j ≡ (i + 1) + j = omega arith in rw z (stmt_in k ss (i + 1) j s (first_none (ask_stmt facts rule k i x.kind) (ask_stmts facts rule k (i + 1) ss) e).1 at)

    -- the statement of number j in stage k keeps it
    pub stmt_kept : (k j : ℕ) (s : Stmt) → statement_at job k j ≡ Some s → ask_stmt facts rule k j s.kind ≡ None
    stmt_kept k j s there =
        let z : 0 + j ≡ j = omega arith in
        rw z at (stmt_in k (stmts_in (slice_get job.blocks k)) 0 j s (stmts_kept k) there)
