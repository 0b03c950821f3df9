-- A generated job obeys a rule of stages if no form of declaration and of statement in it violates the rule.
use Rattle.std.proofs.Common.{◌≡◌, ◌∙◌, ℕ, zero, suc, ◌+◌, ◌-◌, ◌<◌, ◌≤◌, List, [], ◌∷◌, ◌++◌, length, map, None, Some, refl, sym, subst, arith, append_assoc, Option, Bool, true, false}
use Rattle.std.{specs.Prelude.codes, specs.Prelude.◌==◌, specs.List.range_with_len, proofs.lemmas.Bool.eqb-true}
use Rattle.kp_base.{specs.First.first, proofs.First.first_append_none}
use Rattle.kp_ast.specs.declared.tree.{Decl.Decl, Stmt.Stmt, StmtKind.StmtKind, Named.Named, Num.Num, Expr.Expr, ReadStmt.ReadStmt}
use Rattle.kp_stage.specs.{declared.rules.Rule.Rule, Facts.Facts, Findings.Answer}
use Rattle.kp_stage.specs.Rules.{ask_head, ask_decl, ask_decls, ask_block, ask_stmt, ask_stmts, ask_in_block, ask_blocks, asked_at}
use Rattle.kp_gen.specs.Generated.{result_of, set, file_read, address_put, value_put, file_set, file_sets, for_each, sets_from, first_stmts, later_stmts, later_block, block, all_decls, all_blocks, job_of, read_from, read_name, register_name, low_byte}
use Rattle.kp_gen.specs.declared.draws.Route.{Route}
use Rattle.kp_gen.proofs.{Forms.register, Forms.pipe, Forms.read, Forms.put, Forms.file, Forms.pipe_AF, Forms.pipe_VF, Forms.file_result, Lookups.either}
use Rattle.kp_gen.proofs.Finds.{AllFrom, past, Skips, to_last, to_last_puts}
use Rattle.kp_ast.specs.declared.tree.Decl.TheVariants as decls
use Rattle.kp_ast.specs.declared.tree.StmtKind.TheVariants as stmts

module _ (facts : Facts) (rule : Rule) (Fine : ℕ → Route → Type 0) (n : ℕ) (rs : List Route) (all : AllFrom Fine 0 rs) where
  abbrev m : ℕ
  m = length rs

  abbrev in_decl : List ℕ → ℕ → Decl → Answer
  in_decl q i d = ask_decl facts rule i d

  -- the check finds no violation at any declaration
  pub record KeepDecls : Type 0 where
    pub before : Skips in_decl Fine m []
    pub results : (i : ℕ) (r : Route) → i < m → Fine i r → ask_decl facts rule ((m + m + 3) + i) (result_of i r) ≡ None
    pub file_result_kept : ask_decl facts rule ((m + m + 3) + m) (file_result n) ≡ None

  decls_kept : KeepDecls → first (ask_decls facts rule 0 (all_decls n rs)) ≡ None
  decls_kept h =
      to_last in_decl (λ q i ds. ask_decls facts rule i ds) (λ q i d ds. refl) Fine n rs all [] h.before h.results ∙ past (ask_decl facts rule ((m + m + 3) + m) (file_result n)) [] h.file_result_kept

  -- if the rule checks results alone
  pub results_alone : ((x i : ℕ) (r : Route) → ask_decl facts rule x (register i r) ≡ None) → ((x : ℕ) → ask_decl facts rule x file ≡ None) → ((x : ℕ) (p : Named) (w : Num) → ask_decl facts rule x (decls.Pipe p w) ≡ None)
      → ((i : ℕ) (r : Route) → i < m → Fine i r → ask_decl facts rule ((m + m + 3) + i) (result_of i r) ≡ None) → ask_decl facts rule ((m + m + 3) + m) (file_result n) ≡ None → KeepDecls
  results_alone registers files pipes results last = record {
    before = record { registers = λ i r h f. registers (0 + i) i r; file_skipped = files (0 + m); pipes = λ i r h f. pipes ((m + 1) + i) _ _; address = pipes ((m + 1) + m) _ _; value = pipes (((m + 1) + m) + 1) _ _ };
    results = results;
    file_result_kept = last;
  }

  -- if it checks no declarations
  pub decls_unasked : ((i : ℕ) (d : Decl) → ask_decl facts rule i d ≡ None) → KeepDecls
  decls_unasked none = results_alone (λ x i r. none x (register i r)) (λ x. none x file) (λ x p w. none x (decls.Pipe p w)) (λ i r h f. none _ (result_of i r)) (none _ (file_result n))

  -- nor at the number of a block, or at a statement
  pub record KeepStmts : Type 0 where
    pub numbers : (k : ℕ) (ss : List Stmt) → k < n → ask_block facts rule k (block k ss) ≡ None
    pub reads : (i : ℕ) (r : Route) → i < m → Fine i r → ask_stmt facts rule 0 (0 + i) (read i r).kind ≡ None
    pub file_read_kept : ask_stmt facts rule 0 (0 + m) file_read.kind ≡ None
    pub puts : (i : ℕ) (r : Route) → i < m → Fine i r → ask_stmt facts rule 0 ((m + 1) + i) (put m i r).kind ≡ None
    pub address : ask_stmt facts rule 0 ((m + 1) + m) address_put.kind ≡ None
    pub value : ask_stmt facts rule 0 (((m + 1) + m) + 1) value_put.kind ≡ None
    pub later : (k : ℕ) → 1 ≤ k → k < n → first (ask_stmts facts rule k 0 (later_stmts rs k)) ≡ None

  -- if it checks reads and sets, but no puts
  pub puts_unasked : ((k : ℕ) (ss : List Stmt) → k < n → ask_block facts rule k (block k ss) ≡ None) → ((j : ℕ) (q from : List ℕ) (a : Option Expr) → ask_stmt facts rule 0 j (read_from q from a).kind ≡ None)
      → ((j : ℕ) (p : Named) (e : Expr) → ask_stmt facts rule 0 j (stmts.Put p e) ≡ None) → ((k : ℕ) → 1 ≤ k → k < n → first (ask_stmts facts rule k 0 (later_stmts rs k)) ≡ None) → KeepStmts
  puts_unasked numbers reads puts later = record {
    numbers = numbers;
    reads = λ i r h f. reads (0 + i) (read_name i) (register_name i) None;
    file_read_kept = reads (0 + m) (codes "f") (codes "F") (Some (low_byte (read_name 1)));
    puts = λ i r h f. puts ((m + 1) + i) _ _;
    address = puts ((m + 1) + m) _ _;
    value = puts (((m + 1) + m) + 1) _ _;
    later = later;
  }

  unasked : ((k j : ℕ) (s : StmtKind) → ask_stmt facts rule k j s ≡ None) → (k j : ℕ) (ss : List Stmt) → first (ask_stmts facts rule k j ss) ≡ None
  unasked none k j [] = refl
  unasked none k j (s ∷ ss) = past (ask_stmt facts rule k j s.kind) (ask_stmts facts rule k (j + 1) ss) (none k j s.kind) ∙ unasked none k (j + 1) ss

  pub stmts_unasked : ((k : ℕ) (ss : List Stmt) → k < n → ask_block facts rule k (block k ss) ≡ None) → ((k j : ℕ) (s : StmtKind) → ask_stmt facts rule k j s ≡ None) → KeepStmts
  stmts_unasked numbers none = puts_unasked numbers (λ j q from a. none 0 j (read_from q from a).kind) (λ j p e. none 0 j (stmts.Put p e)) (λ k some most. unasked none k 0 (later_stmts rs k))

  -- the sets of stage k, at any index in it
  each_set : (k i j : ℕ) (rs : List Route) → AllFrom Fine j rs → j + length rs ≡ m
      → ((i j : ℕ) (r : Route) → j < m → Fine j r → r.set ≡ k → ask_stmt facts rule k i (set j r).kind ≡ None)
      → ((i : ℕ) → first (ask_stmts facts rule k i (file_sets k)) ≡ None)
      → first (ask_stmts facts rule k i (sets_from k j rs ++ file_sets k)) ≡ None
  each_set k i j [] all e none next = next i
  each_set k i j (r ∷ rs) all e none next =
      either (r.set == k)
      (λ x. rw x (past (ask_stmt facts rule k i (set j r).kind) (ask_stmts facts rule k (i + 1) (sets_from k (j + 1) rs ++ file_sets k)) (none i j r (omega arith) all.0 (eqb-true r.set k x))
      ∙ each_set k (i + 1) (j + 1) rs all.1 (omega arith) none next))
      (λ x. rw x (each_set k i (j + 1) rs all.1 (omega arith) none next))

  file_sets_kept : ((i : ℕ) → ask_stmt facts rule 1 i file_set.kind ≡ None) → (k i : ℕ) → first (ask_stmts facts rule k i (file_sets k)) ≡ None
  file_sets_kept last k i =
      either (k == 1)
      (λ e. rw e (let one : k ≡ 1 = eqb-true k 1 e in past (ask_stmt facts rule k i file_set.kind) [] (subst (λ x. ask_stmt facts rule x i file_set.kind ≡ None) (sym one) (last i))))
      (λ e. rw e refl)

  -- the sets of a later stage, by their forms
  pub by_sets : ((k i j : ℕ) (r : Route) → 1 ≤ k → j < m → Fine j r → r.set ≡ k → ask_stmt facts rule k i (set j r).kind ≡ None)
      → ((i : ℕ) → ask_stmt facts rule 1 i file_set.kind ≡ None)
      → (k : ℕ) → 1 ≤ k → k < n → first (ask_stmts facts rule k 0 (later_stmts rs k)) ≡ None
  by_sets sets last k some most = each_set k 0 0 rs all (omega arith) (λ i j r w f s. sets k i j r some w f s) (λ i. file_sets_kept last k i)

  first_kept : KeepStmts → first (ask_stmts facts rule 0 0 (first_stmts rs)) ≡ None
  first_kept h =
      to_last_puts (λ q j s. ask_stmt facts rule 0 j s.kind) (λ q j ss. ask_stmts facts rule 0 j ss) (λ q j s ss. refl) Fine rs all [] h.reads h.file_read_kept h.puts
      ∙ past (ask_stmt facts rule 0 ((m + 1) + m) address_put.kind) (ask_stmts facts rule 0 (((m + 1) + m) + 1) (value_put ∷ [])) h.address
      ∙ past (ask_stmt facts rule 0 (((m + 1) + m) + 1) value_put.kind) [] h.value

  in_block : (k : ℕ) (ss : List Stmt) → ask_block facts rule k (block k ss) ≡ None → first (ask_stmts facts rule k 0 ss) ≡ None → first (ask_in_block facts rule k (block k ss)) ≡ None
  in_block k ss a b = past (ask_block facts rule k (block k ss)) (ask_stmts facts rule k 0 ss) a ∙ b

  later_kept : (k c : ℕ) → k + c ≡ n → 1 ≤ k → KeepStmts → first (ask_blocks facts rule k (map (later_block rs) (range_with_len k c))) ≡ None
  later_kept k zero e some h = refl
  later_kept k (suc c) e some h =
      first_append_none (ask_in_block facts rule k (later_block rs k)) (ask_blocks facts rule (k + 1) (map (later_block rs) (range_with_len (k + 1) c)))
      (in_block k (later_stmts rs k) (h.numbers k (later_stmts rs k) (omega arith)) (h.later k some (omega arith)))
      ∙ later_kept (k + 1) c (omega arith) (omega arith) h

  blocks_kept : 1 ≤ n → KeepStmts → first (ask_blocks facts rule 0 (all_blocks n rs)) ≡ None
  blocks_kept some h =
      first_append_none (ask_in_block facts rule 0 (block 0 (first_stmts rs))) (ask_blocks facts rule 1 (map (later_block rs) (range_with_len 1 (n - 1))))
      (in_block 0 (first_stmts rs) (h.numbers 0 (first_stmts rs) (omega arith)) (first_kept h))
      ∙ later_kept 1 (n - 1) (omega arith) (omega arith) h

  -- so a job obeys the rule
  pub rule_kept : 1 ≤ n → ask_head rule (job_of n rs) ≡ None → KeepDecls → KeepStmts → first (asked_at facts (job_of n rs) rule) ≡ None
  unfolding job_of
  rule_kept some head ds ss =
      past (ask_head rule (job_of n rs)) (ask_decls facts rule 0 (all_decls n rs) ++ ask_blocks facts rule 0 (all_blocks n rs)) head
      ∙ first_append_none (ask_decls facts rule 0 (all_decls n rs)) (ask_blocks facts rule 0 (all_blocks n rs)) (decls_kept ds)
      ∙ blocks_kept some ss
