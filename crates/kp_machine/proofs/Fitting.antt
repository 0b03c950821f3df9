-- The tree of a stage fits, since each statement of its block keeps the rules of stages.
use Rattle.std.proofs.Common.{◌≡◌, ◌∙◌, ℕ, zero, suc, ◌+◌, ◌<◌, ◌≤◌, max, List, [], ◌∷◌, Option, Some, None, true, not, ◌&&◌, ◌||◌, cond, eqb, refl, ap, sym, subst, arith}
use Rattle.std.proofs.lemmas.Bool.{cond_both, eqb-true, not-true, ltb-false, leb-true, and_parts}
use Rattle.std.specs.{Prelude.slice_get, Prelude.is_some, Prelude.unwrap_or, Prelude.nat_lt, Prelude.nat_le, List.AllByRecursion}
use Rattle.kp_base.specs.First.{first}
use Rattle.kp_ast.specs.declared.tree.{Expr.Expr, Named.Named, ReadStmt.ReadStmt, ResultDecl.ResultDecl, Stmt.Stmt, StmtKind.StmtKind, Block.Block, Job.Job}
use Rattle.kp_ast.specs.declared.tree.StmtKind.TheVariants as stmts
use Rattle.kp_width.{specs.Widths.widths_of, proofs.Unbroken.Unbroken}
use Rattle.kp_stage.specs.Facts.{At, Facts, facts_of, stmts_in, or_zero, guessed, largest_in, largest}
use Rattle.kp_stage.specs.{Rules.holds_of, Rules.is_at, Rules.may_guess, Rules.ask_stmt, Rules.ask_stmts, declared.rules.Rule.Rule, Stages.broken_of}
use Rattle.kp_stage.proofs.{Unbroken.first_none, Unbroken.answer_none, Unbroken.found_none, Kept.rules_kept, Kept.stmts_kept}
use Rattle.kp_pipeline.specs.{Machine.Tree, Accepted.Fits, Accepted.EndFits}
use Rattle.kp_machine.specs.Trees.{Progress, entered, holds, value_of, value_with_hints, with_name, with_put, with_set, with_aim, word_of, word_read, read_of, statement_of, tree_of}
use Rattle.kp_machine.specs.Slots.{Slot, targets_of, pipes_of, hints_of, number_of, result_named}
use Rattle.kp_machine.specs.Machine.{machine_of, stage_tree, result_for, write_stage_of, after_put, known_after, known_from_of, is_enabled_by, address_by, enabled_of, address_in}
use Rattle.kp_machine.proofs.{Names.IsIn, Names.number_determines, Placing.IsPipeIn, Placing.IsPlaced, Placing.result_placed, Placing.own, Placing.stands}
use Rattle.kp_machine.proofs.{Results.named_stands, Results.written_where, Results.written_by}

pub some_from : {X : Type 0} (o : Option X) → is_some o ≡ true → (x : X) × (o ≡ Some x)
some_from None e = cc
some_from (Some x) e = (x, refl)

put_is_here : (k j : ℕ) (o : Option At) → holds_of (is_at k j) o ≡ true → after_put o ≡ suc k
put_is_here k j None e = cc
put_is_here k j (Some at) e = ap (λ n. suc n) (eqb-true at.stage k (and_parts (eqb at.stage k) (eqb at.index j) e).0)

not_before : (k w : ℕ) (o : Option ℕ) → not (holds_of (λ x. nat_lt x k) o) ≡ true → o ≡ Some w → k ≤ w
not_before k w o e at = let n : not (nat_lt w k) ≡ true = subst (λ x. not (holds_of (λ y. nat_lt y k) x) ≡ true) at e in ltb-false w k (not-true _ n)

-- the largest write stage is at least that of each guess
grown : (written : List ℕ → Option ℕ) (top : ℕ) (ss : List Stmt) → top ≤ largest_in written top ss
grown written top [] = omega arith
grown written top (s ∷ ss) = let h = grown written (max top (guessed written s.kind)) ss in omega (arith, h)

guesses_in : (written : List ℕ → Option ℕ) (w top : ℕ) (ss : List Stmt) → largest_in written top ss ≤ w → AllByRecursion (λ s. guessed written s.kind ≤ w) ss
guesses_in written w top [] h = tt
guesses_in written w top (s ∷ ss) h =
    let g = grown written (max top (guessed written s.kind)) ss in
    (omega (arith, g, h), guesses_in written w (max top (guessed written s.kind)) ss h)

all_grown : (written : List ℕ → Option ℕ) (top : ℕ) (bs : List Block) → top ≤ largest written top bs
all_grown written top [] = omega arith
all_grown written top (b ∷ bs) =
    let g = grown written top b.stmts in
    let h = all_grown written (largest_in written top b.stmts) bs in
    omega (arith, g, h)

all_guesses : (written : List ℕ → Option ℕ) (w top : ℕ) (bs : List Block) (i : ℕ) → largest written top bs ≤ w → AllByRecursion (λ s. guessed written s.kind ≤ w) (stmts_in (slice_get bs i))
all_guesses written w top [] i h = tt
all_guesses written w top (b ∷ bs) zero h =
    let g = all_grown written (largest_in written top b.stmts) bs in
    guesses_in written w top b.stmts (omega (arith, g, h))
all_guesses written w top (b ∷ bs) (suc i) h = all_guesses written w (largest_in written top b.stmts) bs i h

module _ (job : Job) (names : Unbroken (widths_of job)) (stages : broken_of job ≡ None) where
  abbrev facts : Facts
  facts = facts_of job

  abbrev targets : List Slot
  targets = targets_of job.decls

  abbrev pipes : List Slot
  pipes = pipes_of job.decls

  -- a target that is written has a result, whose write stage is that
  written_result : (name : List ℕ) (w : ℕ) → facts.written name ≡ Some w → (r : ResultDecl) × ((result_for job (number_of targets name) ≡ Some r) × (r.stage.value ≡ w))
  written_result name w e =
      let r = written_by job.decls name w e in
      (r.0, (ap (λ n. result_for job (number_of targets n)) (sym r.1.1.0) ∙ own job names stages r.0 r.1.0, r.1.1.1))

  result_written : (name : List ℕ) (r : ResultDecl) → result_for job (number_of targets name) ≡ Some r → facts.written name ≡ Some r.stage.value
  result_written name r e =
      let s = stands job names (number_of targets name) r e in
      let same : r.target.name ≡ name = number_determines targets r.target.name name (result_placed job names r s.0).target s.1 in
      let w = written_where job.decls name r s.0 same in
      let q = written_result name w.0 w.1 in
      let p : Some r ≡ Some q.0 = sym e ∙ q.1.0 in
      let one : r ≡ q.0 = cc in
      w.1 ∙ ap Some (sym q.1.1) ∙ ap (λ (x : ResultDecl). Some x.stage.value) (sym one)

  module _ (k : ℕ) where
    -- What was put and set in stage k leaves each intent that is known alone, and sets nothing after its write stage.
    record Fine (done : Progress) : Type 0 where
      puts : (n : List ℕ) → IsIn pipes n → after_put (facts.put n) ≤ k → done.puts (number_of pipes n) ≡ None
      sets : (t : ℕ) → is_some (result_for job t) ≡ true → write_stage_of (result_for job t) < k → done.sets t ≡ None

    -- each rule at a statement
    abbrev Asked : ℕ → StmtKind → Type 0
    Asked j s = (rule : Rule) → ask_stmt facts rule k j s ≡ None

    record Keeps (j : ℕ) (s : StmtKind) : Type 0 where
      asked : Asked j s
      top : guessed facts.written s ≤ facts.top

    abbrev KeepsAll : ℕ → List Stmt → Type 0
    KeepsAll j [] = Unit {0}
    KeepsAll j (s ∷ ss) = Keeps j s.kind × KeepsAll (j + 1) ss

    keeps_all : (j : ℕ) (ss : List Stmt) → ((rule : Rule) → first (ask_stmts facts rule k j ss) ≡ None)
        → AllByRecursion (λ s. guessed facts.written s.kind ≤ facts.top) ss → KeepsAll j ss
    keeps_all j [] a t = tt
    keeps_all j (s ∷ ss) a t = (
      record { asked = λ rule. (first_none (ask_stmt facts rule k j s.kind) (ask_stmts facts rule k (j + 1) ss) (a rule)).0; top = t.0 },
      keeps_all (j + 1) ss (λ rule. (first_none (ask_stmt facts rule k j s.kind) (ask_stmts facts rule k (j + 1) ss) (a rule)).1) t.1,
    )

    named : (done : Progress) (name : List ℕ) (v : _) → Fine done → Fine (with_name done name v)
    named done name v fine = record { puts = fine.puts; sets = fine.sets }

    aimed : (done : Progress) (h : ℕ) (v : (ℕ → ℕ) → ℕ) → Fine done → Fine (with_aim done h v)
    aimed done h v fine = record { puts = fine.puts; sets = fine.sets }

    put : (done : Progress) (j v : ℕ) (n : Named) → holds_of (is_at k j) (facts.put n.name) ≡ true → Fine done → Fine (with_put done (number_of pipes n.name) v)
    put done j v n e fine = record {
      puts = λ q h b.
          cond_both (eqb (number_of pipes q) (number_of pipes n.name)) (Some v) (done.puts (number_of pipes q)) (λ o. o ≡ None)
          (λ y.
          let same : q ≡ n.name = number_determines pipes q n.name h (eqb-true _ _ y) in
          let now : after_put (facts.put q) ≡ suc k = ap (λ x. after_put (facts.put x)) same ∙ put_is_here k j (facts.put n.name) e in
          absurd (omega (arith, now, b)))
          (λ _. fine.puts q h b);
      sets = fine.sets;
    }

    set : (done : Progress) (v : ℕ) (n : Named) (o : Option ResultDecl) → result_named job.decls n.name ≡ o
        → not (holds_of (λ w. nat_lt w k) (facts.stage n.name)) ≡ true → Fine done → Fine (with_set job.decls done o v)
    set done v n None is e fine = fine
    set done v n (Some r) is e fine = record {
      puts = fine.puts;
      sets = λ t i b.
          let there = named_stands job.decls n.name r is in
          let late : k ≤ r.stage.value = not_before k r.stage.value (facts.stage n.name) e there.1 in
          let before : done.sets t ≡ None = fine.sets t i b in
          rw before
          (cond_both (eqb t (number_of targets r.target.name)) (Some v) None (λ o. o ≡ None)
          (λ y.
          let w : write_stage_of (result_for job t) ≡ r.stage.value =
          ap (λ x. write_stage_of (result_for job x)) (eqb-true _ _ y) ∙ ap write_stage_of (own job names stages r there.0) in
          absurd (omega (arith, w, b, late)))
          (λ _. refl));
    }

    -- a read is in no stage after the write stage
    read_in_time : (name : List ℕ) → not (holds_of (λ w. nat_lt w k) (facts.written name)) ≡ true
        → is_some (result_for job (number_of targets name)) ≡ true → k ≤ write_stage_of (result_for job (number_of targets name))
    read_in_time name e i =
        let r = some_from (result_for job (number_of targets name)) i in
        let w : write_stage_of (result_for job (number_of targets name)) ≡ r.0.stage.value = ap write_stage_of r.1 in
        let late : k ≤ r.0.stage.value = not_before k r.0.stage.value (facts.written name) e (result_written name r.0 r.1) in
        omega (arith, w, late)

    -- a guess is of a register with a result, two stages or more before its write stage
    guess_in_time : (r : ReadStmt) (e : Expr) → r.guess ≡ Some e → may_guess facts k r ≡ true → guessed facts.written (stmts.Read r) ≤ facts.top
        → (is_some (result_for job (number_of targets r.target.name)) ≡ true)
        × (k + 2 ≤ write_stage_of (result_for job (number_of targets r.target.name)))
        × (write_stage_of (result_for job (number_of targets r.target.name)) ≤ facts.top)
    guess_in_time r e is may top =
        let there : is_some r.guess ≡ true = ap is_some is in
        let late : holds_of (λ w. nat_le (k + 2) w) (facts.written r.target.name) ≡ true =
        (and_parts (not (is_some r.address)) (holds_of (λ w. nat_le (k + 2) w) (facts.written r.target.name))
        (subst (λ b. (not b || (not (is_some r.address) && holds_of (λ w. nat_le (k + 2) w) (facts.written r.target.name))) ≡ true) there may)).1 in
        let w = written_in_time (facts.written r.target.name) late in
        let q = written_result r.target.name w.0 w.1.0 in
        let stage : write_stage_of (result_for job (number_of targets r.target.name)) ≡ w.0 = ap write_stage_of q.1.0 ∙ q.1.1 in
        let after : k + 2 ≤ w.0 = w.1.1 in
        let below : w.0 ≤ facts.top =
        subst (λ n. n ≤ facts.top)
        (ap (λ b. cond b (or_zero (facts.written r.target.name)) 0) there ∙ ap or_zero w.1.0) top in
        (ap is_some q.1.0, omega (arith, stage, after), omega (arith, stage, below))
      where
        written_in_time : (o : Option ℕ) → holds_of (λ w. nat_le (k + 2) w) o ≡ true → (w : ℕ) × ((o ≡ Some w) × (k + 2 ≤ w))
        written_in_time None e = cc
        written_in_time (Some w) e = (w, (refl, leb-true (k + 2) w e))

    abbrev Fit : Tree → Type 0
    Fit tree = Fits (machine_of job) k tree

    read_fits : (j : ℕ) (done : Progress) (r : ReadStmt) (o : Option Expr) (rest : ℕ → Tree) → r.guess ≡ o → Keeps j (stmts.Read r)
        → ((v : ℕ) → Fit (rest v)) → Fit (read_of job.decls done r o rest)
    unfolding machine_of
    read_fits j done r None rest is keeps go =
        (read_in_time r.target.name (found_none _ _ (facts.written r.target.name) r.target.at (keeps.asked Rule.E18)), go)
    read_fits j done r (Some e) rest is keeps go =
        let g = guess_in_time r e is (answer_none (may_guess facts k r) _ (keeps.asked Rule.E23)) keeps.top in
        (g.0, g.1, g.2, go)

    statement_fits : (j : ℕ) (done : Progress) (s : StmtKind) (rest : Progress → Tree) → Fine done → Keeps j s
        → ((next : Progress) → Fine next → Fit (rest next)) → Fit (statement_of job.decls done s rest)
    statement_fits j done (stmts.Read r) rest fine keeps go =
        cond_both (holds job.decls done r.when)
        (read_of job.decls done r r.guess (λ v. rest (with_name done r.name.name (word_read job.decls r v))))
        (rest (with_name done r.name.name (word_read job.decls r 0))) Fit
        (λ _. read_fits j done r r.guess (λ v. rest (with_name done r.name.name (word_read job.decls r v))) refl keeps
        (λ v. go (with_name done r.name.name (word_read job.decls r v)) (named done r.name.name (word_read job.decls r v) fine)))
        (λ _. go (with_name done r.name.name (word_read job.decls r 0)) (named done r.name.name (word_read job.decls r 0) fine))
    statement_fits j done (stmts.Let n e) rest fine keeps go =
        go (with_name done n.name (word_of job.decls done e)) (named done n.name (word_of job.decls done e) fine)
    statement_fits j done (stmts.Put n e) rest fine keeps go =
        go (with_put done (number_of pipes n.name) (value_of job.decls done e))
        (put done j (value_of job.decls done e) n (answer_none _ _ (keeps.asked Rule.E16)) fine)
    statement_fits j done (stmts.Set n e when) rest fine keeps go =
        cond_both (holds job.decls done when)
        (rest (with_set job.decls done (result_named job.decls n.name) (value_of job.decls done e))) (rest done) Fit
        (λ _. go (with_set job.decls done (result_named job.decls n.name) (value_of job.decls done e))
        (set done (value_of job.decls done e) n (result_named job.decls n.name) refl (found_none _ _ (facts.stage n.name) n.at (keeps.asked Rule.E20)) fine))
        (λ _. go done fine)
    statement_fits j done (stmts.Aim n e) rest fine keeps go =
        go (with_aim done (number_of (hints_of job.decls) n.name) (value_with_hints job.decls done e))
        (aimed done (number_of (hints_of job.decls) n.name) (value_with_hints job.decls done e) fine)

    pipe_kept : (o : Option Named) (puts : ℕ → Option ℕ) → ((n : List ℕ) → IsIn pipes n → after_put (facts.put n) ≤ k → puts (number_of pipes n) ≡ None)
        → IsPipeIn pipes o → known_after facts o ≤ k → (p : ℕ → ℕ)
        → (is_enabled_by pipes (λ q. unwrap_or (puts q) (p q)) o ≡ is_enabled_by pipes p o)
        × (address_by pipes (λ q. unwrap_or (puts q) (p q)) o ≡ address_by pipes p o)
    pipe_kept None puts free here b p = (refl, refl)
    pipe_kept (Some n) puts free here b p =
        let e : puts (number_of pipes n.name) ≡ None = free n.name here b in
        let v : unwrap_or (puts (number_of pipes n.name)) (p (number_of pipes n.name)) ≡ p (number_of pipes n.name) =
        ap (λ o. unwrap_or o (p (number_of pipes n.name))) e in
        (ap (λ x. eqb x 1) v, v)

    intent_kept : (o : Option ResultDecl) (puts : ℕ → Option ℕ) → ((n : List ℕ) → IsIn pipes n → after_put (facts.put n) ≤ k → puts (number_of pipes n) ≡ None)
        → ((r : ResultDecl) → o ≡ Some r → IsPlaced targets pipes r) → known_from_of facts o ≤ k → (p : ℕ → ℕ)
        → (enabled_of pipes (λ q. unwrap_or (puts q) (p q)) o ≡ enabled_of pipes p o)
        × (address_in pipes (λ q. unwrap_or (puts q) (p q)) o ≡ address_in pipes p o)
    intent_kept None puts free here b p = (refl, refl)
    intent_kept (Some r) puts free here b p =
        let at = here r refl in (
          (pipe_kept r.enable puts free at.enable (omega (arith, b)) p).0,
          (pipe_kept r.address puts free at.address (omega (arith, b)) p).1,
        )

    end_fits : (done : Progress) → Fine done → EndFits (machine_of job) k done.puts done.sets
    unfolding machine_of
    end_fits done fine =
        ((λ t p h b. intent_kept (result_for job t) done.puts fine.puts (λ r e. result_placed job names r (stands job names t r e).0) b p), fine.sets)

    tree_fits : (j : ℕ) (ss : List Stmt) (done : Progress) → Fine done → KeepsAll j ss → Fit (tree_of job.decls done ss)
    tree_fits j [] done fine keeps = end_fits done fine
    tree_fits j (s ∷ ss) done fine keeps =
        statement_fits j done s.kind (λ next. tree_of job.decls next ss) fine keeps.0 (λ next f. tree_fits (j + 1) ss next f keeps.1)

    -- the tree of the stage fits
    pub stage_fits : (samples values : ℕ → ℕ) → Fit (stage_tree job k samples values)
    unfolding stage_tree
    stage_fits samples values =
        tree_fits 0 (stmts_in (slice_get job.blocks k)) (entered job.decls samples values)
        (record { puts = λ n h b. refl; sets = λ t i b. refl })
        (keeps_all 0 (stmts_in (slice_get job.blocks k)) (λ rule. stmts_kept facts job (rules_kept job stages) rule k)
        (all_guesses facts.written facts.top 0 job.blocks k (omega arith)))
