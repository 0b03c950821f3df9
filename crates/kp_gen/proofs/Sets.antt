-- E21 in a generated job: each set is the first of its result in its stage.
use Rattle.std.proofs.Common.{◌≡◌, ◌∙◌, ℕ, zero, suc, ◌+◌, ◌-◌, ◌<◌, ◌≤◌, List, [], ◌∷◌, ◌++◌, length, map, Option, None, Some, Bool, true, false, cond, refl, ap, arith}
use Rattle.std.{proofs.lemmas.Bool.eq-eqb, specs.Prelude.◌==◌, specs.Prelude.codes, specs.Prelude.slice_get, specs.List.range_with_len}
use Rattle.kp_base.specs.{First.first, Check.answer}
use Rattle.kp_ast.specs.{Expressions.is_same_name, declared.tree.Stmt.Stmt, declared.tree.Block.Block}
use Rattle.kp_stage.specs.{declared.rules.Rule.Rule, Facts.Facts, Facts.sets_in, Facts.stmts_in, Facts.first_set}
use Rattle.kp_stage.specs.Rules.{ask_stmt, ask_stmts, holds_of}
use Rattle.kp_gen.specs.declared.draws.Route.{Route}
use Rattle.kp_gen.specs.Generated.{result_name, set, file_set, file_sets, sets_from, later_stmts, later_block, all_blocks}
use Rattle.kp_gen.proofs.{Lookups.other_number, Lookups.same_true, Lookups.either, Texts.no_number, Finds.past, Finds.at_some}
use Rattle.kp_gen.proofs.StageLookups.{is_where, is_nowhere}

-- an entry at its own number
pub first_one : {F : Type 0} (f : F) (o : Option ℕ) (i : ℕ) → o ≡ Some i → answer (holds_of (λ (j : ℕ). j == i) o) f ≡ None
first_one f None i e = cc
first_one f (Some j) i e = let p : j ≡ i = cc in rw (eq-eqb j i p) refl

module _ (facts : Facts) (m k : ℕ) (few : m ≤ 35) where
  abbrev behind : List ℕ → ℕ → ℕ → List Route → Option ℕ
  behind q i j rs = first (sets_in q i (sets_from k j rs ++ file_sets k))

  each : (i j : ℕ) (rs : List Route) → j + length rs ≡ m
      → ((x : ℕ) → j ≤ x → x < m → facts.set_in k (result_name x) ≡ behind (result_name x) i j rs)
      → facts.set_in k (codes "CF") ≡ behind (codes "CF") i j rs
      → first (ask_stmts facts Rule.E21 k i (sets_from k j rs ++ file_sets k)) ≡ None
  each i j [] e results file =
      either (k == 1)
      (λ h. let here : facts.set_in k (codes "CF") ≡ Some i = file ∙ (rw h refl) in
      rw h (past (ask_stmt facts Rule.E21 k i file_set.kind) [] (first_one _ (facts.set_in k (codes "CF")) i here)))
      (λ h. rw h refl)
  each i j (r ∷ rs) e results file =
      either (r.set == k)
      (λ h. let tail : List Stmt = sets_from k (j + 1) rs ++ file_sets k in
      let shape : (q : List ℕ) → behind q i j (r ∷ rs) ≡ first (sets_in q i (set j r ∷ tail)) = (λ q. rw h refl) in
      let here : facts.set_in k (result_name j) ≡ Some i =
      results j (omega arith) (omega arith) ∙ shape (result_name j) ∙ at_some _ (sets_in (result_name j) (i + 1) tail) i (is_where (result_name j) (result_name j) i (same_true (result_name j))) in
      rw h (past (ask_stmt facts Rule.E21 k i (set j r).kind) (ask_stmts facts Rule.E21 k (i + 1) tail) (first_one _ (facts.set_in k (result_name j)) i here)
      ∙ each (i + 1) (j + 1) rs (omega arith)
      (λ x a b. results x (omega arith) b ∙ shape (result_name x)
      ∙ past _ (sets_in (result_name x) (i + 1) tail) (is_nowhere (result_name x) (result_name j) i (other_number 67 x j (omega arith) (omega arith) (λ y. omega (arith, y, a)))))
      (file ∙ shape (codes "CF") ∙ past _ (sets_in (codes "CF") (i + 1) tail) (is_nowhere (codes "CF") (result_name j) i (no_number j (omega arith))))))
      (λ h. let shape : (q : List ℕ) → behind q i j (r ∷ rs) ≡ behind q i (j + 1) rs = (λ q. rw h refl) in
      rw h (each i (j + 1) rs (omega arith) (λ x a b. results x (omega arith) b ∙ shape (result_name x)) (file ∙ shape (codes "CF"))))

get_range : (make : ℕ → Block) (a c x : ℕ) → x < c → slice_get (map make (range_with_len a c)) x ≡ Some (make (a + x))
get_range make a zero x h = absurd (omega arith)
get_range make a (suc c) zero h = ap (λ k. Some (make k)) (omega arith)
get_range make a (suc c) (suc x) h = get_range make (a + 1) c x (omega arith) ∙ ap (λ k. Some (make k)) (omega arith)

-- the block of a later stage
later_at : (n k : ℕ) (rs : List Route) → 1 ≤ k → k < n → slice_get (all_blocks n rs) k ≡ Some (later_block rs k)
later_at n zero rs some h = absurd (omega arith)
later_at n (suc k) rs some h = get_range (later_block rs) 1 (n - 1) k (omega arith) ∙ ap (λ x. Some (later_block rs x)) (omega arith)

pub first_sets : (facts : Facts) (n k : ℕ) (rs : List Route) → facts.set_in ≡ first_set (all_blocks n rs) → length rs ≤ 35 → 1 ≤ k → k < n
    → first (ask_stmts facts Rule.E21 k 0 (later_stmts rs k)) ≡ None
first_sets facts n k rs e few some h =
    let from : (q : List ℕ) → facts.set_in k q ≡ first (sets_in q 0 (later_stmts rs k)) =
    (λ q. ap (λ f. f k q) e ∙ ap (λ o. first (sets_in q 0 (stmts_in o))) (later_at n k rs some h)) in
    each facts (length rs) k few 0 0 rs (omega arith) (λ x a b. from (result_name x)) (from (codes "CF"))
