-- A generated job obeys the rules E15 to E25, E34 and E35 of stages.
use Rattle.std.proofs.Common.{◌≡◌, ◌∙◌, ℕ, ◌+◌, ◌-◌, ◌<◌, ◌≤◌, ◌%◌, List, [], ◌∷◌, length, Option, None, Some, false, refl, ap, arith}
use Rattle.std.proofs.lemmas.Bool.{eq-eqb, lt-ltb, le-leb, ltb-true, leb-true, and_from, false_from_ne_true}
use Rattle.std.proofs.lemmas.List.FromFn.{length-map-range_with_len}
use Rattle.std.specs.Prelude.{◌&&◌, ◌==◌, not, nat_lt, nat_le, codes, is_some}
use Rattle.kp_base.{specs.First.first, specs.Check.answer, proofs.First.first_append_none}
use Rattle.kp_ast.specs.declared.tree.Job.{Job}
use Rattle.kp_stage.{specs.declared.rules.Rule.Rule, specs.Facts.At, specs.Facts.Facts, specs.Facts.facts_of, specs.Findings.broken_unless, proofs.Unbroken.none_found}
use Rattle.kp_stage.specs.declared.fault.StageFault.TheVariants as faults
use Rattle.kp_stage.specs.Rules.{ask_head, ask_name, is_at, holds_of, asked_at, asked_by, asked_by_rules, all_rules}
use Rattle.kp_gen.specs.declared.draws.Route.{Route}
use Rattle.kp_gen.specs.Generated.{place, register_name, pipe_name, result_name, read_name, later_block, all_blocks, job_of}
use Rattle.kp_gen.proofs.Finds.{AllFrom, all_both, Any, all_any, holding}
use Rattle.kp_gen.proofs.Walks.{results_alone, decls_unasked, puts_unasked, stmts_unasked, by_sets, rule_kept}
use Rattle.kp_gen.proofs.StageLookups.{no_hint, no_sample, results_found, file_result_found, stages_found, file_stage_found}
use Rattle.kp_gen.proofs.{Puts.puts_found, Puts.address_found, Puts.value_found, Puts.no_pipe, Puts.used_later, Puts.no_window, Sets.first_sets, Sets.first_one}
use Rattle.kp_gen.proofs.Asked.{no_pair, names_kept}

none_below : (o : Option ℕ) → holds_of (λ w. nat_lt w 0) o ≡ false
none_below None = refl
none_below (Some w) = false_from_ne_true (nat_lt w 0) (λ e. let h : w < 0 = ltb-true w 0 e in omega (arith, h))

-- the bounds of a choice: its result is set no later than it is written, in one of the n stages
pub record IsFine (n : ℕ) (r : Route) : Type 0 where
  pub some : 1 ≤ r.set
  pub order : r.set ≤ r.write
  pub within : r.write < n

module _ (n : ℕ) (rs : List Route) (least : 3 ≤ n) (most : n ≤ 12) (few : length rs ≤ 35) (fine : AllFrom (λ i r. IsFine n r) 0 rs) where
  abbrev m : ℕ
  m = length rs

  abbrev job : Job
  job = job_of n rs

  abbrev facts : Facts
  facts = facts_of job

  abbrev Kept : Rule → Type 0
  Kept rule = first (asked_at facts job rule) ≡ None

  head_kept : ask_head Rule.E15 job ≡ None
  unfolding job_of
  head_kept =
      let blocks : n ≤ length (all_blocks n rs) = rw (length-map-range_with_len (later_block rs) 1 (n - 1)) (omega arith) in
      holding (nat_le 2 n && nat_le n 12 && nat_le n (length (all_blocks n rs))) _
      (and_from (nat_le 2 n && nat_le n 12) (nat_le n (length (all_blocks n rs))) (and_from (nat_le 2 n) (nat_le n 12) (le-leb 2 n (omega (arith, least))) (le-leb n 12 most)) (le-leb n (length (all_blocks n rs)) blocks))

  here : {F : Type 0} (f : F) (o : Option At) (j : ℕ) → o ≡ Some (record { stage = 0; index = j }) → answer (holds_of (is_at 0 j) o) f ≡ None
  here f None j e = cc
  here f (Some at) j e =
      let s : at.stage ≡ 0 = cc in
      let i : at.index ≡ j = cc in
      holding (at.stage == 0 && at.index == j) f (and_from (at.stage == 0) (at.index == j) (eq-eqb at.stage 0 s) (eq-eqb at.index j i))

  there : {F : Type 0} (f : F) (o : Option At) (at : At) → o ≡ Some at → answer (is_some o) f ≡ None
  there f o at e = rw e refl

  put_early : (o : Option At) (j w : ℕ) → o ≡ Some (record { stage = 0; index = j }) → 0 < w → holds_of (λ (p : At). nat_le w p.stage) o ≡ false
  put_early None j w e h = cc
  put_early (Some at) j w e h = let s : at.stage ≡ 0 = cc in false_from_ne_true (nat_le w at.stage) (λ y. let l : w ≤ at.stage = leb-true w at.stage y in omega (arith, l, s, h))

  set_in_time : (o : Option ℕ) (k w : ℕ) → o ≡ Some w → k ≤ w → holds_of (λ x. nat_lt x k) o ≡ false
  set_in_time None k w e h = cc
  set_in_time (Some x) k w e h = let s : x ≡ w = cc in false_from_ne_true (nat_lt x k) (λ y. let l : x < k = ltb-true x k y in omega (arith, l, s, h))

  no_late : {F : Type 0} (f : F) (top w : ℕ) → top ≡ 0 → answer (nat_le top w) f ≡ None
  no_late f top w e = holding (nat_le top w) f (le-leb top w (omega (arith, e)))

  each_rule : (rule : Rule) → Kept rule
  unfolding job_of
  -- E15: stages exist
  each_rule Rule.E15 =
      rule_kept facts Rule.E15 (λ i r. IsFine n r) n rs fine (omega (arith, least)) head_kept
      (results_alone facts Rule.E15 (λ i r. IsFine n r) n rs fine (λ x i r. refl) (λ x. refl) (λ x p w. refl)
      (λ i r h f. holding (nat_lt r.write n) _ (lt-ltb r.write n f.within)) (holding (nat_lt (n - 1) n) _ (lt-ltb (n - 1) n (omega (arith, least)))))
      (stmts_unasked facts Rule.E15 (λ i r. IsFine n r) n rs fine
      (λ k ss h. holding (k == k && nat_lt k n) _ (and_from (k == k) (nat_lt k n) (eq-eqb k k refl) (lt-ltb k n h))) (λ k j s. refl))
  -- E16: each pipe is put once
  each_rule Rule.E16 =
      let Found : ℕ → Route → Type 0 = λ i r. facts.put (pipe_name i) ≡ Some (record { stage = 0; index = (m + 1) + i }) in
      let address = address_found n rs in
      let value = value_found n rs in
      rule_kept facts Rule.E16 Found n rs (puts_found n rs few) (omega (arith, least)) refl
      (record {
        before = record {
          registers = λ i r h f. refl;
          file_skipped = refl;
          pipes = λ i r h f. there _ (facts.put (pipe_name i)) (record { stage = 0; index = (m + 1) + i }) f;
          address = there _ (facts.put (codes "AF")) (record { stage = 0; index = (m + 1) + m }) address;
          value = there _ (facts.put (codes "VF")) (record { stage = 0; index = ((m + 1) + m) + 1 }) value;
        };
        results = λ i r h f. refl;
        file_result_kept = refl;
      })
      (record {
        numbers = λ k ss h. refl;
        reads = λ i r h f. refl;
        file_read_kept = refl;
        puts = λ i r h f. here _ (facts.put (pipe_name i)) ((m + 1) + i) f;
        address = here _ (facts.put (codes "AF")) ((m + 1) + m) address;
        value = here _ (facts.put (codes "VF")) (((m + 1) + m) + 1) value;
        later = by_sets facts Rule.E16 Found n rs (puts_found n rs few) (λ k i j r s h f e. refl) (λ i. refl);
      })
  -- E17: what is used in stage 0 is no pipe, and pipes are put before all later stages
  each_rule Rule.E17 =
      let free : (q : List ℕ) → facts.put q ≡ None → ask_name facts Rule.E17 0 q place ≡ None = (λ q e. none_found _ _ (facts.put q) place (ap (holds_of (λ (p : At). nat_le 0 p.stage)) e)) in
      rule_kept facts Rule.E17 Any n rs (all_any 0 rs) (omega (arith, least)) refl (decls_unasked facts Rule.E17 Any n rs (all_any 0 rs) (λ i d. refl))
      (names_kept facts Rule.E17 n rs (λ k ss h. refl) (λ k j s e g. no_pair _ _ e g) (λ i. free (read_name i) (no_pipe n rs (read_name i) (λ j. refl) refl refl)) (free (codes "f") (no_pipe n rs (codes "f") (λ j. refl) refl refl))
      (λ k q some. none_found _ _ (facts.put q) place (used_later n rs q k some)))
  -- E18: reads are in stage 0
  each_rule Rule.E18 =
      rule_kept facts Rule.E18 Any n rs (all_any 0 rs) (omega (arith, least)) refl (decls_unasked facts Rule.E18 Any n rs (all_any 0 rs) (λ i d. refl))
      (puts_unasked facts Rule.E18 Any n rs (all_any 0 rs) (λ k ss h. refl)
      (λ j q from a. none_found _ _ (facts.written from) place (none_below (facts.written from))) (λ j p e. refl)
      (by_sets facts Rule.E18 Any n rs (all_any 0 rs) (λ k i j r s h f e. refl) (λ i. refl)))
  -- E19: the address of the file's result is put in stage 0
  each_rule Rule.E19 =
      rule_kept facts Rule.E19 Any n rs (all_any 0 rs) (omega (arith, least)) refl
      (results_alone facts Rule.E19 Any n rs (all_any 0 rs) (λ x i r. refl) (λ x. refl) (λ x p w. refl) (λ i r h f. refl)
      (no_pair _ None (none_found _ _ (facts.put (codes "AF")) place (put_early (facts.put (codes "AF")) ((m + 1) + m) (n - 1) (address_found n rs) (omega (arith, least)))) refl))
      (stmts_unasked facts Rule.E19 Any n rs (all_any 0 rs) (λ k ss h. refl) (λ k j s. refl))
  -- E20: a result is set no later than it is written
  each_rule Rule.E20 =
      let Fits : ℕ → Route → Type 0 = λ i r. (facts.stage (result_name i) ≡ Some r.write) × IsFine n r in
      let fit : AllFrom Fits 0 rs = all_both (λ i r. facts.stage (result_name i) ≡ Some r.write) (λ i r. IsFine n r) 0 rs (stages_found n rs few) fine in
      rule_kept facts Rule.E20 Fits n rs fit (omega (arith, least)) refl (decls_unasked facts Rule.E20 Fits n rs fit (λ i d. refl))
      (puts_unasked facts Rule.E20 Fits n rs fit (λ k ss h. refl) (λ j q from a. refl) (λ j p e. refl)
      (by_sets facts Rule.E20 Fits n rs fit
      (λ k i j r s h f e. none_found _ _ (facts.stage (result_name j)) place
      (let order = f.1.order in set_in_time (facts.stage (result_name j)) k r.write f.0 (omega (arith, e, order))))
      (λ i. none_found _ _ (facts.stage (codes "CF")) place (set_in_time (facts.stage (codes "CF")) 1 (n - 1) (file_stage_found n rs few) (omega (arith, least))))))
  -- E21: a result is set once in a stage
  each_rule Rule.E21 =
      rule_kept facts Rule.E21 Any n rs (all_any 0 rs) (omega (arith, least)) refl (decls_unasked facts Rule.E21 Any n rs (all_any 0 rs) (λ i d. refl))
      (puts_unasked facts Rule.E21 Any n rs (all_any 0 rs) (λ k ss h. refl) (λ j q from a. refl) (λ j p e. refl) (λ k some within. first_sets facts n k rs refl few some within))
  -- E22: a target has one result
  each_rule Rule.E22 =
      let Found : ℕ → Route → Type 0 = λ i r. facts.result (register_name i) ≡ Some ((m + m + 3) + i) in
      rule_kept facts Rule.E22 Found n rs (results_found n rs few) (omega (arith, least)) refl
      (results_alone facts Rule.E22 Found n rs (results_found n rs few) (λ x i r. refl) (λ x. refl) (λ x p w. refl)
      (λ i r h f. first_one _ (facts.result (register_name i)) ((m + m + 3) + i) f) (first_one _ (facts.result (codes "F")) ((m + m + 3) + m) (file_result_found n rs few)))
      (stmts_unasked facts Rule.E22 Found n rs (results_found n rs few) (λ k ss h. refl) (λ k j s. refl))
  -- E23: nothing is guessed
  each_rule Rule.E23 =
      rule_kept facts Rule.E23 Any n rs (all_any 0 rs) (omega (arith, least)) refl (decls_unasked facts Rule.E23 Any n rs (all_any 0 rs) (λ i d. refl))
      (puts_unasked facts Rule.E23 Any n rs (all_any 0 rs) (λ k ss h. refl) (λ j q from a. refl) (λ j p e. refl) (by_sets facts Rule.E23 Any n rs (all_any 0 rs) (λ k i j r s h f e. refl) (λ i. refl)))
  -- E24: nothing is guessed, so there is no window
  each_rule Rule.E24 =
      rule_kept facts Rule.E24 Any n rs (all_any 0 rs) (omega (arith, least)) refl
      (results_alone facts Rule.E24 Any n rs (all_any 0 rs) (λ x i r. refl) (λ x. refl) (λ x p w. refl)
      (λ i r h f. no_late _ facts.top (r.write + 1) (no_window facts.written n rs)) (no_late _ facts.top ((n - 1) + 1) (no_window facts.written n rs)))
      (stmts_unasked facts Rule.E24 Any n rs (all_any 0 rs) (λ k ss h. refl) (λ k j s. refl))
  -- E25: no name is a hint
  each_rule Rule.E25 =
      let free : (k : ℕ) (q : List ℕ) → ask_name facts Rule.E25 k q place ≡ None = (λ k q. ap (λ (o : Option ℕ). broken_unless (not (is_some o)) faults.HintAsValue place) (no_hint n rs q)) in
      rule_kept facts Rule.E25 Any n rs (all_any 0 rs) (omega (arith, least)) refl (decls_unasked facts Rule.E25 Any n rs (all_any 0 rs) (λ i d. refl))
      (names_kept facts Rule.E25 n rs (λ k ss h. refl) (λ k j s e g. e) (λ i. free 0 (read_name i)) (free 0 (codes "f")) (λ k q some. free k q))
  -- E34, E35: there are no samples
  each_rule Rule.E34 =
      let free : (k : ℕ) (q : List ℕ) → ask_name facts Rule.E34 k q place ≡ None = (λ k q. none_found _ _ (facts.sample q) place (ap (holds_of (λ w. not (w == k))) (no_sample n rs q))) in
      rule_kept facts Rule.E34 Any n rs (all_any 0 rs) (omega (arith, least)) refl (decls_unasked facts Rule.E34 Any n rs (all_any 0 rs) (λ i d. refl))
      (names_kept facts Rule.E34 n rs (λ k ss h. refl) (λ k j s e g. no_pair _ _ e g) (λ i. free 0 (read_name i)) (free 0 (codes "f")) (λ k q some. free k q))
  each_rule Rule.E35 =
      rule_kept facts Rule.E35 Any n rs (all_any 0 rs) (omega (arith, least)) refl
      (results_alone facts Rule.E35 Any n rs (all_any 0 rs) (λ x i r. refl) (λ x. refl) (λ x p w. refl) (λ i r h f. refl) refl)
      (stmts_unasked facts Rule.E35 Any n rs (all_any 0 rs) (λ k ss h. refl) (λ k j s. refl))

  none_of : (rules : List Rule) → first (asked_by_rules facts job rules) ≡ None
  none_of [] = refl
  none_of (rule ∷ rules) = first_append_none (asked_at facts job rule) (asked_by_rules facts job rules) (each_rule rule) ∙ none_of rules

  pub rules_kept : first (asked_by facts job) ≡ None
  unfolding asked_by
  rules_kept = none_of all_rules
