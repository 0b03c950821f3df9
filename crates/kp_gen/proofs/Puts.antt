-- The stage in which the pipes of a generated job are put: stage 0 for all.
use Rattle.std.proofs.Common.{◌≡◌, ◌∙◌, ℕ, zero, suc, ◌+◌, ◌-◌, ◌<◌, ◌≤◌, List, [], ◌∷◌, ◌++◌, length, map, Option, None, Some, Bool, true, false, cond, refl, ap, arith, append_assoc}
use Rattle.std.proofs.lemmas.Bool.{leb-true, false_from_ne_true}
use Rattle.std.specs.{Prelude.◌==◌, Prelude.codes, Prelude.nat_le, Prelude.max, List.range_with_len}
use Rattle.kp_base.specs.First.{first}
use Rattle.kp_ast.specs.{Expressions.is_same_name, declared.tree.Stmt.Stmt, declared.tree.StmtKind.StmtKind}
use Rattle.kp_ast.specs.declared.tree.StmtKind.TheVariants as stmts
use Rattle.kp_stage.specs.{Facts.At, Facts.put_at, Facts.puts_in, Facts.puts_of, Facts.guessed, Facts.largest_in, Facts.largest, Rules.holds_of}
use Rattle.kp_gen.specs.declared.draws.Route.{Route}
use Rattle.kp_gen.specs.Generated.{pipe_name, file_read, address_put, value_put, file_sets, for_each, sets_from, first_stmts, later_stmts, later_block, all_blocks}
use Rattle.kp_gen.proofs.{Forms.put, Lookups.other_number, Lookups.same_true, StageLookups.is_where, StageLookups.is_nowhere}
use Rattle.kp_gen.proofs.Finds.{AllFrom, Any, all_any, past, past_one, each_found, no_more, to_puts, to_last_puts}
use Rattle.kp_gen.proofs.Items.{Each, each_first, each_later}

-- later stages put nothing
no_puts : (q : List ℕ) (k i : ℕ) (ss : List Stmt) → Each (λ s. (i : ℕ) → put_at q k i s.kind ≡ None) ss → first (puts_in q k i ss) ≡ None
no_puts q k i [] all = refl
no_puts q k i (s ∷ ss) all = past (put_at q k i s.kind) (puts_in q k (i + 1) ss) (all.0 i) ∙ no_puts q k (i + 1) ss all.1

later_puts : (q : List ℕ) (k c : ℕ) (rs : List Route) → first (puts_of q k (map (later_block rs) (range_with_len k c))) ≡ None
later_puts q k zero rs = refl
later_puts q k (suc c) rs =
    no_more (first (puts_in q k 0 (later_stmts rs k))) (puts_of q (k + 1) (map (later_block rs) (range_with_len (k + 1) c))) (later_puts q (k + 1) c rs)
    ∙ no_puts q k 0 (later_stmts rs k) (each_later (λ s. (i : ℕ) → put_at q k i s.kind ≡ None) (λ j r i. refl) (λ i. refl) rs k)

abbrev ask : List ℕ → ℕ → Stmt → Option At
ask q j s = put_at q 0 j s.kind

abbrev asks : List ℕ → ℕ → List Stmt → List (Option At)
asks q j ss = puts_in q 0 j ss

-- what is put in stage 0 is put before stage k
module _ (q : List ℕ) (k : ℕ) (some : 1 ≤ k) where
  abbrev Early : Option At → Type 0
  Early o = holds_of (λ (p : At). nat_le k p.stage) o ≡ false

  early_or : (b : Bool) (j : ℕ) (more : List (Option At)) → Early (first more) → Early (first (cond b (Some (record { stage = 0; index = j })) None ∷ more))
  early_or true j more h = false_from_ne_true (nat_le k 0) (λ e. let l : k ≤ 0 = leb-true k 0 e in omega (arith, l, some))
  early_or false j more h = h

  early_at : (j : ℕ) (s : StmtKind) (more : List (Option At)) → Early (first more) → Early (first (put_at q 0 j s ∷ more))
  early_at j (stmts.Put name e) more h = early_or (is_same_name q name.name) j more h
  early_at j x more h = h

  early : (j : ℕ) (ss : List Stmt) → Early (first (asks q j ss))
  early j [] = refl
  early j (s ∷ ss) = early_at j s.kind (asks q (j + 1) ss) (early (j + 1) ss)

module _ (n : ℕ) (rs : List Route) where
  abbrev m : ℕ
  m = length rs

  -- the first put of a pipe
  abbrev fact : List ℕ → Option At
  fact q = first (puts_of q 0 (all_blocks n rs))

  in_first : (q : List ℕ) → fact q ≡ first (asks q 0 (first_stmts rs))
  in_first q =
      no_more (first (puts_in q 0 0 (first_stmts rs))) (puts_of q 1 (map (later_block rs) (range_with_len 1 (n - 1)))) (later_puts q 1 (n - 1) rs)

  at_last : (q : List ℕ) → ((i : ℕ) (r : Route) → i < m → ask q ((m + 1) + i) (put m i r) ≡ None) → fact q ≡ first (asks q ((m + 1) + m) (address_put ∷ value_put ∷ []))
  at_last q none = in_first q ∙ to_last_puts ask asks (λ q i d ds. refl) Any rs (all_any 0 rs) q (λ i r h a. refl) refl (λ i r h a. none i r h)

  -- the pipes of registers
  pub puts_found : m ≤ 35 → AllFrom (λ i r. fact (pipe_name i) ≡ Some (record { stage = 0; index = (m + 1) + i })) 0 rs
  puts_found few =
      each_found ask asks (λ q i d ds. refl) pipe_name (put m) (λ i r. record { stage = 0; index = (m + 1) + i }) m (m + 1)
      (λ i r h. is_where (pipe_name i) (pipe_name i) (record { stage = 0; index = (m + 1) + i }) (same_true (pipe_name i)))
      (λ x i j r h l. is_nowhere (pipe_name i) (pipe_name j) (record { stage = 0; index = x }) (other_number 80 i j (omega arith) (omega arith) (λ e. omega (arith, e, h))))
      fact 0 rs (address_put ∷ value_put ∷ []) (omega arith)
      (λ i h l. in_first (pipe_name i) ∙ to_puts ask asks (λ q i d ds. refl) Any rs (all_any 0 rs) (pipe_name i) (λ i r h a. refl) refl)

  -- the two others
  pub address_found : fact (codes "AF") ≡ Some (record { stage = 0; index = (m + 1) + m })
  address_found = at_last (codes "AF") (λ i r h. refl)

  pub value_found : fact (codes "VF") ≡ Some (record { stage = 0; index = ((m + 1) + m) + 1 })
  value_found = at_last (codes "VF") (λ i r h. refl)

  -- what is read is no pipe
  pub no_pipe : (q : List ℕ) → ((i : ℕ) → is_same_name q (pipe_name i) ≡ false) → is_same_name q (codes "AF") ≡ false → is_same_name q (codes "VF") ≡ false → fact q ≡ None
  no_pipe q others a v =
      at_last q (λ i r h. is_nowhere q (pipe_name i) (record { stage = 0; index = (m + 1) + i }) (others i))
      ∙ past_one ask asks (λ q i d ds. refl) q ((m + 1) + m) address_put (value_put ∷ []) (is_nowhere q (codes "AF") (record { stage = 0; index = (m + 1) + m }) a)
      ∙ past_one ask asks (λ q i d ds. refl) q (((m + 1) + m) + 1) value_put [] (is_nowhere q (codes "VF") (record { stage = 0; index = ((m + 1) + m) + 1 }) v)

  -- so a pipe may be used in each later stage
  pub used_later : (q : List ℕ) (k : ℕ) → 1 ≤ k → holds_of (λ (p : At). nat_le k p.stage) (fact q) ≡ false
  used_later q k some = rw (in_first q) (early q k some 0 (first_stmts rs))

-- Nothing is guessed.
module _ (written : List ℕ → Option ℕ) where
  abbrev NoGuess : Stmt → Type 0
  NoGuess s = guessed written s.kind ≡ 0

  none_guessed : (ss : List Stmt) → Each NoGuess ss → largest_in written 0 ss ≡ 0
  none_guessed [] all = refl
  none_guessed (s ∷ ss) all = ap (λ x. largest_in written (max 0 x) ss) all.0 ∙ none_guessed ss all.1

  none_in_later : (k c : ℕ) (rs : List Route) → largest written 0 (map (later_block rs) (range_with_len k c)) ≡ 0
  none_in_later k zero rs = refl
  none_in_later k (suc c) rs =
      ap (λ x. largest written x (map (later_block rs) (range_with_len (k + 1) c))) (none_guessed (later_stmts rs k) (each_later NoGuess (λ j r. refl) refl rs k)) ∙ none_in_later (k + 1) c rs

  pub no_window : (n : ℕ) (rs : List Route) → largest written 0 (all_blocks n rs) ≡ 0
  no_window n rs =
      ap (λ x. largest written x (map (later_block rs) (range_with_len 1 (n - 1)))) (none_guessed (first_stmts rs) (each_first NoGuess rs (λ i r. refl) refl (λ i r. refl) refl refl)) ∙ none_in_later 1 (n - 1) rs
