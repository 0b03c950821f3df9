-- The statements of a generated job obey a rule of names if the names in them do.
use Rattle.std.proofs.Common.{◌≡◌, ◌∙◌, ℕ, ◌+◌, ◌%◌, List, [], ◌∷◌, None, refl, ◌<◌, ◌≤◌, length, arith}
use Rattle.std.specs.Prelude.{codes}
use Rattle.kp_base.specs.{First.first, declared.place.Place.Place}
use Rattle.kp_bits.specs.declared.operator.BinOp.{BinOp}
use Rattle.kp_ast.specs.declared.tree.{Expr.Expr, Stmt.Stmt, StmtKind.StmtKind}
use Rattle.kp_ast.proofs.Levels.{fold-Lit, fold-Name, fold-Binary, fold-Slice}
use Rattle.kp_stage.specs.{declared.rules.Rule.Rule, Facts.Facts, Findings.Answer}
use Rattle.kp_stage.specs.Rules.{ask_name, ask_expr, ask_kind, ask_level, ask_values, ask_block, ask_stmt, ask_guesses}
use Rattle.kp_gen.specs.Generated.{place, name, number, binary, low_byte, read_name, pipe_name, set, file_read, address_put, value_put, file_set, block}
use Rattle.kp_gen.{specs.declared.draws.Route.Route, proofs.Forms.read, proofs.Forms.put, proofs.Finds.Any, proofs.Finds.all_any}
use Rattle.kp_gen.proofs.Walks.{KeepStmts, by_sets}

pub no_pair : (a b : Answer) → a ≡ None → b ≡ None → first (a ∷ b ∷ []) ≡ None
no_pair a b e f = rw (e, f) refl

module _ (facts : Facts) (rule : Rule) (k : ℕ) where
  abbrev Keeps : List ℕ → Type 0
  Keeps q = ask_name facts rule k q place ≡ None

  abbrev asked : Expr → Answer
  asked = ask_expr facts rule k

  no_name : (q : List ℕ) → Keeps q → asked (name q) ≡ None
  no_name q e = fold-Name (Place → Answer) Answer (ask_kind facts rule k) ask_level place q ∙ e

  no_byte : (q : List ℕ) → Keeps q → asked (low_byte q) ≡ None
  no_byte q e = fold-Slice (Place → Answer) Answer (ask_kind facts rule k) ask_level place (name q) 7 0 ∙ no_name q e

  no_number : (w v : ℕ) → asked (number w v) ≡ None
  no_number w v = fold-Lit (Place → Answer) Answer (ask_kind facts rule k) ask_level place (record { width = w; value = v })

  no_binary : (op : BinOp) (a b : Expr) → asked a ≡ None → asked b ≡ None → asked (binary op a b) ≡ None
  no_binary op a b e f = fold-Binary (Place → Answer) Answer (ask_kind facts rule k) ask_level place op a b ∙ no_pair (asked a) (asked b) e f

  in_file_read : Keeps (read_name 1) → ask_values facts rule k file_read.kind ≡ None
  in_file_read e = no_pair (asked (low_byte (read_name 1))) None (no_byte (read_name 1) e) refl

  in_put : (m i : ℕ) (r : Route) → Keeps (read_name i) → Keeps (read_name ((i + 1) % m)) → ask_values facts rule k (put m i r).kind ≡ None
  in_put m i r e f = no_binary BinOp.Add (name (read_name i)) (name (read_name ((i + 1) % m))) (no_name (read_name i) e) (no_name (read_name ((i + 1) % m)) f)

  in_address_put : Keeps (read_name 0) → ask_values facts rule k address_put.kind ≡ None
  in_address_put e = no_byte (read_name 0) e

  in_value_put : Keeps (codes "f") → ask_values facts rule k value_put.kind ≡ None
  in_value_put e = no_name (codes "f") e

  in_set : (j : ℕ) (r : Route) → Keeps (pipe_name j) → Keeps (pipe_name r.other) → ask_values facts rule k (set j r).kind ≡ None
  in_set j r e f =
      no_pair (asked (binary BinOp.Xor (name (pipe_name j)) (binary BinOp.Shl (name (pipe_name r.other)) (number 1 1)))) None
      (no_binary BinOp.Xor (name (pipe_name j)) (binary BinOp.Shl (name (pipe_name r.other)) (number 1 1)) (no_name (pipe_name j) e)
      (no_binary BinOp.Shl (name (pipe_name r.other)) (number 1 1) (no_name (pipe_name r.other) f) (no_number 1 1))) refl

  in_file_set : Keeps (pipe_name 0) → Keeps (codes "VF") → ask_values facts rule k file_set.kind ≡ None
  in_file_set e f =
      no_pair (asked (binary BinOp.Add (name (pipe_name 0)) (name (codes "VF")))) None
      (no_binary BinOp.Add (name (pipe_name 0)) (name (codes "VF")) (no_name (pipe_name 0) e) (no_name (codes "VF") f)) refl

-- A rule of names alone: no name that a statement has violates it.
pub names_kept : (facts : Facts) (rule : Rule) (n : ℕ) (rs : List Route) → ((k : ℕ) (ss : List Stmt) → k < n → ask_block facts rule k (block k ss) ≡ None)
    → ((k j : ℕ) (s : StmtKind) → ask_values facts rule k s ≡ None → ask_guesses facts rule k s ≡ None → ask_stmt facts rule k j s ≡ None)
    → ((i : ℕ) → Keeps facts rule 0 (read_name i)) → Keeps facts rule 0 (codes "f") → ((k : ℕ) (q : List ℕ) → 1 ≤ k → Keeps facts rule k q) → KeepStmts facts rule Any n rs (all_any 0 rs)
names_kept facts rule n rs numbers one reads f late =
    let m = length rs in
    record {
      numbers = numbers;
      reads = λ i r h a. one 0 (0 + i) (read i r).kind refl refl;
      file_read_kept = one 0 (0 + m) file_read.kind (in_file_read facts rule 0 (reads 1)) refl;
      puts = λ i r h a. one 0 ((m + 1) + i) (put m i r).kind (in_put facts rule 0 m i r (reads i) (reads ((i + 1) % m))) refl;
      address = one 0 ((m + 1) + m) address_put.kind (in_address_put facts rule 0 (reads 0)) refl;
      value = one 0 (((m + 1) + m) + 1) value_put.kind (in_value_put facts rule 0 f) refl;
      later = by_sets facts rule Any n rs (all_any 0 rs)
          (λ k i j r s h a e. one k i (set j r).kind (in_set facts rule k j r (late k (pipe_name j) s) (late k (pipe_name r.other) s)) refl)
          (λ i. one 1 i file_set.kind (in_file_set facts rule 1 (late 1 (pipe_name 0) (omega arith)) (late 1 (codes "VF") (omega arith))) refl);
    }
