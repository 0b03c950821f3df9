-- The tree of a stage is one for progress that agrees on the names that its statements use.
use Rattle.std.proofs.Common.{◌≡◌, ◌∙◌, ℕ, List, [], ◌∷◌, ◌++◌, Option, Some, None, Bool, true, cond, eqb, refl, ap, sym}
use Rattle.std.{proofs.lemmas.Bool.or_left, proofs.lemmas.Bool.or_right, proofs.lemmas.List.Folds.list_any-append, specs.Prelude.unwrap_or, specs.List.list_any}
use Rattle.kp_bits.specs.{Word.Word, Operators.no_word}
use Rattle.kp_ast.specs.{Expressions.Values, Expressions.look_up, Expressions.eval, Expressions.env_of, declared.tree.Expr.Expr}
use Rattle.kp_ast.specs.declared.tree.{ReadStmt.ReadStmt, ResultDecl.ResultDecl, Decl.Decl, Stmt.Stmt, StmtKind.StmtKind}
use Rattle.kp_ast.specs.declared.tree.StmtKind.TheVariants as stmts
use Rattle.kp_stage.{specs.Uses.listed, specs.Uses.exprs_in, specs.Uses.uses, proofs.Names.same_value}
use Rattle.kp_pipeline.specs.{Machine.Tree, Machine.Done, Machine.Ask, Machine.Guess, Sequential.first_value}
use Rattle.kp_machine.specs.Trees.{Progress, holds, address_of, value_of, value_with_hints, with_value, with_name, with_set, word_of, word_read, read_of, statement_of, tree_of}
use Rattle.kp_machine.specs.Slots.{targets_of, pipes_of, hints_of, number_of, words_of, result_named}
use Rattle.kp_machine.proofs.LookUp.{or_else, look_up-append}

module _ (test : List ℕ → Bool) where
  -- values that are alike for the names that pass the test
  abbrev pub Alike : Values → Values → Type 0
  Alike v w = (n : List ℕ) → test n ≡ true → look_up v n ≡ look_up w n

  pub alike_append : (v w x y : Values) → Alike v w → Alike x y → Alike (v ++ x) (w ++ y)
  alike_append v w x y f g n own = look_up-append v x n ∙ (λ i. or_else (f n own i) (g n own i)) ∙ sym (look_up-append w y n)

  -- what was done is one, but for the names that fail the test
  pub record Matches (d e : Progress) : Type 0 where
    pub names : Alike d.names e.names
    pub puts : d.puts ≡ e.puts
    pub sets : d.sets ≡ e.sets
    pub aims : d.aims ≡ e.aims

  with_name_matches : (d e : Progress) (n : List ℕ) (x y : Word) → Matches d e → x ≡ y → Matches (with_name d n x) (with_name e n y)
  with_name_matches d e n x y h same = record {
    names = alike_append d.names e.names ((n, x) ∷ []) ((n, y) ∷ []) h.names (λ m own i. look_up ((n, same i) ∷ []) m);
    puts = h.puts;
    sets = h.sets;
    aims = h.aims;
  }

  with_set_matches : (ds : List Decl) (d e : Progress) (o : Option ResultDecl) (x y : ℕ) → Matches d e → x ≡ y → Matches (with_set ds d o x) (with_set ds e o y)
  with_set_matches ds d e None x y h same = h
  with_set_matches ds d e (Some r) x y h same = record {
    names = h.names;
    puts = h.puts;
    sets = λ i t. first_value (h.sets i t) (with_value (number_of (targets_of ds) r.target.name) (same i) (λ u. None) t);
    aims = h.aims;
  }

  -- expressions whose names pass
  abbrev Passes : Expr → Type 0
  Passes x = (n : List ℕ) → uses n x ≡ true → test n ≡ true

  abbrev AllPass : List Expr → Type 0
  AllPass xs = (n : List ℕ) → list_any (uses n) xs ≡ true → test n ≡ true

  head_passes : (x : Expr) (xs : List Expr) → AllPass (x ∷ xs) → Passes x
  head_passes x xs h n u = h n (or_left (uses n x) (list_any (uses n) xs) u)

  front_pass : (xs ys : List Expr) → AllPass (xs ++ ys) → AllPass xs
  front_pass xs ys h n u = h n (list_any-append (uses n) xs ys ∙ or_left (list_any (uses n) xs) (list_any (uses n) ys) u)

  back_pass : (xs ys : List Expr) → AllPass (xs ++ ys) → AllPass ys
  back_pass xs ys h n u = h n (list_any-append (uses n) xs ys ∙ or_right (list_any (uses n) xs) (list_any (uses n) ys) u)

  module _ (ds : List Decl) where
    word_same : (v w : Values) → Alike v w → (x : Expr) → Passes x → eval (env_of ds v) x ≡ eval (env_of ds w) x
    word_same v w h x own = same_value (env_of ds v) (env_of ds w) (λ q args. refl) x (λ n u. ap (λ o. unwrap_or o no_word) (h n (own n u)))

    module _ (d e : Progress) (h : Matches d e) where
      value_same : (x : Expr) → Passes x → value_of ds d x ≡ value_of ds e x
      value_same x own = ap (λ (z : Word). z.value) (word_same d.names e.names h.names x own)

      hinted_same : (x : Expr) → Passes x → (hints : ℕ → ℕ) → value_with_hints ds d x hints ≡ value_with_hints ds e x hints
      hinted_same x own hints =
          let q = words_of (hints_of ds) hints in
          ap (λ (z : Word). z.value) (word_same (d.names ++ q) (e.names ++ q) (alike_append d.names e.names q q h.names (λ m o. refl)) x own)

      holds_same : (o : Option Expr) → AllPass (listed o) → holds ds d o ≡ holds ds e o
      holds_same None own = refl
      holds_same (Some x) own = ap (λ v. eqb v 1) (value_same x (head_passes x [] own))

      address_same : (o : Option Expr) → AllPass (listed o) → address_of ds d o ≡ address_of ds e o
      address_same None own = refl
      address_same (Some x) own = value_same x (head_passes x [] own)

      read_same : (r : ReadStmt) (o : Option Expr) (f g : ℕ → Tree) → AllPass (listed r.address) → AllPass (listed o) → ((v : ℕ) → f v ≡ g v) → read_of ds d r o f ≡ read_of ds e r o g
      read_same r None f g address own same = λ i. Ask (number_of (targets_of ds) r.target.name) (address_same r.address address i) (λ v. same v i)
      read_same r (Some x) f g address own same =
          λ i. Guess (number_of (targets_of ds) r.target.name) (λ hints. hinted_same x (head_passes x [] own) hints i) (λ v. same v i)

      -- a statement leaves one tree
      statement_same : (s : StmtKind) (rest : Progress → Tree) → AllPass (exprs_in s) → ((x y : Progress) → Matches x y → rest x ≡ rest y)
          → statement_of ds d s rest ≡ statement_of ds e s rest
      statement_same (stmts.Read r) rest own go =
          let plain = front_pass (listed r.address ++ listed r.when) (listed r.guess) own in
          let next : (v : ℕ) → rest (with_name d r.name.name (word_read ds r v)) ≡ rest (with_name e r.name.name (word_read ds r v)) =
          λ v. go _ _ (with_name_matches d e r.name.name (word_read ds r v) (word_read ds r v) h refl) in
          let read = read_same r r.guess (λ v. rest (with_name d r.name.name (word_read ds r v))) (λ v. rest (with_name e r.name.name (word_read ds r v)))
          (front_pass (listed r.address) (listed r.when) plain) (back_pass (listed r.address ++ listed r.when) (listed r.guess) own) next in
          λ i. cond (holds_same r.when (back_pass (listed r.address) (listed r.when) plain) i) (read i) (next 0 i)
      statement_same (stmts.Let n x) rest own go = go _ _ (with_name_matches d e n.name (word_of ds d x) (word_of ds e x) h (word_same d.names e.names h.names x (head_passes x [] own)))
      statement_same (stmts.Put n x) rest own go =
          let same = value_same x (head_passes x [] own) in
          go _ _ (record { names = h.names; puts = λ i. with_value (number_of (pipes_of ds) n.name) (same i) (h.puts i); sets = h.sets; aims = h.aims })
      statement_same (stmts.Set n x when) rest own go =
          let all = front_pass (x ∷ listed when) [] own in
          let then_so = go _ _ (with_set_matches ds d e (result_named ds n.name) (value_of ds d x) (value_of ds e x) h (value_same x (head_passes x (listed when) all))) in
          λ i. cond (holds_same when (back_pass (x ∷ []) (listed when) all) i) (then_so i) (go d e h i)
      statement_same (stmts.Aim n x) rest own go =
          let same = hinted_same x (head_passes x [] own) in
          go _ _ (record { names = h.names; puts = h.puts; sets = h.sets; aims = λ i hints. with_value (number_of (hints_of ds) n.name) (same hints i) (h.aims i hints) })

    pub tree_same : (d e : Progress) (ss : List Stmt) → Matches d e → ((n : List ℕ) → list_any (λ (s : Stmt). list_any (uses n) (exprs_in s.kind)) ss ≡ true → test n ≡ true)
        → tree_of ds d ss ≡ tree_of ds e ss
    tree_same d e [] h own = λ i. Done (h.puts i) (h.sets i) (h.aims i)
    tree_same d e (s ∷ ss) h own =
        statement_same d e h s.kind (λ next. tree_of ds next ss) (λ n u. own n (or_left (list_any (uses n) (exprs_in s.kind)) _ u))
        (λ x y z. tree_same x y ss z (λ n u. own n (or_right (list_any (uses n) (exprs_in s.kind)) _ u)))
