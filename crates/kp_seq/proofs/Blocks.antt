-- The statements of a stage, in order.
use Rattle.std.proofs.Common.{◌≡◌, ◌∙◌, ℕ, ◌+◌, List, [], ◌∷◌, Option, Some, None, Bool, true, false, cond, not, length, refl, ap, sym, subst}
use Rattle.std.{proofs.lemmas.List.Quantifiers.position-Some, specs.Option.option_map}
use Rattle.std.specs.{Prelude.is_some, Prelude.slice_get, Prelude.unwrap_or, Prelude.◌<◌, List.position}
use Rattle.kp_base.specs.{Check.ok, Check.◌>>=◌, First.first}
use Rattle.kp_ast.specs.{Expressions.is_same_name, declared.tree.StmtKind.StmtKind, declared.tree.ResultDecl.ResultDecl, declared.tree.Job.Job}
use Rattle.kp_ast.specs.declared.tree.Stmt.{Stmt}
use Rattle.kp_ast.specs.Expressions as values
use Rattle.kp_ast.specs.declared.tree.StmtKind.TheVariants as stmts
use Rattle.kp_ast.specs.declared.widths.NameKind.TheVariants as kinds
use Rattle.kp_width.specs.Names.{Sense, sense, Scoped, find, look_up, or_else, is_pipe, is_result, declared_local}
use Rattle.kp_width.specs.declared.fault.Position.{Position}
use Rattle.kp_width.specs.{Expressions.width_of, Statements.when_of, Statements.given, Statements.read_of, Statements.statement_of, Statements.statements_of}
use Rattle.kp_width.{specs.Widths.widths_of, proofs.Unbroken.Unbroken, proofs.Unbroken.bind_unbroken, proofs.Unbroken.answer_unbroken}
use Rattle.kp_width.proofs.Found.{Found, none_of_two}
use Rattle.kp_stage.specs.{Facts.facts_of, Rules.ask_expr, Rules.ask_option, Rules.ask_values, Rules.ask_stmt, Rules.ask_stmts, Rules.all_rules}
use Rattle.kp_stage.proofs.Unbroken.{first_none}
use Rattle.kp_pipeline.specs.Sequential.{Instruction}
use Rattle.kp_machine.specs.{Slots.targets_of, Slots.result_named, Trees.Progress}
use Rattle.kp_machine.{proofs.Scopes.fresh_none, proofs.Scopes.look_last, proofs.Scopes.find_none, specs.Words.state_in}
use Rattle.kp_machine.specs.Trees as trees
use Rattle.kp_seq.specs.inner.{Names.held, Tables.Laid, Steps.Under, Steps.holds, Steps.word_in, Steps.with_result, Steps.after_stmt, Steps.after_stmts}
use Rattle.kp_seq.{specs.inner.Fits.FitSlots, specs.inner.Ready.AreTables, proofs.Lengths.stmt_same, proofs.Stage.Named, proofs.Trees.next, proofs.Trees.nexts}
use Rattle.kp_seq.proofs.{Turns.holds_same, Turns.let_turn, Gives.Lists, Gives.put_turn, Gives.set_turn, Reading.read_turn, Plain.within}

module _ (job : Job) (unbroken : Unbroken (widths_of job)) (t : Laid) (tables : AreTables job t) (rule : _) (is25 : slice_get all_rules 10 ≡ Some rule) (k : ℕ) (words : List (List ℕ)) (fit : FitSlots (targets_of job.decls) words) (c : Instruction) where
  -- what holds before a statement
  pub record Before (s : Scoped) (done : Progress) (u : Under) : Type 0 where
    pub named : Named job unbroken t tables rule is25 k s done u
    pub lists : Lists job.decls c done u
    pub places : length u.names ≡ length t.names

  -- a name that a statement declares has an index
  abbrev pub HasPlace : List ℕ → Type 0
  HasPlace q = (i : ℕ) × (position (is_same_name q) t.names ≡ Some i)

  result_names : (u : Under) (o : Option ResultDecl) (v : ℕ) → (with_result t u o v).names ≡ u.names
  result_names u None v = refl
  result_names u (Some r) v = refl

  set_names : (done : Progress) (o : Option ResultDecl) (v : ℕ) → (trees.with_set job.decls done o v).names ≡ done.names
  set_names done None v = refl
  set_names done (Some r) v = refl

  -- the effect of a set if its condition holds, and that nothing changes if it is false
  set_by : (b d : Bool) (s : Scoped) (done more : Progress) (u v : Under) → b ≡ d → Before s done u → Lists job.decls c more v → v.names ≡ u.names → more.names ≡ done.names
      → Before s (cond d more done) (cond b v u)
  set_by true true s done more u v e h l n m = record {
    named = record {
      of_text = h.named.of_text;
      here = h.named.here;
      locals = h.named.locals;
      same = λ q. ap (λ xs. held t.names xs q) n ∙ h.named.same q ∙ sym (ap (λ xs. values.look_up xs q) m);
      known = λ q x f g. subst (λ xs. Found x.width (values.look_up xs q) (values.names_of xs q)) (sym m) (h.named.known q x f g);
      only = λ q f. ap (λ xs. values.look_up xs q) m ∙ h.named.only q f;
    };
    lists = l;
    places = ap length n ∙ h.places;
  }
  set_by false false s done more u v e h l n m = h
  set_by true false s done more u v e h l n m = cc
  set_by false true s done more u v e h l n m = cc

  -- the index of a name that a statement declares
  place_in : (u : Under) (q : List ℕ) → length u.names ≡ length t.names → (i : HasPlace q) → i.0 < length u.names
  place_in u q n i = within i.0 (length t.names) (length u.names) (position-Some (is_same_name q) t.names i.0 [] i.1).0 n

  declared_there : (s : Scoped) (n : List ℕ) (m : Sense) → find s n ≡ None → is_some (find (declared_local s n m) n) ≡ true
  declared_there s n m e = ap (λ o. is_some (or_else o (look_up s.text n))) (look_last s.local n m (find_none s n e).0)

  -- a statement
  pub one_turn : (s : Scoped) (done : Progress) (u : Under) (x : StmtKind) → Before s done u → ask_values (facts_of job) rule k x ≡ None → Unbroken (statement_of job.decls s x)
      → ((q : List ℕ) → find s q ≡ None → is_some (find (statement_of job.decls s x).value q) ≡ true → HasPlace q)
      → Before (statement_of job.decls s x).value (next job.decls (state_in words) done x) (after_stmt t words u x)
  one_turn s done u (stmts.Read r) h free right key =
      let new = fresh_none (find s r.name.name) (answer_unbroken (not (is_some (find s r.name.name))) _ (read_of job.decls s r >>= (λ w. ok (declared_local s r.name.name (sense kinds.Read w 0)))).asked right).0 in
      let i = key r.name.name new (declared_there s r.name.name _ new) in
      record {
        named = read_turn job unbroken t tables rule is25 k s done u h.named words fit r i.0 free right (h.named.only r.name.name new) i.1 (place_in u r.name.name h.places i);
        lists = record { pipes = h.lists.pipes; results = h.lists.results; pipe_fits = h.lists.pipe_fits; result_fits = h.lists.result_fits; pipe_count = h.lists.pipe_count; result_count = h.lists.result_count };
        places = (stmt_same t words u (stmts.Read r)).names ∙ h.places;
      }
  one_turn s done u (stmts.Let n e) h free right key =
      let new = fresh_none (find s n.name) (answer_unbroken (not (is_some (find s n.name))) _ (width_of job.decls (length job.decls) s e >>= (λ w. ok (declared_local s n.name (sense kinds.Let w 0)))).asked right).0 in
      let i = key n.name new (declared_there s n.name _ new) in
      record {
        named = let_turn job unbroken t tables rule is25 k s done u h.named n e i.0 free right (h.named.only n.name new) i.1 (place_in u n.name h.places i);
        lists = record { pipes = h.lists.pipes; results = h.lists.results; pipe_fits = h.lists.pipe_fits; result_fits = h.lists.result_fits; pipe_count = h.lists.pipe_count; result_count = h.lists.result_count };
        places = (stmt_same t words u (stmts.Let n e)).names ∙ h.places;
      }
  one_turn s done u (stmts.Put n e) h free right key = record {
    named = record { of_text = h.named.of_text; here = h.named.here; locals = h.named.locals; same = h.named.same; known = h.named.known; only = h.named.only };
    lists = put_turn job unbroken t tables rule is25 k s done u h.named c h.lists n e free (bind_unbroken (given job.decls s Position.Pipe n e) (λ y. ok s) right).0;
    places = h.places;
  }
  one_turn s done u (stmts.Set n e when) h free right key =
      let b = none_of_two (ask_expr (facts_of job) rule k e) (ask_option (facts_of job) rule k when) free in
      let x = bind_unbroken (given job.decls s Position.Result n e) (λ y. when_of job.decls s when >>= (λ z. ok s)) right in
      let w = (bind_unbroken (when_of job.decls s when) (λ z. ok s) x.1).0 in
      let v = trees.value_of job.decls done e in
      set_by (holds t u when) (trees.holds job.decls done when) s done (trees.with_set job.decls done (result_named job.decls n.name) v) u (with_result t u (result_named t.decls n.name) (word_in t u e).value)
      (holds_same job unbroken t tables rule is25 k s done u h.named when b.1 w) h
      (set_turn job unbroken t tables rule is25 k s done u h.named c h.lists n e b.0 x.0)
      (result_names u (result_named t.decls n.name) (word_in t u e).value) (set_names done (result_named job.decls n.name) v)
  one_turn s done u (stmts.Aim n e) h free right key = record {
    named = record { of_text = h.named.of_text; here = h.named.here; locals = h.named.locals; same = h.named.same; known = h.named.known; only = h.named.only };
    lists = record { pipes = h.lists.pipes; results = h.lists.results; pipe_fits = h.lists.pipe_fits; result_fits = h.lists.result_fits; pipe_count = h.lists.pipe_count; result_count = h.lists.result_count };
    places = h.places;
  }

  -- the last rule checks the names in a statement's values
  pub values_free : (j : ℕ) (x : StmtKind) → ask_stmt (facts_of job) rule k j x ≡ None → ask_values (facts_of job) rule k x ≡ None
  values_free j x e =
      sym (ap (λ o. unwrap_or (option_map (λ r. ask_values (facts_of job) r k x) o) None) is25)
      ∙ ap (λ o. unwrap_or (option_map (λ r. ask_stmt (facts_of job) r k j x) o) None) is25
      ∙ e

  -- each name that these statements declare has an index
  abbrev pub Keyed : Scoped → List Stmt → Type 0
  Keyed s [] = Unit {0}
  Keyed s (x ∷ xs) =
      ((q : List ℕ) → find s q ≡ None → is_some (find (statement_of job.decls s x.kind).value q) ≡ true → HasPlace q)
      × Keyed (statement_of job.decls s x.kind).value xs

  -- the statements of a stage, from the one of number j on
  pub all_turn : (s : Scoped) (done : Progress) (u : Under) (j : ℕ) (xs : List Stmt) → Before s done u → first (ask_stmts (facts_of job) rule k j xs) ≡ None
      → Unbroken (statements_of job.decls s xs) → Keyed s xs
      → Before (statements_of job.decls s xs).value (nexts job.decls (state_in words) done xs) (after_stmts t words u xs)
  all_turn s done u j [] h free right keys = h
  all_turn s done u j (x ∷ xs) h free right keys =
      let f = first_none (ask_stmt (facts_of job) rule k j x.kind) (ask_stmts (facts_of job) rule k (j + 1) xs) free in
      let r = bind_unbroken (statement_of job.decls s x.kind) (λ z. statements_of job.decls z xs) right in
      all_turn (statement_of job.decls s x.kind).value (next job.decls (state_in words) done x.kind) (after_stmt t words u x.kind) (j + 1) xs
      (one_turn s done u x.kind h (values_free j x.kind f.0) r.0 keys.0) f.1 r.1 keys.1
