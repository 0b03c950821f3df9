-- A statement of a stage: what it does to the lists is what it does in the abstract machine.
use Rattle.std.proofs.Common.{◌≡◌, ◌∙◌, ℕ, ◌<◌, List, [], ◌∷◌, ◌++◌, Option, Some, None, true, false, cond, not, length, refl, ap, sym, subst}
use Rattle.std.specs.{Prelude.is_some, Prelude.slice_get, Prelude.unwrap_or, Prelude.◌==◌, List.position, Cmp.Lexicographic.bytes_decides}
use Rattle.kp_base.specs.{Check.ok, Check.◌>>=◌, Check.wants}
use Rattle.kp_bits.specs.{Word.Word, Operators.no_word}
use Rattle.kp_ast.specs.{Expressions.env_of, Expressions.names_of, Expressions.eval, Expressions.is_same_name, declared.tree.Expr.Expr, declared.tree.Job.Job}
use Rattle.kp_ast.specs.Expressions as values
use Rattle.kp_ast.specs.declared.tree.Named as tree
use Rattle.kp_ast.specs.declared.tree.StmtKind.TheVariants as stmts
use Rattle.kp_ast.specs.declared.widths.NameKind.TheVariants as kinds
use Rattle.kp_width.specs.Names.{Sense, sense, Names, Scoped, look_up, find, or_else, passed, declared_local}
use Rattle.kp_width.specs.declared.fault.WidthFault.TheVariants as faults
use Rattle.kp_width.specs.{Faults.found_at, declared.fault.Destination.Destination}
use Rattle.kp_width.specs.{Expressions.width_of, Expressions.part_of, Expressions.value_of, Declarations.kept, Statements.when_of, Widths.widths_of}
use Rattle.kp_width.{specs.Soundness.HasWidth, proofs.Unbroken.Unbroken, proofs.Unbroken.bind_unbroken, proofs.Unbroken.answer_unbroken}
use Rattle.kp_width.proofs.{Parts.given_parts, Calls.pushed}
use Rattle.kp_width.specs.Statements as statements
use Rattle.kp_stage.specs.{Facts.facts_of, Rules.ask_expr, Rules.ask_option, Rules.all_rules}
use Rattle.kp_machine.{specs.Trees.Progress, specs.Trees.with_name, proofs.Scopes.look_last, proofs.Scopes.fresh_none, proofs.Scopes.find_none}
use Rattle.kp_machine.proofs.{Cases.by_test, LookUp.look_up_end, Text.is_local}
use Rattle.kp_machine.specs.Trees as trees
use Rattle.kp_seq.specs.inner.{Tables.Laid, Steps.Under, Steps.word_in, Steps.holds, Steps.address_in, Ready.AreTables}
use Rattle.kp_seq.proofs.{Stage.Named, Stage.value_found, Stage.word_is, Binding.held_bound}
use Rattle.kp_seq.specs.inner.Steps as steps

look_past : (names : Names) (n q : List ℕ) (m : Sense) → is_same_name q n ≡ false → look_up (names ++ (n, m) ∷ []) q ≡ look_up names q
look_past [] n q m y = ap (λ b. cond b (Some m) None) y
look_past ((k, v) ∷ names) n q m y = ap (cond (is_same_name q k) (Some v)) (look_past names n q m y)

module _ (job : Job) (unbroken : Unbroken (widths_of job)) (t : Laid) (tables : AreTables job t) (rule : _) (is25 : slice_get all_rules 10 ≡ Some rule) (k : ℕ) (s : Scoped) (done : Progress) (u : Under) (now : Named job unbroken t tables rule is25 k s done u) where
  -- a condition and an address of the block are those of the abstract machine
  pub holds_same : (when : Option Expr) → ask_option (facts_of job) rule k when ≡ None → Unbroken (when_of job.decls s when) → holds t u when ≡ trees.holds job.decls done when
  holds_same None free right = refl
  holds_same (Some e) free right =
      let r = (bind_unbroken (width_of job.decls (length job.decls) s e) (λ x. wants (x == 1) (found_at (part_of job.decls (length job.decls) s e).at (faults.Condition x)) passed) right).0 in
      ap (λ (w : Word). w.value == 1) (word_is job unbroken t tables rule is25 k s done u now e free r)

  -- a name gets its value: a new one of the block
  pub name_bound : (n : List ℕ) (m : Sense) (w : Word) (i : ℕ) → is_local m.kind ≡ true → find s n ≡ None → values.look_up done.names n ≡ None
      → position (is_same_name n) t.names ≡ Some i → i < length u.names → HasWidth m.width w
      → Named job unbroken t tables rule is25 k (declared_local s n m) (with_name done n w) (steps.with_name t u n w)
  name_bound n m w i local new none place inside has = record {
    of_text = now.of_text;
    here = now.here;
    locals = λ q x e. pushed s.local n q m x (λ b. now.locals q x b) (λ z y is. ap (λ (v : Sense). is_local v.kind) (sym is) ∙ local) e;
    same = λ q. held_bound t.names u.names n w i place inside q ∙ ap (cond (is_same_name q n) (Some w)) (now.same q) ∙ sym (look_up_end done.names n q w none);
    known = λ q x e b. by_test (is_same_name q n)
        (λ y.
        let is : q ≡ n = (bytes_decides q n).0 y in
        let f : Some m ≡ Some x = sym (ap (λ o. or_else o (look_up s.text n)) (look_last s.local n m (find_none s n new).0)) ∙ ap (λ z. find (declared_local s n m) z) (sym is) ∙ e in
        let g : m ≡ x = cc in
        let o : values.look_up (done.names ++ (n, w) ∷ []) q ≡ Some w = look_up_end done.names n q w none ∙ ap (λ c. cond c (Some w) (values.look_up done.names q)) y in
        let v : w ≡ names_of (done.names ++ (n, w) ∷ []) q = sym (ap (λ z. unwrap_or z no_word) o) in
        record { there = o ∙ ap Some v; has = subst (λ (z : Sense). HasWidth z.width (names_of (done.names ++ (n, w) ∷ []) q)) g (subst (HasWidth m.width) v has) })
        (λ y.
        let f : find s q ≡ Some x = sym (ap (λ o. or_else o (look_up s.text q)) (look_past s.local n q m y)) ∙ e in
        let o : values.look_up (done.names ++ (n, w) ∷ []) q ≡ values.look_up done.names q = look_up_end done.names n q w none ∙ ap (λ c. cond c (Some w) (values.look_up done.names q)) y in
        let v : names_of (done.names ++ (n, w) ∷ []) q ≡ names_of done.names q = ap (λ z. unwrap_or z no_word) o in
        let h = now.known q x f b in
        record { there = o ∙ h.there ∙ ap Some (sym v); has = subst (HasWidth x.width) (sym v) h.has });
    only = λ q e. by_test (is_same_name q n)
        (λ y.
        let is : q ≡ n = (bytes_decides q n).0 y in
        let f : Some m ≡ None = sym (ap (λ o. or_else o (look_up s.text n)) (look_last s.local n m (find_none s n new).0)) ∙ ap (λ z. find (declared_local s n m) z) (sym is) ∙ e in cc)
        (λ y.
        let f : find s q ≡ None = sym (ap (λ o. or_else o (look_up s.text q)) (look_past s.local n q m y)) ∙ e in
        look_up_end done.names n q w none ∙ ap (λ c. cond c (Some w) (values.look_up done.names q)) y ∙ now.only q f);
  }

  -- the value of an expression that is given to something of this width
  pub given_fits : (e : Expr) (w : ℕ) (goes : Destination) → ask_expr (facts_of job) rule k e ≡ None → Unbroken (value_of (part_of job.decls (length job.decls) s e) w goes)
      → (word_in t u e ≡ trees.word_of job.decls done e) × HasWidth w (trees.word_of job.decls done e)
  given_fits e w goes free right =
      let g = given_parts job.decls (length job.decls) s e w goes right in
      let f = value_found job unbroken t tables rule is25 k s done u now e free g.0 in
      (word_is job unbroken t tables rule is25 k s done u now e free g.0, subst (λ n. HasWidth n (trees.word_of job.decls done e)) g.1 f.has)

  -- an address, which is as wide as the addresses of its file
  pub address_same : (address : Option Expr) (w file : ℕ) → ask_option (facts_of job) rule k address ≡ None
      → Unbroken (kept address (λ e. statements.address_of (part_of job.decls (length job.decls) s e) w file)) → address_in t u address ≡ trees.address_of job.decls done address
  address_same None w file free right = refl
  address_same (Some e) w file free right =
      let r = (bind_unbroken (width_of job.decls (length job.decls) s e) (λ x. wants (x == w) (found_at (part_of job.decls (length job.decls) s e).at (faults.Address x w file)) passed) right).0 in
      ap (λ (v : Word). v.value) (word_is job unbroken t tables rule is25 k s done u now e free r)

  -- a let binds a new name of the block to the value of its expression
  pub let_turn : (n : tree.Named) (e : Expr) (i : ℕ) → ask_expr (facts_of job) rule k e ≡ None → Unbroken (statements.statement_of job.decls s (stmts.Let n e))
      → values.look_up done.names n.name ≡ None → position (is_same_name n.name) t.names ≡ Some i → i < length u.names
      → Named job unbroken t tables rule is25 k (statements.statement_of job.decls s (stmts.Let n e)).value
      (with_name done n.name (trees.word_of job.decls done e)) (steps.with_name t u n.name (word_in t u e))
  let_turn n e i free right none place inside =
      let m : Sense = sense kinds.Let (width_of job.decls (length job.decls) s e).value 0 in
      let a = answer_unbroken (not (is_some (find s n.name))) _ (width_of job.decls (length job.decls) s e >>= (λ w. ok (declared_local s n.name (sense kinds.Let w 0)))).asked right in
      let r = (bind_unbroken (width_of job.decls (length job.decls) s e) (λ w. ok (declared_local s n.name (sense kinds.Let w 0))) a.1).0 in
      let f = value_found job unbroken t tables rule is25 k s done u now e free r in
      let same : word_in t u e ≡ trees.word_of job.decls done e = word_is job unbroken t tables rule is25 k s done u now e free r in
      subst (λ (w : Word). Named job unbroken t tables rule is25 k (declared_local s n.name m) (with_name done n.name (trees.word_of job.decls done e)) (steps.with_name t u n.name w)) (sym same)
      (name_bound n.name m (trees.word_of job.decls done e) i refl (fresh_none (find s n.name) a.0) none place inside f.has)
