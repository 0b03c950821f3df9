-- A stage of an accepted job, step by step: what the lists hold is what the statements have done.
use Rattle.std.proofs.Common.{◌≡◌, ◌∙◌, ℕ, List, Option, Some, None, true, false, not, length, refl, ap, sym, subst}
use Rattle.std.specs.Prelude.{is_some, slice_get, unwrap_or}
use Rattle.kp_bits.specs.Word.{Word}
use Rattle.kp_ast.specs.Expressions.{Env, eval, env_of, names_of, calls_of}
use Rattle.kp_ast.specs.{Checked.checked, Checked.checked_calls_of, declared.tree.Expr.Expr, declared.tree.Decl.Decl, declared.tree.Job.Job}
use Rattle.kp_ast.specs.Expressions as values
use Rattle.kp_ast.specs.declared.widths.Scope.TheVariants as scopes
use Rattle.kp_width.specs.Names.{Sense, Names, Scoped, look_up, find, is_value_in, is_callee, is_hint}
use Rattle.kp_width.{specs.Expressions.width_of, specs.Widths.widths_of, proofs.Unbroken.Unbroken, proofs.Found.Found, proofs.Found.Meets, proofs.Found.found}
use Rattle.kp_stage.specs.{Facts.Facts, Facts.facts_of, Rules.ask_name, Rules.ask_expr, Rules.all_rules}
use Rattle.kp_machine.specs.Trees.{Progress}
use Rattle.kp_machine.proofs.Text.{same_question, is_local, is_bound, value_kind, local_no, found_where, no_hint, text, placed, calls_open}
use Rattle.kp_seq.specs.inner.{Names.held, Tables.Laid, Steps.Under, Steps.known_in, Steps.word_in, Steps.zero_bit, Ready.AreTables}

module _ (job : Job) (unbroken : Unbroken (widths_of job)) (t : Laid) (tables : AreTables job t) (rule : _) (is25 : slice_get all_rules 10 ≡ Some rule) where
  abbrev pub ds : List Decl
  ds = job.decls

  abbrev pub facts : Facts
  facts = facts_of job

  -- what holds before a statement of stage k: the names in scope have their values
  pub record Named (k : ℕ) (s : Scoped) (done : Progress) (u : Under) : Type 0 where
    pub of_text : s.text ≡ text job unbroken
    pub here : s.here ≡ scopes.Stage k
    pub locals : (q : List ℕ) (m : Sense) → look_up s.local q ≡ Some m → is_local m.kind ≡ true
    pub same : (q : List ℕ) → held t.names u.names q ≡ values.look_up done.names q
    pub known : (q : List ℕ) (m : Sense) → find s q ≡ Some m → is_bound m.kind ≡ true → Found m.width (values.look_up done.names q) (names_of done.names q)
    pub only : (q : List ℕ) → find s q ≡ None → values.look_up done.names q ≡ None

  module _ (k : ℕ) (s : Scoped) (done : Progress) (u : Under) (named : Named k s done u) where
    in_text : (q : List ℕ) (m : Sense) → look_up s.text q ≡ Some m → look_up (text job unbroken) q ≡ Some m
    in_text q m e = ap (λ (names : Names). look_up names q) (sym named.of_text) ∙ e

    hint_is : (q : List ℕ) (m : Sense) → find s q ≡ Some m → is_hint m.kind ≡ true → is_some (facts.hint q) ≡ true
    hint_is q m e h = found_where s q m e
        (λ l. local_no is_hint refl refl m.kind (named.locals q m l) h)
        (λ none f. (placed job unbroken q m (in_text q m f)).hint h 0)

    found_as : (w : ℕ) (o p : Option Word) (v : Word) → o ≡ p → Found w p v → Found w o v
    found_as w o p v e h = record { there = e ∙ h.there; has = h.has }

    pub meets : Meets job.decls s (known_in t u) (env_of job.decls done.names) (ask_name facts rule k)
    meets = record {
      names = λ q m at e value free. value_kind k m.kind (subst (λ x. is_value_in x m.kind ≡ true) named.here value)
          (λ b. found_as m.width (held t.names u.names q) (values.look_up done.names q) (names_of done.names q) (named.same q) (named.known q m e b))
          (λ h. let n : not (is_some (facts.hint q)) ≡ true = no_hint facts rule k q at is25 free in
          let y : not (is_some (facts.hint q)) ≡ false = ap not (hint_is q m e h) in let z : true ≡ false = sym n ∙ y in cc);
      calls = λ q m e callee vs args. found_where s q m e
          (λ l. local_no is_callee refl refl m.kind (named.locals q m l) callee)
          (λ none f. subst (λ xs. Found m.width (checked_calls_of xs q vs) (calls_of job.decls q vs)) (sym tables.decls) ((calls_open job unbroken).fits.calls_fit q m (in_text q m f) callee vs args));
    }

    -- the value of an expression that violates no rule is found, and it is the expression's value
    pub value_found : (e : Expr) → ask_expr facts rule k e ≡ None → Unbroken (width_of job.decls (length job.decls) s e)
        → Found (width_of job.decls (length job.decls) s e).value (checked (known_in t u) e) (eval (env_of job.decls done.names) e)
    value_found e free right = found job.decls (length job.decls) s (known_in t u) (env_of job.decls done.names) (ask_name facts rule k) meets e (same_question facts rule k e ∙ free) right

    pub word_is : (e : Expr) → ask_expr facts rule k e ≡ None → Unbroken (width_of job.decls (length job.decls) s e) → word_in t u e ≡ eval (env_of job.decls done.names) e
    word_is e free right = ap (λ o. unwrap_or o zero_bit) (value_found e free right).there
