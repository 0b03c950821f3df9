-- The value of an expression in a stage, provided that the nodes of the names have their values.
use Rattle.std.proofs.Common.{◌≡◌, ◌∙◌, ℕ, ◌<◌, List, [], ◌∷◌, ◌++◌, length, Option, Some, None, Bool, true, false, cond, not, refl, ap, sym, subst}
use Rattle.std.specs.{Prelude.is_some, Prelude.unwrap_or, Option.option_map}
use Rattle.kp_bits.specs.{Word.Word, Word.IsWord, Operators.no_word}
use Rattle.kp_ast.specs.Expressions.{Env, eval, env_of, names_of, calls_of, is_same_name}
use Rattle.kp_ast.specs.{Checked.checked, Checked.checked_calls_of, declared.tree.Expr.Expr, declared.tree.Job.Job, declared.widths.NameKind.NameKind}
use Rattle.kp_ast.specs.Expressions as values
use Rattle.kp_ast.specs.declared.widths.Scope.TheVariants as scopes
use Rattle.kp_ast.specs.declared.widths.NameKind.TheVariants as kinds
use Rattle.kp_width.specs.Names.{Sense, Names, Scoped, look_up, find, is_value_in, is_callee, is_hint}
use Rattle.kp_width.specs.{Expressions.width_of, Expressions.params_of, Widths.widths_of, Soundness.HasWidth, Soundness.AreArguments}
use Rattle.kp_width.proofs.{Unbroken.Unbroken, Calls.is_of_text, Found.Found, Found.Meets, Found.found, Found.no_question, Found.no_answer}
use Rattle.kp_stage.specs.{Facts.facts_of, declared.rules.Rule.Rule, Rules.ask_name, Rules.ask_expr}
use Rattle.kp_machine.{specs.Slots.hints_of, specs.Slots.words_of, proofs.Scopes.Placed}
use Rattle.kp_machine.proofs.Text.{local_no, found_where, no_hint, same_question, placed, calls_open}
use Rattle.kp_net.specs.{declared.node.NodeId.NodeId, Nodes.Cells, Nodes.word_at, Nodes.at, Widths.wide, Widths.AllRight, Growth.Held, Growth.Wire}
use Rattle.kp_net.proofs.Values.{word_is, word_wide, at_fits}
use Rattle.kp_build.proofs.Fitting.{no_cells}
use Rattle.kp_build.specs.Names.{Scope, node_of, word_of, known_at, IsSound, Gives}
use Rattle.kp_synth_stage.specs.Scopes.{declared, scope_at, is_bound, is_value, Binds, Bound}
use Rattle.kp_synth_stage.proofs.Scoping.{scope_text, scope_here, scope_locals}
use Rattle.kp_synth_stage.specs.inner.Standing as work

-- what a name of the text names
pub placed_in : (job : Job) → Unbroken (widths_of job) → (q : List ℕ) (m : Sense) → look_up (declared job).text q ≡ Some m → Placed job.decls q m
placed_in job u q m e = placed job u q m e

pub text_kind : (job : Job) → Unbroken (widths_of job) → (q : List ℕ) (m : Sense) → look_up (declared job).text q ≡ Some m → is_of_text m.kind ≡ true
text_kind job u q m e = (calls_open job u).fits.of_text q m e

-- a node of a width has a word of it
pub wire_word : (c : Cells) (p : Held) (n : NodeId) (w : ℕ) → AllRight p.nodes → Wire p n w → HasWidth w (word_at c p.nodes n.0)
unfolding wide
wire_word c p n w right h =
    let r = right n.0 h.inside in
    let e = word_is c p.nodes n.0 h.inside in
    let f = at_fits c p.nodes n.0 h.inside in
    record {
      word = subst IsWord (sym e) (record { positive = r.positive; at_most = r.at_most; fits = f });
      width = ap (λ (x : Word). x.width) e ∙ h.wide;
    }

value_is : (k : ℕ) (kind : NameKind) → is_value_in (scopes.Stage k) kind ≡ true → is_value kind ≡ true
value_is k kinds.Pipe e = refl
value_is k kinds.Sample e = refl
value_is k kinds.Read e = refl
value_is k kinds.Let e = refl
value_is k kinds.Hint e = refl
value_is k _ e = cc

bound_or_hint : {G : Type 0} (kind : NameKind) → is_value kind ≡ true → (is_bound kind ≡ true → G) → (is_hint kind ≡ true → G) → G
bound_or_hint kinds.Pipe e bound hint = bound refl
bound_or_hint kinds.Sample e bound hint = bound refl
bound_or_hint kinds.Read e bound hint = bound refl
bound_or_hint kinds.Let e bound hint = bound refl
bound_or_hint kinds.Hint e bound hint = hint refl
bound_or_hint _ e bound hint = cc

-- a name that has a node has its word
node_word : (c : Cells) (p : Held) (w : ℕ) (o : Option NodeId) → AllRight p.nodes → Binds p w o
    → (n : NodeId) × (o ≡ Some n) × HasWidth w (word_at c p.nodes n.0)
node_word c p w None right h = absurd h
node_word c p w (Some n) right h = (n, refl, wire_word c p n w right h)

-- the first of two lists of values that has a name counts
look_first : (a b : values.Values) (q : List ℕ) (w : Word) → values.look_up a q ≡ Some w → values.look_up (a ++ b) q ≡ Some w
look_first [] b q w e = cc
look_first ((n, v) ∷ a) b q w e = by (is_same_name q n) (look_first a b q w) e
  where
    by : (t : Bool) → (values.look_up a q ≡ Some w → values.look_up (a ++ b) q ≡ Some w) → cond t (Some v) (values.look_up a q) ≡ Some w → cond t (Some v) (values.look_up (a ++ b) q) ≡ Some w
    by true go f = f
    by false go f = go f

look_second : (a b : values.Values) (q : List ℕ) → values.look_up a q ≡ None → values.look_up (a ++ b) q ≡ values.look_up b q
look_second [] b q e = refl
look_second ((n, v) ∷ a) b q e = by (is_same_name q n) (look_second a b q) e
  where
    by : (t : Bool) → (values.look_up a q ≡ None → values.look_up (a ++ b) q ≡ values.look_up b q) → cond t (Some v) (values.look_up a q) ≡ None → cond t (Some v) (values.look_up (a ++ b) q) ≡ values.look_up b q
    by true go f = cc
    by false go f = go f

module _ (job : Job) (unbroken : Unbroken (widths_of job)) (k j : ℕ) (p : Held) (env : Scope) (right : AllRight p.nodes) (bound : Bound job (scope_at job k j) p env) (c : Cells) where
  abbrev s : Scoped
  s = scope_at job k j

  in_text : (q : List ℕ) (m : Sense) → look_up s.text q ≡ Some m → look_up (declared job).text q ≡ Some m
  in_text q m e = ap (λ (names : Names). look_up names q) (sym (scope_text job k j)) ∙ e

  word_there : (q : List ℕ) (m : Sense) → find s q ≡ Some m → is_value m.kind ≡ true → (v : Word) × (word_of c p env q ≡ Some v) × HasWidth m.width v
  unfolding word_of
  word_there q m e b =
      let r = node_word c p m.width (node_of env.names q) right (bound.bound q m e b) in
      (word_at c p.nodes r.0.0, ap (option_map (λ n. word_at c p.nodes n.0)) r.1, r.2)

  calls_found : (q : List ℕ) (m : Sense) → find s q ≡ Some m → is_callee m.kind ≡ true → (vs : List Word) → AreArguments (params_of job.decls m.from) vs → Found m.width (checked_calls_of env.decls q vs) (calls_of job.decls q vs)
  calls_found q m e callee vs args = found_where s q m e
      (λ l. local_no is_callee refl refl m.kind (scope_locals job k j q m l) callee)
      (λ none f. subst (λ xs. Found m.width (checked_calls_of xs q vs) (calls_of job.decls q vs)) (sym bound.decls)
      ((calls_open job unbroken).fits.calls_fit q m (in_text q m f) callee vs args))

  -- by the words of the nodes themselves
  abbrev env_here : Env
  env_here = record { names = λ q. unwrap_or (word_of c p env q) no_word; calls = calls_of job.decls }

  static : Meets job.decls s (known_at c p env) env_here no_question
  static = record {
    names = λ q m at e value free.
        let r = word_there q m e (value_is k m.kind (subst (λ x. is_value_in x m.kind ≡ true) (scope_here job k j) value)) in
        let v : r.0 ≡ unwrap_or (word_of c p env q) no_word = sym (ap (λ o. unwrap_or o no_word) r.1) in
        record { there = r.1 ∙ ap Some v; has = subst (HasWidth m.width) v r.2 };
    calls = calls_found;
  }

  pub static_found : (e : Expr) → Unbroken (width_of job.decls (length job.decls) s e) → Found (width_of job.decls (length job.decls) s e).value (checked (known_at c p env) e) (eval env_here e)
  static_found e u = found job.decls (length job.decls) s (known_at c p env) env_here no_question static e (no_answer e) u

  module _ (hints : ℕ → ℕ) (known : values.Values) (names : work.Names job (scope_at job k j) hints c p env known) where
    hint_is : (q : List ℕ) (m : Sense) → find s q ≡ Some m → is_hint m.kind ≡ true → is_some ((facts_of job).hint q) ≡ true
    hint_is q m e h = found_where s q m e
        (λ l. local_no is_hint refl refl m.kind (scope_locals job k j q m l) h)
        (λ none f. (placed job unbroken q m (in_text q m f)).hint h 0)

    bound_found : (q : List ℕ) (m : Sense) → find s q ≡ Some m → is_value m.kind ≡ true → (vs : values.Values) → word_of c p env q ≡ values.look_up vs q
        → Found m.width (word_of c p env q) (names_of vs q)
    bound_found q m e b vs same =
        let r = word_there q m e b in
        let v : r.0 ≡ names_of vs q = sym (ap (λ o. unwrap_or o no_word) (sym same ∙ r.1)) in
        record { there = r.1 ∙ ap Some v; has = subst (HasWidth m.width) v r.2 }

    plain : Meets job.decls s (known_at c p env) (env_of job.decls known) (ask_name (facts_of job) Rule.E25 k)
    plain = record {
      names = λ q m at e value free.
          let b = value_is k m.kind (subst (λ x. is_value_in x m.kind ≡ true) (scope_here job k j) value) in
          bound_or_hint m.kind b
          (λ y. bound_found q m e b known (names.names q m e y))
          (λ h. let n : not (is_some ((facts_of job).hint q)) ≡ true = no_hint (facts_of job) Rule.E25 k q at refl free in
          let y : not (is_some ((facts_of job).hint q)) ≡ false = ap not (hint_is q m e h) in let z : true ≡ false = sym n ∙ y in cc);
      calls = calls_found;
    }

    -- an expression that names no hint
    pub plain_found : (e : Expr) → ask_expr (facts_of job) Rule.E25 k e ≡ None → Unbroken (width_of job.decls (length job.decls) s e)
        → Found (width_of job.decls (length job.decls) s e).value (checked (known_at c p env) e) (eval (env_of job.decls known) e)
    plain_found e free u = found job.decls (length job.decls) s (known_at c p env) (env_of job.decls known) (ask_name (facts_of job) Rule.E25 k) plain e (same_question (facts_of job) Rule.E25 k e ∙ free) u

    abbrev hinted : values.Values
    hinted = known ++ words_of (hints_of job.decls) hints

    with_hints : Meets job.decls s (known_at c p env) (env_of job.decls hinted) no_question
    with_hints = record {
      names = λ q m at e value free.
          let b = value_is k m.kind (subst (λ x. is_value_in x m.kind ≡ true) (scope_here job k j) value) in
          bound_or_hint m.kind b
          (λ y.
          let r = word_there q m e b in
          let f = look_first known (words_of (hints_of job.decls) hints) q r.0 (sym (names.names q m e y) ∙ r.1) in
          bound_found q m e b hinted (r.1 ∙ sym f))
          (λ h. bound_found q m e b hinted (names.hints q m e h ∙ sym (look_second known (words_of (hints_of job.decls) hints) q (names.plain q m e h))));
      calls = calls_found;
    }

    -- a guess, or what is aimed at a hint
    pub hinted_found : (e : Expr) → Unbroken (width_of job.decls (length job.decls) s e)
        → Found (width_of job.decls (length job.decls) s e).value (checked (known_at c p env) e) (eval (env_of job.decls hinted) e)
    hinted_found e u = found job.decls (length job.decls) s (known_at c p env) (env_of job.decls hinted) no_question with_hints e (no_answer e) u

module _ (job : Job) (unbroken : Unbroken (widths_of job)) (k j : ℕ) (p : Held) (env : Scope) (right : AllRight p.nodes) (bound : Bound job (scope_at job k j) p env) (e : Expr) (u : Unbroken (width_of job.decls (length job.decls) (scope_at job k j) e)) where
  -- an expression that keeps the rules has a value whatever the cells hold, and a node that has it has its width
  pub sound_here : IsSound p env e
  unfolding IsSound
  sound_here = λ c. ap is_some (static_found job unbroken k j p env right bound c e u).there

  pub gives_wire : (q : Held) (n : NodeId) → n.0 < length q.nodes → Gives p env e q n → Wire q n (width_of job.decls (length job.decls) (scope_at job k j) e).value
  unfolding Gives
  gives_wire q n inside g =
      let f = static_found job unbroken k j p env right bound no_cells e u in
      let same = sym f.there ∙ g no_cells in
      record { inside = inside; wide = sym (word_wide no_cells q.nodes n.0 inside) ∙ ap (λ (o : Option Word). (unwrap_or o no_word).width) (sym same) ∙ f.has.width }

-- the word of a node that has the value
pub gives_is : (c : Cells) (p : Held) (env : Scope) (e : Expr) (q : Held) (n : NodeId) (v : Word) → Gives p env e q n → checked (known_at c p env) e ≡ Some v → word_at c q.nodes n.0 ≡ v
unfolding Gives
gives_is c p env e q n v g is = let f : Some (word_at c q.nodes n.0) ≡ Some v = sym (g c) ∙ is in cc
