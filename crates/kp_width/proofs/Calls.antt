-- The calls of the functions that are declared are found and keep widths: each function at arguments of its parameters' widths.
use Rattle.std.proofs.Common.{◌≡◌, ◌∙◌, ℕ, suc, ◌+◌, List, [], ◌∷◌, ◌++◌, Option, Some, None, Bool, true, false, cond, not, length, fold, nat_eq, refl, ap, sym, subst, arith, append-nil, append_assoc}
use Rattle.std.{proofs.lemmas.Bool.eq-eqb, specs.Prelude.slice_get, specs.Prelude.is_some, specs.Prelude.unwrap_or}
use Rattle.std.specs.Cmp.Lexicographic.{pointwise, bytes_decides}
use Rattle.kp_base.specs.{Check.ok, Check.◌>>=◌}
use Rattle.kp_bits.specs.{Word.Word, Operators.no_word}
use Rattle.kp_ast.specs.Expressions.{Env, Calls, names_of, arguments_of, is_function, calls_after, calls_of, no_calls, value_of_call}
use Rattle.kp_ast.specs.{Checked.Known, Checked.checked, Checked.checked_call, Checked.checked_calls_after, Checked.checked_calls_of, declared.tree.Param.Param}
use Rattle.kp_ast.specs.declared.{tree.FuncDecl.FuncDecl, tree.Decl.Decl, widths.NameKind.NameKind}
use Rattle.kp_ast.specs.Expressions as values
use Rattle.kp_ast.specs.declared.tree.Decl.TheVariants as decls
use Rattle.kp_ast.specs.declared.widths.Scope.TheVariants as scopes
use Rattle.kp_ast.specs.declared.widths.NameKind.TheVariants as kinds
use Rattle.kp_width.specs.declared.fault.Destination.TheVariants as to
use Rattle.kp_width.specs.Names.{Sense, sense, Names, Scoped, nothing, look_up, or_else, find, fresh, is_callee, is_value_in, declared_local, with_text}
use Rattle.kp_width.specs.Expressions.{params_of, params_in, part_of, width_at, value_of}
use Rattle.kp_width.specs.Declarations.{declared, parameters_of, function_opened, function_of, declaration_of, declarations_of, functions_in}
use Rattle.kp_width.specs.Soundness.{HasWidth, FitFrom, AreArguments}
use Rattle.kp_width.proofs.{Unbroken.Unbroken, Unbroken.bind_unbroken, Unbroken.answer_unbroken, Parts.given_parts}
use Rattle.kp_width.proofs.Found.{Found, Meets, found, no_question, no_answer}

pub by_test : {G : Type 0} (b : Bool) → (b ≡ true → G) → (b ≡ false → G) → G
by_test true then_so else_so = then_so refl
by_test false then_so else_so = else_so refl

pub by_option : {X G : Type 0} (o : Option X) → (o ≡ None → G) → ((x : X) → o ≡ Some x → G) → G
by_option None none some = none refl
by_option (Some x) none some = some x refl

-- a name that is looked up after one more was added is one of those before, or that one
pub pushed : {G : Type 0} (names : Names) (n q : List ℕ) (m x : Sense) → (look_up names q ≡ Some x → G) → (look_up names q ≡ None → q ≡ n → m ≡ x → G)
    → look_up (names ++ (n, m) ∷ []) q ≡ Some x → G
pushed [] n q m x before here e = by_test (pointwise nat_eq q n)
    (λ y. here refl ((bytes_decides q n).0 y) (let f : Some m ≡ Some x = ap (λ b. cond b (Some m) None) (sym y) ∙ e in cc))
    (λ y. let f : None ≡ Some x = ap (λ b. cond b (Some m) None) (sym y) ∙ e in cc)
pushed ((k, v) ∷ names) n q m x before here e = by_test (pointwise nat_eq q k)
    (λ y. before (ap (λ b. cond b (Some v) (look_up names q)) y ∙ sym (ap (λ b. cond b (Some v) (look_up (names ++ (n, m) ∷ []) q)) y) ∙ e))
    (λ y.
    let skip : look_up ((k, v) ∷ names) q ≡ look_up names q = ap (λ b. cond b (Some v) (look_up names q)) y in
    pushed names n q m x (λ h. before (skip ∙ h)) (λ h s t. here (skip ∙ h) s t)
    (sym (ap (λ b. cond b (Some v) (look_up (names ++ (n, m) ∷ []) q)) y) ∙ e))

-- a name of the text is none of a function or a block
abbrev pub is_of_text : NameKind → Bool
is_of_text kinds.Param = false
is_of_text kinds.Read = false
is_of_text kinds.Let = false
is_of_text _ = true

-- the senses that the parameters of a function have in it
abbrev pub senses : ℕ → List Param → Names
senses i [] = []
senses i (p ∷ ps) = (p.name.name, sense kinds.Param p.width.value i) ∷ senses i ps

pub parameters_text : (i : ℕ) (s : Scoped) (ps : List Param) → (parameters_of i s ps).value.text ≡ s.text
parameters_text i s [] = refl
parameters_text i s (p ∷ ps) = parameters_text i (declared_local s p.name.name (sense kinds.Param p.width.value i)) ps

pub parameters_here : (i : ℕ) (s : Scoped) (ps : List Param) → (parameters_of i s ps).value.here ≡ s.here
parameters_here i s [] = refl
parameters_here i s (p ∷ ps) = parameters_here i (declared_local s p.name.name (sense kinds.Param p.width.value i)) ps

pub parameters_local : (i : ℕ) (s : Scoped) (ps : List Param) → (parameters_of i s ps).value.local ≡ s.local ++ senses i ps
parameters_local i s [] = sym (append-nil s.local)
parameters_local i s (p ∷ ps) =
    let m : Sense = sense kinds.Param p.width.value i in
    parameters_local i (declared_local s p.name.name m) ps ∙ append_assoc s.local ((p.name.name, m) ∷ []) (senses i ps)

width_next : (p : Param) (ps : List Param) (i : ℕ) → width_at (p ∷ ps) (i + 1) ≡ width_at ps i
width_next p ps i = let e : i + 1 ≡ suc i = omega arith in ap (width_at (p ∷ ps)) e

fit_next : (p : Param) (ps : List Param) (i : ℕ) (vs : List Word) → FitFrom (p ∷ ps) (i + 1) vs → FitFrom ps i vs
fit_next p ps i [] h = tt
fit_next p ps i (v ∷ vs) h = (subst (λ w. HasWidth w v) (width_next p ps i) h.0, fit_next p ps (i + 1) vs h.1)

-- a parameter has the corresponding argument
parameter_fits : (i : ℕ) (ps : List Param) (vs : List Word) (q : List ℕ) (m : Sense) → length vs ≡ length ps → FitFrom ps 0 vs → look_up (senses i ps) q ≡ Some m
    → Found m.width (values.look_up (arguments_of ps vs) q) (names_of (arguments_of ps vs) q)
parameter_fits i [] vs q m n fit e = cc
parameter_fits i (p ∷ ps) [] q m n fit e = absurd (omega arith)
parameter_fits i (p ∷ ps) (v ∷ vs) q m n fit e =
    let own : Sense = sense kinds.Param p.width.value i in
    by_test (pointwise nat_eq q p.name.name)
    (λ y.
    let f : Some own ≡ Some m = ap (λ b. cond b (Some own) (look_up (senses i ps) q)) (sym y) ∙ e in
    let g : own ≡ m = cc in
    let o : values.look_up (arguments_of (p ∷ ps) (v ∷ vs)) q ≡ Some v = ap (λ b. cond b (Some v) (values.look_up (arguments_of ps vs) q)) y in
    let h : v ≡ names_of (arguments_of (p ∷ ps) (v ∷ vs)) q = sym (ap (λ x. unwrap_or x no_word) o) in
    subst (λ (x : Sense). Found x.width (values.look_up (arguments_of (p ∷ ps) (v ∷ vs)) q) (names_of (arguments_of (p ∷ ps) (v ∷ vs)) q)) g
    (record { there = o ∙ ap Some h; has = subst (λ (w : Word). HasWidth p.width.value w) h fit.0 }))
    (λ y.
    let f : look_up (senses i ps) q ≡ Some m = ap (λ b. cond b (Some own) (look_up (senses i ps) q)) (sym y) ∙ e in
    let o : values.look_up (arguments_of (p ∷ ps) (v ∷ vs)) q ≡ values.look_up (arguments_of ps vs) q = ap (λ b. cond b (Some v) (values.look_up (arguments_of ps vs) q)) y in
    let h : names_of (arguments_of (p ∷ ps) (v ∷ vs)) q ≡ names_of (arguments_of ps vs) q = ap (λ x. unwrap_or x no_word) o in
    let r = parameter_fits i ps vs q m (omega arith) (fit_next p ps 0 vs fit.1) f in
    record { there = o ∙ r.there ∙ ap Some (sym h); has = subst (λ (w : Word). HasWidth m.width w) (sym h) r.has })

sense_is_param : (i : ℕ) (ps : List Param) (q : List ℕ) (m : Sense) → look_up (senses i ps) q ≡ Some m → m.kind ≡ kinds.Param
sense_is_param i [] q m e = cc
sense_is_param i (p ∷ ps) q m e = by_test (pointwise nat_eq q p.name.name)
    (λ y.
    let own : Sense = sense kinds.Param p.width.value i in
    let f : Some own ≡ Some m = ap (λ b. cond b (Some own) (look_up (senses i ps) q)) (sym y) ∙ e in
    let g : own ≡ m = cc in
    ap (λ (x : Sense). x.kind) (sym g))
    (λ y. sense_is_param i ps q m (ap (λ b. cond b (Some (sense kinds.Param p.width.value i)) (look_up (senses i ps) q)) (sym y) ∙ e))

only_params : (k : ℕ) (kind : NameKind) → is_value_in (scopes.Function k) kind ≡ true → is_of_text kind ≡ true → {G : Type 0} → G
only_params k kinds.Param e f = cc
only_params k x e f = cc

-- what is known of calls
abbrev pub Knowns : Type 0
Knowns = List ℕ → List Word → Option Word

module _ (ds : List Decl) where
  -- a call of this name at fitting arguments has a word of its width
  abbrev pub CallFits : Knowns → Calls → List ℕ → Sense → Type 0
  CallFits known calls q m = is_callee m.kind ≡ true → (vs : List Word) → AreArguments (params_of ds m.from) vs → Found m.width (known q vs) (calls q vs)

  -- so are all calls of names of the text
  pub record TextFits (known : Knowns) (calls : Calls) (text : Names) : Type 0 where
    pub calls_fit : (q : List ℕ) (m : Sense) → look_up text q ≡ Some m → CallFits known calls q m
    pub of_text : (q : List ℕ) (m : Sense) → look_up text q ≡ Some m → is_of_text m.kind ≡ true

  -- a name that is no function
  plain : (known : Knowns) (calls : Calls) (text : Names) (n : List ℕ) (m : Sense) → TextFits known calls text → is_callee m.kind ≡ false → is_of_text m.kind ≡ true → TextFits known calls (text ++ (n, m) ∷ [])
  plain known calls text n m h callee of_text = record {
    calls_fit = λ q x e. pushed text n q m x (λ b. h.calls_fit q x b) (λ none s is k vs fit. let c : is_callee m.kind ≡ true = ap (λ (y : Sense). is_callee y.kind) is ∙ k in cc) e;
    of_text = λ q x e. pushed text n q m x (λ b. h.of_text q x b) (λ none s is. ap (λ (y : Sense). is_of_text y.kind) (sym is) ∙ of_text) e;
  }

  -- the scope for the rest of the text
  pub record Open (known : Knowns) (calls : Calls) (s : Scoped) : Type 0 where
    pub local : s.local ≡ []
    pub fits : TextFits known calls s.text

  -- a function's body has a word of its width if its parameters have
  module _ (known : Knowns) (calls : Calls) (s : Scoped) (open_here : Open known calls s) (i k : ℕ) (f : FuncDecl) (here : slice_get ds i ≡ Some (decls.Func f)) where
    abbrev body_scope : Scoped
    body_scope = (parameters_of i (function_opened s k f) f.params).value

    body_text : body_scope.text ≡ s.text
    body_text = parameters_text i (function_opened s k f) f.params

    body_local : body_scope.local ≡ senses i f.params
    body_local = parameters_local i (function_opened s k f) f.params

    body_here : body_scope.here ≡ scopes.Function k
    body_here = parameters_here i (function_opened s k f) f.params

    find_is : (q : List ℕ) → find body_scope q ≡ or_else (look_up (senses i f.params) q) (look_up s.text q)
    find_is q = ap (λ (l : Names). or_else (look_up l q) (look_up body_scope.text q)) body_local ∙ ap (λ (l : Names). or_else (look_up (senses i f.params) q) (look_up l q)) body_text

    found_one : {G : Type 0} (q : List ℕ) (m : Sense) → find body_scope q ≡ Some m → (look_up (senses i f.params) q ≡ Some m → G) → (look_up s.text q ≡ Some m → G) → G
    found_one q m e param text = by_option (look_up (senses i f.params) q)
        (λ none. text (sym (ap (λ o. or_else o (look_up s.text q)) none) ∙ sym (find_is q) ∙ e))
        (λ x some. param (some ∙ sym (ap (λ o. or_else o (look_up s.text q)) some) ∙ sym (find_is q) ∙ e))

    abbrev env_at : List Word → Env
    env_at vs = record { names = names_of (arguments_of f.params vs); calls = calls }

    abbrev pub known_at : List Word → Known
    known_at vs = record { names = values.look_up (arguments_of f.params vs); calls = known }

    body_meets : (vs : List Word) → AreArguments f.params vs → Meets ds body_scope (known_at vs) (env_at vs) no_question
    body_meets vs h = record {
      names = λ q m at e value free. found_one q m e
          (λ p. parameter_fits i f.params vs q m h.count h.fit p)
          (λ t. only_params k m.kind (subst (λ x. is_value_in x m.kind ≡ true) body_here value) (open_here.fits.of_text q m t));
      calls = λ q m e callee. found_one q m e
          (λ p. let c : is_callee kinds.Param ≡ true = subst (λ x. is_callee x ≡ true) (sense_is_param i f.params q m p) callee in cc)
          (λ t. open_here.fits.calls_fit q m t callee);
    }

    body_found : Unbroken (function_of ds i k s f) → (vs : List Word) → AreArguments f.params vs → Found f.width.value (checked_call known (decls.Func f) vs) (value_of_call calls f vs)
    body_found u vs h =
        let ps = bind_unbroken (parameters_of i (function_opened s k f) f.params)
        (λ t. declared f.width >>= (λ w. value_of (part_of ds i t f.body) w (to.Body i) >>= (λ x. ok (with_text t f.name.name (sense kinds.Func w i))))) u in
        let ws = bind_unbroken (declared f.width) (λ w. value_of (part_of ds i body_scope f.body) w (to.Body i) >>= (λ x. ok (with_text body_scope f.name.name (sense kinds.Func w i)))) ps.1 in
        let b = given_parts ds i body_scope f.body f.width.value (to.Body i) (bind_unbroken (value_of (part_of ds i body_scope f.body) f.width.value (to.Body i)) (λ x. ok (with_text body_scope f.name.name (sense kinds.Func f.width.value i))) ws.1).0 in
        let v = found ds i body_scope (known_at vs) (env_at vs) no_question (body_meets vs h) f.body (no_answer f.body) b.0 in
        record {
          there = ap (λ x. cond x (checked (known_at vs) f.body) None) (eq-eqb (length vs) (length f.params) h.count) ∙ v.there;
          has = subst (λ w. HasWidth w (value_of_call calls f vs)) b.1 v.has;
        }

    params_here : params_of ds i ≡ f.params
    params_here = ap (λ o. params_in o) here

    -- the calls that are known after the function
    after_call : (q : List ℕ) (vs : List Word) (b : Bool) → is_function q (decls.Func f) ≡ b → calls_after calls (decls.Func f) q vs ≡ cond b (value_of_call calls f vs) (calls q vs)
    after_call q vs b e = ap (λ x. cond x (value_of_call calls f vs) (calls q vs)) e

    after_known : (q : List ℕ) (vs : List Word) (b : Bool) → is_function q (decls.Func f) ≡ b → checked_calls_after known (decls.Func f) q vs ≡ cond b (checked_call known (decls.Func f) vs) (known q vs)
    after_known q vs b e = ap (λ x. cond x (checked_call known (decls.Func f) vs) (known q vs)) e

    found_as : (w : ℕ) (o p : Option Word) (x y : Word) → o ≡ p → x ≡ y → Found w p y → Found w o x
    found_as w o p x y e g h = record { there = e ∙ h.there ∙ ap Some (sym g); has = subst (HasWidth w) (sym g) h.has }

    with_function : Unbroken (function_of ds i k s f) → look_up s.text f.name.name ≡ None → TextFits (checked_calls_after known (decls.Func f)) (calls_after calls (decls.Func f)) (s.text ++ (f.name.name, sense kinds.Func f.width.value i) ∷ [])
    with_function u fresh = record {
      calls_fit = λ q x e. pushed s.text f.name.name q (sense kinds.Func f.width.value i) x
          (λ b c vs h. by_test (is_function q (decls.Func f))
          (λ y. let same : q ≡ f.name.name = sym ((bytes_decides f.name.name q).0 y) in let none : None ≡ Some x = sym fresh ∙ ap (look_up s.text) (sym same) ∙ b in cc)
          (λ n. found_as x.width _ _ _ _ (after_known q vs false n) (after_call q vs false n) (open_here.fits.calls_fit q x b c vs h)))
          (λ none same is c vs h.
          let h' : AreArguments f.params vs = subst (λ ps. AreArguments ps vs) params_here (subst (λ (y : Sense). AreArguments (params_of ds y.from) vs) (sym is) h) in
          let y = (bytes_decides f.name.name q).1 (sym same) in
          subst (λ (z : Sense). Found z.width (checked_calls_after known (decls.Func f) q vs) (calls_after calls (decls.Func f) q vs)) is
          (found_as f.width.value _ _ _ _ (after_known q vs true y) (after_call q vs true y) (body_found u vs h'))) e;
      of_text = λ q x e. pushed s.text f.name.name q (sense kinds.Func f.width.value i) x (λ b. open_here.fits.of_text q x b) (λ none same is. ap (λ (y : Sense). is_of_text y.kind) (sym is)) e;
    }

  fresh_none : (o : Option Sense) → not (is_some o) ≡ true → o ≡ None
  fresh_none None e = refl
  fresh_none (Some m) e = cc

  not_in_text : (known : Knowns) (calls : Calls) (s : Scoped) (n : List ℕ) → Open known calls s → not (is_some (find s n)) ≡ true → look_up s.text n ≡ None
  not_in_text known calls s n o e = sym (ap (λ (l : Names). or_else (look_up l n) (look_up s.text n)) o.local) ∙ fresh_none (find s n) e

  -- one declaration more
  one_more : (known : Knowns) (calls : Calls) (i k : ℕ) (s : Scoped) (d : Decl) → Open known calls s → slice_get ds i ≡ Some d → Unbroken (declaration_of ds i k s d) → Open (checked_calls_after known d) (calls_after calls d) (declaration_of ds i k s d).value
  one_more known calls i k s (decls.Reg n width start) o here u = record { local = refl; fits = plain known calls s.text n.name (sense kinds.Reg width.value i) o.fits refl refl }
  one_more known calls i k s (decls.File n width address) o here u = record { local = refl; fits = plain known calls s.text n.name (sense (kinds.File address.value) width.value i) o.fits refl refl }
  one_more known calls i k s (decls.Pipe n width) o here u = record { local = refl; fits = plain known calls s.text n.name (sense kinds.Pipe width.value i) o.fits refl refl }
  one_more known calls i k s (decls.Hint n width start) o here u = record { local = refl; fits = plain known calls s.text n.name (sense kinds.Hint width.value i) o.fits refl refl }
  one_more known calls i k s (decls.Target r) o here u = record { local = refl; fits = plain known calls s.text r.name.name (sense kinds.Target r.width.value i) o.fits refl refl }
  one_more known calls i k s (decls.Sample n width stage) o here u = record { local = refl; fits = plain known calls s.text n.name (sense kinds.Sample width.value i) o.fits refl refl }
  one_more known calls i k s (decls.Func f) o here u =
      let a = answer_unbroken (not (is_some (find s f.name.name))) _ (function_of ds i k s f).asked u in
      record {
        local = refl;
        fits = subst (λ t. TextFits (checked_calls_after known (decls.Func f)) (calls_after calls (decls.Func f)) (t ++ (f.name.name, sense kinds.Func f.width.value i) ∷ [])) (sym (body_text known calls s o i k f here))
            (with_function known calls s o i k f here a.1 (not_in_text known calls s f.name.name o a.0));
      }

  -- all from one on
  pub all_open : (known : Knowns) (calls : Calls) (i k : ℕ) (s : Scoped) (rest : List Decl) → Open known calls s → ((j : ℕ) → slice_get ds (i + j) ≡ slice_get rest j) → Unbroken (declarations_of ds i k s rest)
      → Open (fold checked_calls_after known rest) (fold calls_after calls rest) (declarations_of ds i k s rest).value
  all_open known calls i k s [] o at u = o
  all_open known calls i k s (d ∷ rest) o at u =
      let x = bind_unbroken (declaration_of ds i k s d) (λ t. declarations_of ds (i + 1) (k + functions_in d) t rest) u in
      let z : i + 0 ≡ i = omega arith in
      let here : slice_get ds i ≡ Some d = ap (slice_get ds) (sym z) ∙ at 0 in
      all_open (checked_calls_after known d) (calls_after calls d) (i + 1) (k + functions_in d) (declaration_of ds i k s d).value rest (one_more known calls i k s d o here x.0)
      (λ j. let e : i + 1 + j ≡ i + suc j = omega arith in ap (slice_get ds) e ∙ at (suc j)) x.1

  nothing_open : (known : Knowns) (calls : Calls) → Open known calls nothing
  nothing_open known calls = record { local = refl; fits = record { calls_fit = λ q m e. cc; of_text = λ q m e. cc } }

  -- after all declarations of a job, each call of a name of the text at fitting arguments has a word of its width
  pub declared_calls_fit : Unbroken (declarations_of ds 0 0 nothing ds) → Open (checked_calls_of ds) (calls_of ds) (declarations_of ds 0 0 nothing ds).value
  declared_calls_fit u = all_open (λ q vs. None) no_calls 0 0 nothing ds (nothing_open (λ q vs. None) no_calls) (λ j. let e : 0 + j ≡ j = omega arith in ap (slice_get ds) e) u
