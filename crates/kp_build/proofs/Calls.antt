-- Literals, names, and calls of functions.
use Rattle.std.proofs.Common.{◌≡◌, ◌∙◌, ℕ, ◌==◌, true, false, Bool, cond, List, [], ◌∷◌, Option, Some, None, length, refl, ap, sym, arith}
use Rattle.std.{proofs.lemmas.Bool.eqb-true, proofs.lemmas.List.length-map, proofs.lemmas.Option.same_Some, specs.Prelude.is_some}
use Rattle.std.specs.Option.{option_map, option_and_then}
use Rattle.kp_bits.specs.{Word.Word, Checked.checked_literal, declared.literal.Literal.Literal}
use Rattle.kp_ast.specs.declared.tree.{Decl.Decl, FuncDecl.FuncDecl, Param.Param, Expr.Expr}
use Rattle.kp_ast.specs.Expressions.{look_up, arguments_of, calls_of}
use Rattle.kp_ast.specs.Checked.{Known, checked, checked_call, checked_calls_of}
use Rattle.kp_ast.proofs.Parts.{value_Lit, value_Name, value_Call}
use Rattle.kp_ast.specs.declared.tree.Decl.TheVariants as decls
use Rattle.kp_ast.specs.declared.tree.ExprKind.TheVariants as leaf
use Rattle.kp_ast.specs.declared.tree.ExprKind.TheViews as kind
use Rattle.kp_net.specs.{declared.node.NodeId.NodeId, Nodes.Cells, Nodes.word_at, Growth.Held}
use Rattle.kp_build.specs.Names.{Scope, node_of, word_of, known_at, IsSound, Gives, Means}
use Rattle.kp_build.specs.inner.Showing.{IsThere, Shows, words_at, value_in, values_in}
use Rattle.kp_build.proofs.{Agree.agree, Agree.calls_agree, Fitting.no_cells, Names.given, Names.known_in_call}

module _ (p : Held) (env : Scope) (e : Expr) where
  pub literal_there : (l : Literal) → e.kind ≡ leaf.Lit l → IsSound p env e → is_some (checked_literal l) ≡ true
  unfolding IsSound
  literal_there l is h = sym (ap is_some (value_Lit e (known_at no_cells p env) l is)) ∙ h no_cells

  pub names_found : (q : List ℕ) → e.kind ≡ leaf.Name q → IsSound p env e → is_some (node_of env.names q) ≡ true
  unfolding IsSound word_of
  names_found q is h = mapped (node_of env.names q) (sym (ap is_some (value_Name e (known_at no_cells p env) q is)) ∙ h no_cells)
    where
      mapped : (o : Option NodeId) → is_some (option_map (λ n. word_at no_cells p.nodes n.0) o) ≡ true → is_some o ≡ true
      mapped None k = k
      mapped (Some n) k = refl

  pub name_gives : (q : List ℕ) → e.kind ≡ leaf.Name q → (n : NodeId) → node_of env.names q ≡ Some n → Gives p env e p n
  unfolding Gives word_of
  name_gives q is n h = λ c. value_Name e (known_at c p env) q is ∙ ap (option_map (λ m. word_at c p.nodes m.0)) h

  -- a call, of the functions of the environment
  pub call_value : (ds : List Decl) → ds ≡ env.decls → (q : List ℕ) (es xs : List Expr) → e.kind ≡ kind.Call q es → xs ≡ es
      → (c : Cells) → value_in p env e c ≡ option_and_then (checked_calls_of ds q) (values_in p env xs c)
  call_value ds d q es xs is h c = value_Call e (known_at c p env) q es xs is h ∙ ap (λ zs. option_and_then (checked_calls_of zs q) (values_in p env xs c)) (sym d)

-- a call of a function that is there
pub last_there : (p : Held) (ds : List Decl) (name : List ℕ) (args : List NodeId) → length ds ≡ 0 → IsThere (λ c. checked_calls_of ds name (words_at c p args)) → ⊥
unfolding IsThere
last_there p [] name args e h = let f : false ≡ true = h no_cells in cc
last_there p (d ∷ ds) name args e h = absurd (omega arith)

-- and of what is a function
pub no_function : (p : Held) (earlier : List Decl) (d : Decl) (args : List NodeId) → ((f : FuncDecl) → d ≡ decls.Func f → ⊥) → IsThere (λ c. checked_call (checked_calls_of earlier) d (words_at c p args)) → ⊥
unfolding IsThere
no_function p earlier (decls.Func f) args not h = not f refl
no_function p earlier _ args not h = let f : false ≡ true = h no_cells in cc

counted : (b : Bool) (o : Option Word) → is_some (cond b o None) ≡ true → (b ≡ true) × (cond b o None ≡ o)
counted true o h = (refl, refl)
counted false o h = cc

module _ (p : Held) (earlier : List Decl) (d : Decl) (args : List NodeId) (f : FuncDecl) (is : d ≡ decls.Func f) (ps : List Param) (same : ps ≡ f.params)
    (there : IsThere (λ c. checked_call (checked_calls_of earlier) d (words_at c p args))) where
  abbrev inside_call : Cells → Known
  inside_call c = record { names = look_up (arguments_of f.params (words_at c p args)); calls = checked_calls_of earlier }

  call_of : (c : Cells) → checked_call (checked_calls_of earlier) d (words_at c p args) ≡ cond (length (words_at c p args) == length f.params) (checked (inside_call c) f.body) None
  call_of c = ap (λ x. checked_call (checked_calls_of earlier) x (words_at c p args)) is

  as_many : (c : Cells) → (length (words_at c p args) == length f.params ≡ true) × (cond (length (words_at c p args) == length f.params) (checked (inside_call c) f.body) None ≡ checked (inside_call c) f.body)
  unfolding IsThere
  as_many c = counted (length (words_at c p args) == length f.params) (checked (inside_call c) f.body) (sym (ap is_some (call_of c)) ∙ there c)

  -- as many arguments as parameters
  pub body_count : length ps ≡ length args
  body_count = ap length same ∙ sym (eqb-true _ _ (as_many no_cells).0) ∙ length-map args (λ n. word_at no_cells p.nodes n.0)

  module _ (env : Scope) (knows : env.decls ≡ earlier) (names : (q : List ℕ) → node_of env.names q ≡ node_of (given ps args) q) where
    -- the value of the call is that of the body, where the parameters have the arguments' nodes
    body_value : (c : Cells) → checked_call (checked_calls_of earlier) d (words_at c p args) ≡ value_in p env f.body c
    body_value c =
        call_of c
        ∙ (as_many c).1
        ∙ ap (λ (xs : List Param). checked (record { names = look_up (arguments_of xs (words_at c p args)); calls = checked_calls_of earlier }) f.body) (sym same)
        ∙ ap (λ known. checked known f.body) (sym (known_in_call p env earlier ps args knows names c))

    pub body_sound : IsSound p env f.body
    unfolding IsThere IsSound
    body_sound = λ c. sym (ap is_some (body_value c)) ∙ there c

    pub body_shows : (q : Held) (n : NodeId) → Gives p env f.body q n → Shows q n (λ c. checked_call (checked_calls_of earlier) d (words_at c p args))
    unfolding Gives Shows
    body_shows q n h = λ c. body_value c ∙ h c

-- THE NODE HAS THE EXPRESSION'S VALUE, wherever names have the words of their nodes
pub gives_means : (p : Held) (env : Scope) (e : Expr) (q : Held) (n : NodeId) → Gives p env e q n → Means p env e q n
unfolding Gives Means word_of
gives_means p env e q n h = λ c names have.
    sym (agree (known_at c p env) (record { names = names; calls = calls_of env.decls })
    (λ x v is. by_node (λ m. word_at c p.nodes m.0) (node_of env.names x) (names x) v (λ m k. have x m k) is) (calls_agree env.decls) e (word_at c q.nodes n.0) (h c))
  where
    by_node : (f : NodeId → Word) (o : Option NodeId) (w v : Word) → ((m : NodeId) → o ≡ Some m → w ≡ f m) → option_map f o ≡ Some v → w ≡ v
    by_node f None w v have is = cc
    by_node f (Some m) w v have is = have m refl ∙ same_Some _ _ is
