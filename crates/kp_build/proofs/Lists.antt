-- Lists of expressions, and their nodes.
use Rattle.std.proofs.Common.{◌≡◌, ◌∙◌, ℕ, suc, zero, ◌+◌, ◌<◌, true, List, [], ◌∷◌, ◌++◌, map, Option, Some, None, length, get_or, take, refl, ap, sym, arith}
use Rattle.std.{proofs.lemmas.List.take_more, proofs.lemmas.List.map-append, specs.Prelude.is_some, specs.Option.option_map, specs.Option.option_and_then}
use Rattle.kp_bits.specs.Word.{Word}
use Rattle.kp_ast.specs.{declared.tree.Expr.Expr, Checked.checked, Checked.all_there}
use Rattle.kp_net.specs.{declared.node.NodeId.NodeId, Nodes.word_at, Growth.Held, Growth.Grown}
use Rattle.kp_build.specs.Names.{Scope, known_at, IsSound, Gives}
use Rattle.kp_build.specs.inner.Showing.{IsThere, AllShow, AllInside, words_at, value_in, values_in}
use Rattle.kp_build.proofs.{Giving.first_there, Giving.mapped_there, Rows.same_at}

pub grown_same : (p : Held) → Grown p p 0
grown_same p = record {
  kept = record {
    longer = omega arith;
    total = refl;
    room = omega arith;
    words = λ c i h. refl;
    same = λ c i h. refl;
    tests = λ c i h. refl;
    widths = λ i h. refl;
    nodes = λ i h. refl;
  };
  plain = λ i h l. absurd (omega arith);
}

-- one more value
there_push : (os : List (Option Word)) (vs : List Word) (v : Word) → all_there os ≡ Some vs → all_there (os ++ Some v ∷ []) ≡ Some (vs ++ v ∷ [])
there_push [] vs v e = let n : vs ≡ [] = cc in ap (λ xs. Some (xs ++ v ∷ [])) (sym n)
there_push (None ∷ os) vs v e = cc
there_push (Some x ∷ os) vs v e = there_cons x (all_there os) vs (all_there (os ++ Some v ∷ [])) v e (λ ws h. there_push os ws v h)
  where
    there_cons : (x : Word) (o : Option (List Word)) (vs : List Word) (o' : Option (List Word)) (v : Word) → option_map (λ xs. x ∷ xs) o ≡ Some vs
        → ((ws : List Word) → o ≡ Some ws → o' ≡ Some (ws ++ v ∷ [])) → option_map (λ xs. x ∷ xs) o' ≡ Some (vs ++ v ∷ [])
    there_cons x None vs o' v e h = cc
    there_cons x (Some ws) vs o' v e h = let n : vs ≡ x ∷ ws = cc in ap (option_map (λ xs. x ∷ xs)) (h ws refl) ∙ ap (λ xs. Some (xs ++ v ∷ [])) (sym n)

-- each of several values exists if all do
each_there : (f : Expr → Option Word) (es : List Expr) (i : ℕ) (d : Expr) → i < length es → is_some (all_there (map f es)) ≡ true → is_some (f (get_or es i d)) ≡ true
each_there f [] i d l h = absurd (omega arith)
each_there f (e ∷ es) zero d l h = first_there (λ x. option_map (λ xs. x ∷ xs) (all_there (map f es))) (f e) h
each_there f (e ∷ es) (suc i) d l h = each_there f es i d (omega arith) (rest (f e) (all_there (map f es)) h)
  where
    rest : (o : Option Word) (os : Option (List Word)) → is_some (option_and_then (λ x. option_map (λ xs. x ∷ xs) os) o) ≡ true → is_some os ≡ true
    rest None os h = cc
    rest (Some x) os h = mapped_there (λ xs. x ∷ xs) os h

pub element_sound : (p : Held) (env : Scope) (es : List Expr) (i : ℕ) (e : Expr) → i < length es → e ≡ get_or es i e → IsThere (values_in p env es) → IsSound p env e
unfolding IsThere IsSound
element_sound p env es i e l is h = λ c. ap (λ x. is_some (value_in p env x c)) is ∙ each_there (checked (known_at c p env)) es i e l (h c)

-- no node so far, and one more
pub none_show : (p : Held) (env : Scope) (es : List Expr) → AllShow p [] (values_in p env (take 0 es))
unfolding AllShow
none_show p env es = λ c. refl

pub more_show : (p q r : Held) (k : ℕ) (env : Scope) (es : List Expr) (i : ℕ) (e : Expr) (ns : List NodeId) (n : NodeId) → Grown q r k → i < length es → e ≡ get_or es i e
    → AllInside q ns → AllShow q ns (values_in p env (take i es)) → Gives p env e r n → AllShow r (ns ++ n ∷ []) (values_in p env (take (i + 1) es))
unfolding AllShow Gives
more_show p q r k env es i e ns n g l is inside shows gives = λ c.
    let f : Expr → Option Word = checked (known_at c p env) in
    ap (λ (xs : List Expr). all_there (map f xs)) (take_more es i e l ∙ ap (λ (x : Expr). take i es ++ x ∷ []) (sym is))
    ∙ ap all_there (map-append f (take i es) (e ∷ []))
    ∙ ap (λ (o : Option Word). all_there (map f (take i es) ++ o ∷ [])) (gives c)
    ∙ there_push (map f (take i es)) (words_at c q ns) (word_at c r.nodes n.0) (shows c)
    ∙ ap (λ ws. Some (ws ++ word_at c r.nodes n.0 ∷ [])) (sym (same_at q r k g c ns inside))
    ∙ ap Some (sym (map-append (λ (m : NodeId). word_at c r.nodes m.0) ns (n ∷ [])))
