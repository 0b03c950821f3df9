-- Names and their nodes: what is preserved while the pool grows, and what changes when a name is bound to a node.
use Rattle.std.proofs.Common.{◌≡◌, ◌∙◌, ℕ, ◌+◌, ◌<◌, List, [], ◌∷◌, length, get_or, drop, map, Option, Some, None, Bool, true, false, cond, refl, ap, sym, subst, arith}
use Rattle.std.proofs.{Math.Path.fun_ext, lemmas.List.drop_more, lemmas.List.Elements.All-head, lemmas.List.Elements.All-tail}
use Rattle.std.specs.{Option.option_map, List.zip}
use Rattle.kp_bits.specs.Word.{Word}
use Rattle.kp_ast.specs.{Expressions.is_same_name, Expressions.look_up, Expressions.arguments_of, declared.tree.Param.Param, declared.tree.Decl.Decl}
use Rattle.kp_ast.specs.Checked.{checked_calls_of}
use Rattle.kp_net.specs.{declared.node.NodeId.NodeId, Nodes.Cells, Nodes.word_at, Growth.Held, Growth.Kept, Growth.Grown}
use Rattle.kp_build.specs.Names.{Scope, Nodes, node_of, with_node, word_of, known_at, AreInside}
use Rattle.kp_build.specs.inner.Showing.{AllInside, words_at}
use Rattle.kp_build.proofs.Entries.{lookup-with_entry}

-- while the pool grows, names keep their words
same_words : (p q : Held) (k : ℕ) (c : Cells) (o : Option NodeId) → Kept p q k → ((n : NodeId) → o ≡ Some n → n.0 < length p.nodes)
    → option_map (λ n. word_at c q.nodes n.0) o ≡ option_map (λ n. word_at c p.nodes n.0) o
same_words p q k c None g h = refl
same_words p q k c (Some n) g h = ap Some (g.words c n.0 (h n refl))

pub same_known : (p q : Held) (k : ℕ) (env : Scope) → Grown p q k → AreInside p env → (c : Cells) → known_at c q env ≡ known_at c p env
unfolding word_of
same_known p q k env g h c =
    let names : word_of c q env ≡ word_of c p env = fun_ext (λ x. same_words p q k c (node_of env.names x) g.kept (h x)) in
    ap (λ (f : List ℕ → Option Word). record { names = f; calls = checked_calls_of env.decls }) names

pub still_inside : (p q : Held) (k : ℕ) (env : Scope) → Grown p q k → AreInside p env → AreInside q env
still_inside p q k env g h x n e = let m = h x n e in let l = g.kept.longer in omega arith

-- a name that gets a node, seen by a look-up
pub node_with : (names : Nodes) (n : List ℕ) (x : NodeId) (q : List ℕ) → node_of (with_node names n x) q ≡ cond (is_same_name q n) (Some x) (node_of names q)
node_with names n x q = lookup-with_entry n x q names

-- the parameters of a call, with the nodes of the arguments
abbrev pub given : List Param → List NodeId → Nodes
given params args = zip (map (λ p. p.name.name) params) args

-- one more parameter, in front
module _ (ps : List Param) (args : List NodeId) (i : ℕ) (p d : Param) (n b : NodeId) (here : i < length ps) (there : i < length args) (is_p : p ≡ get_or ps i d) (is_n : n ≡ get_or args i b) where
  given_more : (q : List ℕ) → node_of (given (drop i ps) (drop i args)) q ≡ cond (is_same_name q p.name.name) (Some n) (node_of (given (drop (i + 1) ps) (drop (i + 1) args)) q)
  given_more q =
      ap (λ (xs : List Param). node_of (given xs (drop i args)) q) (drop_more ps i d here ∙ ap (λ (x : Param). x ∷ drop (i + 1) ps) (sym is_p))
      ∙ ap (λ (ns : List NodeId). node_of (given (p ∷ drop (i + 1) ps) ns) q) (drop_more args i b there ∙ ap (λ (x : NodeId). x ∷ drop (i + 1) args) (sym is_n))

  pub bound_more : (names : Nodes) → ((q : List ℕ) → node_of names q ≡ node_of (given (drop (i + 1) ps) (drop (i + 1) args)) q)
      → (q : List ℕ) → node_of (with_node names p.name.name n) q ≡ node_of (given (drop i ps) (drop i args)) q
  bound_more names h q = node_with names p.name.name n q ∙ ap (cond (is_same_name q p.name.name) (Some n)) (h q) ∙ sym (given_more q)

-- in a call each parameter has the word of the corresponding argument
given_words : (c : Cells) (p : Held) (ps : List Param) (args : List NodeId) (q : List ℕ) → option_map (λ n. word_at c p.nodes n.0) (node_of (given ps args) q) ≡ look_up (arguments_of ps (words_at c p args)) q
given_words c p [] args q = refl
given_words c p (x ∷ ps) [] q = refl
given_words c p (x ∷ ps) (n ∷ args) q = mapped (is_same_name q x.name.name) _ _ _ (given_words c p ps args q)
  where
    mapped : (t : Bool) (n : NodeId) (o : Option NodeId) (r : Option Word) → option_map (λ n. word_at c p.nodes n.0) o ≡ r
        → option_map (λ n. word_at c p.nodes n.0) (cond t (Some n) o) ≡ cond t (Some (word_at c p.nodes n.0)) r
    mapped true n o r e = refl
    mapped false n o r e = e

-- what is known in the call
pub known_in_call : (p : Held) (env : Scope) (earlier : List Decl) (ps : List Param) (args : List NodeId) → env.decls ≡ earlier → ((q : List ℕ) → node_of env.names q ≡ node_of (given ps args) q)
    → (c : Cells) → known_at c p env ≡ record { names = look_up (arguments_of ps (words_at c p args)); calls = checked_calls_of earlier }
unfolding word_of
known_in_call p env earlier ps args same names c =
    let words : word_of c p env ≡ look_up (arguments_of ps (words_at c p args)) = fun_ext (λ q. ap (option_map (λ n. word_at c p.nodes n.0)) (names q) ∙ given_words c p ps args q) in
    ap (λ (f : List ℕ → Option Word). record { names = f; calls = checked_calls_of env.decls }) words
    ∙ ap (λ ds. record { names = look_up (arguments_of ps (words_at c p args)); calls = checked_calls_of ds }) same

-- the nodes of parameters are arguments
given_inside : (p : Held) (ps : List Param) (args : List NodeId) → AllInside p args → (q : List ℕ) (n : NodeId) → node_of (given ps args) q ≡ Some n → n.0 < length p.nodes
given_inside p [] args h q n e = cc
given_inside p (x ∷ ps) [] h q n e = cc
given_inside p (x ∷ ps) (a ∷ args) h q n e =
    let P : NodeId → Type 0 = λ n. n.0 < length p.nodes in
    by (is_same_name q x.name.name) (node_of (given ps args) q) (All-head P a args h) (λ k. given_inside p ps args (All-tail P a args h) q n k) e
  where
    by : (t : Bool) (o : Option NodeId) → a.0 < length p.nodes → (o ≡ Some n → n.0 < length p.nodes) → cond t (Some a) o ≡ Some n → n.0 < length p.nodes
    by true o one more e = let s : a ≡ n = cc in subst (λ (x : NodeId). x.0 < length p.nodes) s one
    by false o one more e = more e

pub call_inside : (p : Held) (env : Scope) (ps : List Param) (args : List NodeId) → ((q : List ℕ) → node_of env.names q ≡ node_of (given ps args) q) → AllInside p args → AreInside p env
call_inside p env ps args names h q n e = given_inside p ps args h q n (sym (names q) ∙ e)
