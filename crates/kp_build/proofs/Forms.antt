-- Each form of expression: its parts are sound if it is, and its value is that of its operation at the nodes of its parts.
use Rattle.std.proofs.Common.{◌≡◌, ◌∙◌, Option, Some, ap, sym, true}
use Rattle.std.specs.{Prelude.is_some, Option.option_map, Option.option_and_then}
use Rattle.kp_bits.specs.{Word.Word, Word.not_of, Checked.checked_binary, Checked.checked_mux, declared.operator.BinOp.BinOp}
use Rattle.kp_ast.{specs.declared.tree.Expr.Expr, proofs.Parts.value_Not, proofs.Parts.value_Binary, proofs.Parts.value_Mux}
use Rattle.kp_ast.specs.declared.tree.ExprKind.TheViews as kind
use Rattle.kp_net.specs.{declared.node.NodeId.NodeId, Nodes.Cells, Nodes.word_at, Growth.Held}
use Rattle.kp_build.specs.{Names.Scope, Names.known_at, Names.IsSound, Names.Gives, inner.Showing.IsThere, inner.Showing.Shows, inner.Showing.value_in}
use Rattle.kp_build.proofs.Giving.{first_there, second_there, third_there, mapped_there, sound_by, fit_by, gives_by}

module _ (p : Held) (env : Scope) (e : Expr) where
  -- ~a
  module _ (a x : Expr) (is : e.kind ≡ kind.Not a) (h : x ≡ a) where
    value_not : (c : Cells) → value_in p env e c ≡ option_map not_of (value_in p env x c)
    value_not c = value_Not e (known_at c p env) a x is h

    pub sound_Not : IsSound p env e → IsSound p env x
    sound_Not = sound_by p env e x (λ c s. mapped_there not_of (value_in p env x c) (sym (ap is_some (value_not c)) ∙ s))

    pub gives_Not : (q r : Held) (n u : NodeId) → Gives p env x q n → ((c : Cells) → word_at c r.nodes u.0 ≡ not_of (word_at c q.nodes n.0)) → Gives p env e r u
    unfolding Gives
    gives_Not q r n u g k = λ c. value_not c ∙ ap (option_map not_of) (g c) ∙ ap Some (sym (k c))

  -- a + b
  module _ (op : BinOp) (a b x y : Expr) (is : e.kind ≡ kind.Binary op a b) (h : x ≡ a) (k : y ≡ b) where
    abbrev by_two : Option Word → Option Word → Option Word
    by_two o r = option_and_then (λ u. option_and_then (λ w. checked_binary op u w) r) o

    value_binary : (c : Cells) → value_in p env e c ≡ by_two (value_in p env x c) (value_in p env y c)
    value_binary c = value_Binary e (known_at c p env) op a b x y is h k

    pub sound_left : IsSound p env e → IsSound p env x
    sound_left = sound_by p env e x (λ c s. first_there (λ u. option_and_then (λ w. checked_binary op u w) (value_in p env y c)) (value_in p env x c) (sym (ap is_some (value_binary c)) ∙ s))

    pub sound_right : IsSound p env e → IsSound p env y
    sound_right = sound_by p env e y (λ c s. second_there (λ u w. checked_binary op u w) (value_in p env x c) (value_in p env y c) (sym (ap is_some (value_binary c)) ∙ s))

    module _ (q : Held) (n m : NodeId) (g : Gives p env x q n × Gives p env y q m) where
      same_Binary : (c : Cells) → value_in p env e c ≡ checked_binary op (word_at c q.nodes n.0) (word_at c q.nodes m.0)
      unfolding Gives
      same_Binary c = value_binary c ∙ (λ i. by_two (g.0 c i) (g.1 c i))

      pub fits_Binary : IsSound p env e → IsThere (λ c. checked_binary op (word_at c q.nodes n.0) (word_at c q.nodes m.0))
      fits_Binary = fit_by p env e (λ c. checked_binary op (word_at c q.nodes n.0) (word_at c q.nodes m.0)) same_Binary

      pub gives_Binary : (r : Held) (u : NodeId) → Shows r u (λ c. checked_binary op (word_at c q.nodes n.0) (word_at c q.nodes m.0)) → Gives p env e r u
      gives_Binary = gives_by p env e (λ c. checked_binary op (word_at c q.nodes n.0) (word_at c q.nodes m.0)) same_Binary

  -- test ? a : b
  module _ (t a b s x y : Expr) (is : e.kind ≡ kind.Mux t a b) (g : s ≡ t) (h : x ≡ a) (k : y ≡ b) where
    abbrev by_three : Option Word → Option Word → Option Word → Option Word
    by_three i o r = option_and_then (λ i. option_and_then (λ u. option_and_then (λ w. checked_mux i u w) r) o) i

    value_mux : (c : Cells) → value_in p env e c ≡ by_three (value_in p env s c) (value_in p env x c) (value_in p env y c)
    value_mux c = value_Mux e (known_at c p env) t a b s x y is g h k

    pub sound_test : IsSound p env e → IsSound p env s
    sound_test = sound_by p env e s (λ c so.
        first_there (λ i. option_and_then (λ u. option_and_then (λ w. checked_mux i u w) (value_in p env y c)) (value_in p env x c)) (value_in p env s c) (sym (ap is_some (value_mux c)) ∙ so))

    branches : (c : Cells) → is_some (value_in p env e c) ≡ true → (is_some (value_in p env x c) ≡ true) × (is_some (value_in p env y c) ≡ true)
    branches c so = third_there (λ i u w. checked_mux i u w) (value_in p env s c) (value_in p env x c) (value_in p env y c) (sym (ap is_some (value_mux c)) ∙ so)

    pub sound_yes : IsSound p env e → IsSound p env x
    sound_yes = sound_by p env e x (λ c so. (branches c so).0)

    pub sound_no : IsSound p env e → IsSound p env y
    sound_no = sound_by p env e y (λ c so. (branches c so).1)

    module _ (q : Held) (l n m : NodeId) (test : Gives p env s q l) (yes : Gives p env x q n) (no : Gives p env y q m) where
      same_Mux : (c : Cells) → value_in p env e c ≡ checked_mux (word_at c q.nodes l.0) (word_at c q.nodes n.0) (word_at c q.nodes m.0)
      unfolding Gives
      same_Mux c = value_mux c ∙ (λ i. by_three (test c i) (yes c i) (no c i))

      pub fits_Mux : IsSound p env e → IsThere (λ c. checked_mux (word_at c q.nodes l.0) (word_at c q.nodes n.0) (word_at c q.nodes m.0))
      fits_Mux = fit_by p env e (λ c. checked_mux (word_at c q.nodes l.0) (word_at c q.nodes n.0) (word_at c q.nodes m.0)) same_Mux

      pub gives_Mux : (r : Held) (u : NodeId) → Shows r u (λ c. checked_mux (word_at c q.nodes l.0) (word_at c q.nodes n.0) (word_at c q.nodes m.0)) → Gives p env e r u
      gives_Mux = gives_by p env e (λ c. checked_mux (word_at c q.nodes l.0) (word_at c q.nodes n.0) (word_at c q.nodes m.0)) same_Mux
