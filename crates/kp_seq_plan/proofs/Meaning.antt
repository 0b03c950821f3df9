-- A plan of each form means an expression of that form, if its parts do.
use Rattle.std.proofs.Common.{◌≡◌, ◌∙◌, ℕ, ◌+◌, List, [], ◌∷◌, Option, Some, length, map, refl, ap, sym, arith}
use Rattle.std.{proofs.lemmas.List.length-map, proofs.lemmas.List.Sums.sum-map, specs.Prelude.sum, specs.Prelude.sum_by}
use Rattle.std.specs.Option.{option_map, option_and_then}
use Rattle.kp_bits.specs.Word.{Word, not_of}
use Rattle.kp_bits.specs.Checked.{checked_literal, checked_binary, checked_mux, checked_joined, checked_slice, checked_zext, checked_sext}
use Rattle.kp_bits.specs.declared.{literal.Literal.Literal, operator.BinOp.BinOp}
use Rattle.kp_ast.proofs.Parts.{value_Lit, value_Name, value_Not, value_Binary, value_Mux, value_Concat, value_Slice, value_Zext, value_Sext, value_Call, size_Lit, size_Name, size_Not, size_Binary, size_Mux, size_Concat, size_Slice, size_Zext, size_Sext, size_Call}
use Rattle.kp_ast.specs.declared.tree.{Num.Num, Expr.Expr, Decl.Decl}
use Rattle.kp_ast.specs.{Checked.Known, Checked.checked, Checked.checked_calls_of, Checked.all_there, Size.Bodies, Size.bodies_of}
use Rattle.kp_ast.specs.declared.tree.ExprKind.TheVariants as leaf
use Rattle.kp_ast.specs.declared.tree.ExprKind.TheViews as kind
use Rattle.kp_seq_plan.specs.{declared.plan.Plan.Plan, declared.resolve.Scope.Scope, Names.at_place, Names.place_of}
use Rattle.kp_seq_plan.specs.Plans.{Slots, meaning, meaning_level, space, space_level, known_by, Means, AllMean, MeansCall}
use Rattle.kp_seq_plan.proofs.Levels.{fold-Word, fold-Name, fold-Not, fold-Binary, fold-Mux, fold-Concat, fold-Slice, fold-Zext, fold-Sext, fold-Call}
use Rattle.kp_seq_plan.specs.declared.plan.Plan.TheVariants as ends
use Rattle.kp_seq_plan.specs.declared.plan.Plan.TheViews as plans

abbrev pub V : Type 0
V = Slots → Option Word

pub at : {f g : V} → f ≡ g → (s : Slots) → f s ≡ g s
at e s = ap (λ (h : V). h s) e

-- the values of plans, as the fold computes them
values_at : (ps : List Plan) (s : Slots) → map (λ (f : V). f s) (map meaning ps) ≡ map (λ p. meaning p s) ps
values_at [] s = refl
values_at (p ∷ ps) s = ap (λ xs. meaning p s ∷ xs) (values_at ps s)

module _ (ps : List Plan) where
  pub meaning_parts : (s : Slots) → meaning (plans.Concat ps) s ≡ option_and_then checked_joined (all_there (map (λ p. meaning p s) ps))
  meaning_parts s = at (fold-Concat V meaning_level ps) s ∙ ap (λ xs. option_and_then checked_joined (all_there xs)) (values_at ps s)

  pub meaning_call : (body : Plan) (s : Slots) → meaning (plans.Call ps body) s ≡ option_and_then (λ vs. meaning body (map Some vs)) (all_there (map (λ p. meaning p s) ps))
  meaning_call body s = at (fold-Call V meaning_level ps body) s ∙ ap (λ xs. option_and_then (λ vs. meaning body (map Some vs)) (all_there xs)) (values_at ps s)

  pub space_parts : space (plans.Concat ps) ≡ length ps + sum_by space ps
  space_parts = fold-Concat ℕ space_level ps ∙ ap (λ n. n + sum (map space ps)) (length-map ps space) ∙ ap (λ n. length ps + n) (sum-map space ps)

  pub space_call : (body : Plan) → space (plans.Call ps body) ≡ space body + (length ps + sum_by space ps)
  space_call body =
      fold-Call ℕ space_level ps body ∙ ap (λ n. space body + (n + sum (map space ps))) (length-map ps space) ∙ ap (λ n. space body + (length ps + n)) (sum-map space ps)

module _ (ds : List Decl) (scope : Scope) (e : Expr) where
  abbrev k : Slots → Known
  k s = known_by ds scope s

  abbrev v : Slots → Expr → Option Word
  v s x = checked (k s) x

  abbrev bodies : Bodies
  bodies = bodies_of ds

  pub means_Lit : (l : Literal) (w : Option Word) → e.kind ≡ leaf.Lit l → w ≡ checked_literal l → Means ds scope e (ends.Word w)
  means_Lit l w is h = record {
    value = λ s. at (fold-Word V meaning_level w) s ∙ h ∙ sym (value_Lit e (k s) l is);
    space = omega (arith, fold-Word ℕ space_level w, size_Lit e bodies l is);
  }

  pub means_Name : (q : List ℕ) (o : Option ℕ) → e.kind ≡ leaf.Name q → o ≡ place_of scope q → Means ds scope e (ends.Name o)
  means_Name q o is h = record {
    value = λ s. at (fold-Name V meaning_level o) s ∙ ap (at_place s) h ∙ sym (value_Name e (k s) q is);
    space = omega (arith, fold-Name ℕ space_level o, size_Name e bodies q is);
  }

  pub means_Not : (a x : Expr) (p : Plan) → e.kind ≡ kind.Not a → x ≡ a → Means ds scope x p → Means ds scope e (plans.Not p)
  means_Not a x p is h m = record {
    value = λ s. at (fold-Not V meaning_level p) s ∙ ap (option_map not_of) (m.value s) ∙ sym (value_Not e (k s) a x is h);
    space = omega (arith, fold-Not ℕ space_level p, size_Not e bodies a x is h, m.space);
  }

  pub means_Binary : (op : BinOp) (a b x y : Expr) (p q : Plan) → e.kind ≡ kind.Binary op a b → x ≡ a → y ≡ b → Means ds scope x p → Means ds scope y q
      → Means ds scope e (plans.Binary op p q)
  means_Binary op a b x y p q is h i m n = record {
    value = λ s.
        at (fold-Binary V meaning_level op p q) s
        ∙ ap (λ z. option_and_then (λ u. option_and_then (λ w. checked_binary op u w) (meaning q s)) z) (m.value s)
        ∙ ap (λ z. option_and_then (λ u. option_and_then (λ w. checked_binary op u w) z) (v s x)) (n.value s)
        ∙ sym (value_Binary e (k s) op a b x y is h i);
    space = omega (arith, fold-Binary ℕ space_level op p q, size_Binary e bodies op a b x y is h i, m.space, n.space);
  }

  pub means_Mux : (t a b j x y : Expr) (o p q : Plan) → e.kind ≡ kind.Mux t a b → j ≡ t → x ≡ a → y ≡ b → Means ds scope j o → Means ds scope x p → Means ds scope y q
      → Means ds scope e (plans.Mux o p q)
  means_Mux t a b j x y o p q is g h i l m n = record {
    value = λ s.
        at (fold-Mux V meaning_level o p q) s
        ∙ ap (λ z. option_and_then (λ r. option_and_then (λ u. option_and_then (λ w. checked_mux r u w) (meaning q s)) (meaning p s)) z) (l.value s)
        ∙ ap (λ z. option_and_then (λ r. option_and_then (λ u. option_and_then (λ w. checked_mux r u w) (meaning q s)) z) (v s j)) (m.value s)
        ∙ ap (λ z. option_and_then (λ r. option_and_then (λ u. option_and_then (λ w. checked_mux r u w) z) (v s x)) (v s j)) (n.value s)
        ∙ sym (value_Mux e (k s) t a b j x y is g h i);
    space = omega (arith, fold-Mux ℕ space_level o p q, size_Mux e bodies t a b j x y is g h i, l.space, m.space, n.space);
  }

  pub means_Concat : (es xs : List Expr) (ps : List Plan) → e.kind ≡ kind.Concat es → xs ≡ es → AllMean ds scope xs ps → Means ds scope e (plans.Concat ps)
  means_Concat es xs ps is h m = record {
    value = λ s. meaning_parts ps s ∙ ap (λ ws. option_and_then checked_joined (all_there ws)) (m.values s) ∙ sym (value_Concat e (k s) es xs is h);
    space = omega (arith, space_parts ps, size_Concat e bodies es xs is h, m.space);
  }

  pub means_Slice : (a x : Expr) (hi lo : ℕ) (p : Plan) → e.kind ≡ kind.Slice a hi lo → x ≡ a → Means ds scope x p → Means ds scope e (plans.Slice p hi lo)
  means_Slice a x hi lo p is h m = record {
    value = λ s. at (fold-Slice V meaning_level p hi lo) s ∙ ap (option_and_then (λ w. checked_slice hi lo w)) (m.value s) ∙ sym (value_Slice e (k s) a x hi lo is h);
    space = omega (arith, fold-Slice ℕ space_level p hi lo, size_Slice e bodies a x hi lo is h, m.space);
  }

  pub means_Zext : (a x : Expr) (n : Num) (p : Plan) → e.kind ≡ kind.Zext a n → x ≡ a → Means ds scope x p → Means ds scope e (plans.Zext p n.value)
  means_Zext a x n p is h m = record {
    value = λ s. at (fold-Zext V meaning_level p n.value) s ∙ ap (option_and_then (λ w. checked_zext n.value w)) (m.value s) ∙ sym (value_Zext e (k s) a x n is h);
    space = omega (arith, fold-Zext ℕ space_level p n.value, size_Zext e bodies a x n is h, m.space);
  }

  pub means_Sext : (a x : Expr) (n : Num) (p : Plan) → e.kind ≡ kind.Sext a n → x ≡ a → Means ds scope x p → Means ds scope e (plans.Sext p n.value)
  means_Sext a x n p is h m = record {
    value = λ s. at (fold-Sext V meaning_level p n.value) s ∙ ap (option_and_then (λ w. checked_sext n.value w)) (m.value s) ∙ sym (value_Sext e (k s) a x n is h);
    space = omega (arith, fold-Sext ℕ space_level p n.value, size_Sext e bodies a x n is h, m.space);
  }

  pub means_Call : (q : List ℕ) (es xs : List Expr) (ps : List Plan) (p : Plan) → e.kind ≡ kind.Call q es → xs ≡ es → AllMean ds scope xs ps → MeansCall ds q ps p → Means ds scope e p
  means_Call q es xs ps p is h m c = record {
    value = λ s. c.value s ∙ ap (λ ws. option_and_then (checked_calls_of ds q) (all_there ws)) (m.values s) ∙ sym (value_Call e (k s) q es xs is h);
    space = omega (arith, c.space, size_Call e bodies q es xs is h, m.space);
  }
