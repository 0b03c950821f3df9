-- If a check violates no rule, no part of it violates one, and each rule holds; and the width of an expression of each form.
use Rattle.std.proofs.Common.{◌≡◌, ℕ, List, [], ◌∷◌, ◌++◌, map, Option, Some, None, Bool, true, false, refl, ap}
use Rattle.kp_base.specs.{First.first, Check.Check, Check.answer, Check.ok, Check.◌>>=◌, declared.place.Place.Place}
use Rattle.kp_bits.specs.declared.{literal.Literal.Literal, operator.BinOp.BinOp}
use Rattle.kp_ast.specs.declared.tree.{Num.Num, Decl.Decl, Expr.Expr, ExprKind.ExprKind}
use Rattle.kp_ast.proofs.Levels.{fold-Lit, fold-Name, fold-Not, fold-Binary, fold-Mux, fold-Concat, fold-Slice, fold-Zext, fold-Sext, fold-Call}
use Rattle.kp_ast.specs.declared.tree.ExprKind.TheVariants as leaf
use Rattle.kp_ast.specs.declared.tree.ExprKind.TheViews as kind
use Rattle.kp_width.specs.Expressions.{Part, literal_of, binary_of, choice_of, slice_of, extension_of, sum_of, concatenation_of, call_of, width_of_kind, part_of_level, part_of, width_of}
use Rattle.kp_width.specs.{Faults.WidthFinding, Names.Scoped, Names.used, declared.fault.Position.Position}

abbrev pub Unbroken : {F X : Type 0} → Check F X → Type 0
Unbroken c = first c.asked ≡ None

pub first_split : {X : Type 0} (xs ys : List (Option X)) → first (xs ++ ys) ≡ None → (first xs ≡ None) × (first ys ≡ None)
first_split [] ys e = (refl, e)
first_split (None ∷ xs) ys e = first_split xs ys e
first_split (Some x ∷ xs) ys e = cc

-- a check and what comes after it
pub bind_unbroken : {F X Y : Type 0} (c : Check F X) (next : X → Check F Y) → Unbroken (c >>= next) → Unbroken c × Unbroken (next c.value)
bind_unbroken c next e = first_split c.asked (next c.value).asked e

-- a rule, and what comes after it
pub answer_unbroken : {F : Type 0} (holds : Bool) (finding : F) (more : List (Option F)) → first (answer holds finding ∷ more) ≡ None → (holds ≡ true) × (first more ≡ None)
answer_unbroken true finding more e = (refl, e)
answer_unbroken false finding more e = cc

module _ (ds : List Decl) (done : ℕ) (s : Scoped) where
  abbrev pub form : Type 0
  form = Place → Check WidthFinding ℕ

  abbrev pub width : Expr → Check WidthFinding ℕ
  width = width_of ds done s

  abbrev pub at : Place → ExprKind → Expr
  at p k = record { place = p; kind = k }

  abbrev pub of_part : Part → Check WidthFinding ℕ
  of_part part = part.width

  pub width-Lit : (p : Place) (l : Literal) → width (at p (leaf.Lit l)) ≡ literal_of l p
  width-Lit p l = ap of_part (fold-Lit form Part (width_of_kind ds done s) part_of_level p l)

  pub width-Name : (p : Place) (name : List ℕ) → width (at p (leaf.Name name)) ≡ (used s Position.Value name p >>= (λ m. ok m.width))
  width-Name p name = ap of_part (fold-Name form Part (width_of_kind ds done s) part_of_level p name)

  pub width-Not : (p : Place) (a : Expr) → width (at p (kind.Not a)) ≡ width a
  width-Not p a = ap of_part (fold-Not form Part (width_of_kind ds done s) part_of_level p a)

  pub width-Binary : (p : Place) (op : BinOp) (a : Expr) (b : Expr) → width (at p (kind.Binary op a b)) ≡ (width a >>= (λ x. width b >>= (λ y. binary_of op p (part_of ds done s a).at (part_of ds done s b).at x y)))
  width-Binary p op a b = ap of_part (fold-Binary form Part (width_of_kind ds done s) part_of_level p op a b)

  pub width-Mux : (p : Place) (test : Expr) (a : Expr) (b : Expr) → width (at p (kind.Mux test a b)) ≡ (width test >>= (λ t. width a >>= (λ x. width b >>= (λ y. choice_of p (part_of ds done s a).at (part_of ds done s b).at t x y))))
  width-Mux p test a b = ap of_part (fold-Mux form Part (width_of_kind ds done s) part_of_level p test a b)

  pub width-Concat : (p : Place) (parts : List Expr) → width (at p (kind.Concat parts)) ≡ (sum_of 0 (map (part_of ds done s) parts) >>= (λ w. concatenation_of p w))
  width-Concat p parts = ap of_part (fold-Concat form Part (width_of_kind ds done s) part_of_level p parts)

  pub width-Slice : (p : Place) (a : Expr) (hi : ℕ) (lo : ℕ) → width (at p (kind.Slice a hi lo)) ≡ (width a >>= (λ w. slice_of hi lo p w))
  width-Slice p a hi lo = ap of_part (fold-Slice form Part (width_of_kind ds done s) part_of_level p a hi lo)

  pub width-Zext : (p : Place) (a : Expr) (n : Num) → width (at p (kind.Zext a n)) ≡ (width a >>= (λ w. extension_of n p w))
  width-Zext p a n = ap of_part (fold-Zext form Part (width_of_kind ds done s) part_of_level p a n)

  pub width-Sext : (p : Place) (a : Expr) (n : Num) → width (at p (kind.Sext a n)) ≡ (width a >>= (λ w. extension_of n p w))
  width-Sext p a n = ap of_part (fold-Sext form Part (width_of_kind ds done s) part_of_level p a n)

  pub width-Call : (p : Place) (name : List ℕ) (args : List Expr) → width (at p (kind.Call name args)) ≡ call_of ds done s name (map (part_of ds done s) args) p
  width-Call p name args = ap of_part (fold-Call form Part (width_of_kind ds done s) part_of_level p name args)
