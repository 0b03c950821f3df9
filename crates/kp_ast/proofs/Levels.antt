-- A fold over an expression, one level at a time: its value for each form, given its values for the parts.
use Rattle.std.proofs.Common.{◌≡◌, ◌∙◌, ℕ, List, map, ap}
use Rattle.kp_base.specs.declared.place.Place.{Place}
use Rattle.kp_bits.specs.declared.{literal.Literal.Literal, operator.BinOp.BinOp}
use Rattle.kp_ast.specs.declared.tree.{Num.Num, Expr.Expr, ExprKind.ExprKind, ExprKind.TheOpen.ExprKind-F, ExprKind.TheOpen.Expr-F}
use Rattle.kp_ast.specs.declared.tree.ExprKind.TheViews.{roll-ExprKind, roll-Expr}
use Rattle.kp_ast.specs.declared.tree.ExprKind.TheFolds.{fold-Expr, fold-ExprKind, map-ExprKind, fold-roll-Expr, fold-roll-ExprKind}
use Rattle.kp_ast.specs.declared.tree.ExprKind.TheOpen as level
use Rattle.kp_ast.specs.declared.tree.ExprKind.TheVariants as leaf
use Rattle.kp_ast.specs.declared.tree.ExprKind.TheViews as kind

module _ (A B : Type 0) (step : ExprKind-F A B → A) (step' : Expr-F A B → B) where
  abbrev folded : Expr → B
  folded = fold-Expr A B step step'

  abbrev level_of : Place → ExprKind-F A B → B
  level_of p k = step' (record { place = p; kind = step k })

  fold_at : (p : Place) (k : ExprKind-F ExprKind Expr) → folded (record { place = p; kind = roll-ExprKind k }) ≡ level_of p (map-ExprKind ExprKind Expr A B (fold-ExprKind A B step step') folded k)
  fold_at p k = fold-roll-Expr A B step step' (record { place = p; kind = roll-ExprKind k }) ∙ ap (λ v. step' (record { place = p; kind = v })) (fold-roll-ExprKind A B step step' k)

  pub fold-Lit : (p : Place) (l : Literal) → folded (record { place = p; kind = leaf.Lit l }) ≡ level_of p (level.Lit l)
  unfolding roll-ExprKind denote.Hole.Carrier.roll
  fold-Lit p l = fold_at p (level.Lit l)

  pub fold-Name : (p : Place) (name : List ℕ) → folded (record { place = p; kind = leaf.Name name }) ≡ level_of p (level.Name name)
  unfolding roll-ExprKind denote.Hole.Carrier.roll
  fold-Name p name = fold_at p (level.Name name)

  pub fold-Not : (p : Place) (a : Expr) → folded (record { place = p; kind = kind.Not a }) ≡ level_of p (level.Not (folded a))
  unfolding roll-ExprKind denote.Hole.Carrier.roll
  fold-Not p a = fold_at p (level.Not a)

  pub fold-Binary : (p : Place) (op : BinOp) (a : Expr) (b : Expr) → folded (record { place = p; kind = kind.Binary op a b }) ≡ level_of p (level.Binary op (folded a) (folded b))
  unfolding roll-ExprKind denote.Hole.Carrier.roll
  fold-Binary p op a b = fold_at p (level.Binary op a b)

  pub fold-Mux : (p : Place) (test : Expr) (a : Expr) (b : Expr) → folded (record { place = p; kind = kind.Mux test a b }) ≡ level_of p (level.Mux (folded test) (folded a) (folded b))
  unfolding roll-ExprKind denote.Hole.Carrier.roll
  fold-Mux p test a b = fold_at p (level.Mux test a b)

  pub fold-Concat : (p : Place) (parts : List Expr) → folded (record { place = p; kind = kind.Concat parts }) ≡ level_of p (level.Concat (map folded parts))
  unfolding roll-ExprKind denote.Hole.Carrier.roll
  fold-Concat p parts = fold_at p (level.Concat parts)

  pub fold-Slice : (p : Place) (a : Expr) (hi : ℕ) (lo : ℕ) → folded (record { place = p; kind = kind.Slice a hi lo }) ≡ level_of p (level.Slice (folded a) hi lo)
  unfolding roll-ExprKind denote.Hole.Carrier.roll
  fold-Slice p a hi lo = fold_at p (level.Slice a hi lo)

  pub fold-Zext : (p : Place) (a : Expr) (width : Num) → folded (record { place = p; kind = kind.Zext a width }) ≡ level_of p (level.Zext (folded a) width)
  unfolding roll-ExprKind denote.Hole.Carrier.roll
  fold-Zext p a width = fold_at p (level.Zext a width)

  pub fold-Sext : (p : Place) (a : Expr) (width : Num) → folded (record { place = p; kind = kind.Sext a width }) ≡ level_of p (level.Sext (folded a) width)
  unfolding roll-ExprKind denote.Hole.Carrier.roll
  fold-Sext p a width = fold_at p (level.Sext a width)

  pub fold-Call : (p : Place) (name : List ℕ) (args : List Expr) → folded (record { place = p; kind = kind.Call name args }) ≡ level_of p (level.Call name (map folded args))
  unfolding roll-ExprKind denote.Hole.Carrier.roll
  fold-Call p name args = fold_at p (level.Call name args)
