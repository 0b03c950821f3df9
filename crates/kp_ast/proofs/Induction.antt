-- Induction over expressions.
use Rattle.std.proofs.Common.{◌≡◌, ℕ, List, [], ◌∷◌, map, subst}
use Rattle.kp_base.specs.declared.place.Place.{Place}
use Rattle.kp_bits.specs.declared.{literal.Literal.Literal, operator.BinOp.BinOp}
use Rattle.kp_ast.specs.declared.tree.{Num.Num, Expr.Expr, ExprKind.ExprKind, ExprKind.TheOpen.ExprKind-F, ExprKind.TheOpen.Expr-F}
use Rattle.kp_ast.specs.declared.tree.ExprKind.{TheViews.roll-ExprKind, TheViews.roll-Expr, TheFolds.map-ExprKind, TheFolds.map-Expr, TheFolds.ind-Expr}
use Rattle.kp_ast.specs.declared.tree.ExprKind.TheOpen as level
use Rattle.kp_ast.specs.declared.tree.ExprKind.TheVariants as leaf
use Rattle.kp_ast.specs.declared.tree.ExprKind.TheViews as kind

-- P of each expression in a list
abbrev pub Every : (Expr → Type 0) → List Expr → Type 0
Every P [] = Unit {0}
Every P (e ∷ es) = P e × Every P es

-- P of an expression of each form, from P of its parts
pub record IsInductive (P : Expr → Type 0) : Type 0 where
  pub literal : (p : Place) (l : Literal) → P (record { place = p; kind = leaf.Lit l })
  pub name : (p : Place) (name : List ℕ) → P (record { place = p; kind = leaf.Name name })
  pub not_ : (p : Place) (a : Expr) → P a → P (record { place = p; kind = kind.Not a })
  pub binary : (p : Place) (op : BinOp) (a : Expr) (b : Expr) → P a → P b → P (record { place = p; kind = kind.Binary op a b })
  pub mux : (p : Place) (test : Expr) (a : Expr) (b : Expr) → P test → P a → P b → P (record { place = p; kind = kind.Mux test a b })
  pub concat : (p : Place) (parts : List Expr) → Every P parts → P (record { place = p; kind = kind.Concat parts })
  pub slice : (p : Place) (a : Expr) (hi : ℕ) (lo : ℕ) → P a → P (record { place = p; kind = kind.Slice a hi lo })
  pub zext : (p : Place) (a : Expr) (width : Num) → P a → P (record { place = p; kind = kind.Zext a width })
  pub sext : (p : Place) (a : Expr) (width : Num) → P a → P (record { place = p; kind = kind.Sext a width })
  pub call : (p : Place) (name : List ℕ) (args : List Expr) → Every P args → P (record { place = p; kind = kind.Call name args })

every : (P : Expr → Type 0) (es : List ((e : Expr) × P e)) → Every P (map (λ e. e.0) es)
every P [] = tt
every P (e ∷ es) = (e.1, every P es)

module _ (P : Expr → Type 0) (h : IsInductive P) where
  abbrev AtAll : ExprKind → Type 0
  AtAll k = (p : Place) → P (record { place = p; kind = k })

  abbrev Kind : Type 0
  Kind = (k : ExprKind) × AtAll k

  abbrev Part : Type 0
  Part = (e : Expr) × P e

  -- x is the level, and y is x with a proof for each part
  at_kind : (x : ExprKind-F ExprKind Expr) (y : ExprKind-F Kind Part) → map-ExprKind Kind Part ExprKind Expr (λ e. e.0) (λ e. e.0) y ≡ x → AtAll (roll-ExprKind x)
  unfolding roll-ExprKind denote.Hole.Carrier.roll
  at_kind x (level.Lit l) is = subst (λ z. AtAll (roll-ExprKind z)) is (λ p. h.literal p l)
  at_kind x (level.Name name) is = subst (λ z. AtAll (roll-ExprKind z)) is (λ p. h.name p name)
  at_kind x (level.Not a) is = subst (λ z. AtAll (roll-ExprKind z)) is (λ p. h.not_ p a.0 a.1)
  at_kind x (level.Binary op a b) is = subst (λ z. AtAll (roll-ExprKind z)) is (λ p. h.binary p op a.0 b.0 a.1 b.1)
  at_kind x (level.Mux test a b) is = subst (λ z. AtAll (roll-ExprKind z)) is (λ p. h.mux p test.0 a.0 b.0 test.1 a.1 b.1)
  at_kind x (level.Concat parts) is = subst (λ z. AtAll (roll-ExprKind z)) is (λ p. h.concat p (map (λ e. e.0) parts) (every P parts))
  at_kind x (level.Slice a hi lo) is = subst (λ z. AtAll (roll-ExprKind z)) is (λ p. h.slice p a.0 hi lo a.1)
  at_kind x (level.Zext a width) is = subst (λ z. AtAll (roll-ExprKind z)) is (λ p. h.zext p a.0 width a.1)
  at_kind x (level.Sext a width) is = subst (λ z. AtAll (roll-ExprKind z)) is (λ p. h.sext p a.0 width a.1)
  at_kind x (level.Call name args) is = subst (λ z. AtAll (roll-ExprKind z)) is (λ p. h.call p name (map (λ e. e.0) args) (every P args))

  at_expr : (x : Expr-F ExprKind Expr) (y : Expr-F Kind Part) → map-Expr Kind Part ExprKind Expr (λ e. e.0) (λ e. e.0) y ≡ x → P (roll-Expr x)
  at_expr x y is = subst (λ z. P (roll-Expr z)) is (y.kind.1 y.place)

  pub induction : (e : Expr) → P e
  induction = ind-Expr AtAll P at_kind at_expr
