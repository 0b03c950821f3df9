-- A fold over a plan, one level at a time: its value for each form, given its values for the parts.
use Rattle.std.proofs.Common.{◌≡◌, ℕ, List, Option, map}
use Rattle.kp_bits.specs.{Word.Word, declared.operator.BinOp.BinOp}
use Rattle.kp_seq_plan.specs.declared.plan.Plan.{Plan, TheOpen.Plan-F, TheViews.roll-Plan, TheFolds.fold-Plan, TheFolds.map-Plan, TheFolds.fold-roll-Plan}
use Rattle.kp_seq_plan.specs.declared.plan.Plan.TheOpen as level
use Rattle.kp_seq_plan.specs.declared.plan.Plan.TheVariants as leaf
use Rattle.kp_seq_plan.specs.declared.plan.Plan.TheViews as plans

module _ (A : Type 0) (step : Plan-F A → A) where
  abbrev folded : Plan → A
  folded = fold-Plan A step

  fold_at : (k : Plan-F Plan) → folded (roll-Plan k) ≡ step (map-Plan Plan A folded k)
  fold_at k = fold-roll-Plan A step k

  pub fold-Word : (w : Option Word) → folded (leaf.Word w) ≡ step (level.Word w)
  unfolding roll-Plan denote.Hole.Carrier.roll
  fold-Word w = fold_at (level.Word w)

  pub fold-Name : (place : Option ℕ) → folded (leaf.Name place) ≡ step (level.Name place)
  unfolding roll-Plan denote.Hole.Carrier.roll
  fold-Name place = fold_at (level.Name place)

  pub fold-Not : (a : Plan) → folded (plans.Not a) ≡ step (level.Not (folded a))
  unfolding roll-Plan denote.Hole.Carrier.roll
  fold-Not a = fold_at (level.Not a)

  pub fold-Binary : (op : BinOp) (a b : Plan) → folded (plans.Binary op a b) ≡ step (level.Binary op (folded a) (folded b))
  unfolding roll-Plan denote.Hole.Carrier.roll
  fold-Binary op a b = fold_at (level.Binary op a b)

  pub fold-Mux : (test a b : Plan) → folded (plans.Mux test a b) ≡ step (level.Mux (folded test) (folded a) (folded b))
  unfolding roll-Plan denote.Hole.Carrier.roll
  fold-Mux test a b = fold_at (level.Mux test a b)

  pub fold-Concat : (parts : List Plan) → folded (plans.Concat parts) ≡ step (level.Concat (map folded parts))
  unfolding roll-Plan denote.Hole.Carrier.roll
  fold-Concat parts = fold_at (level.Concat parts)

  pub fold-Slice : (a : Plan) (hi lo : ℕ) → folded (plans.Slice a hi lo) ≡ step (level.Slice (folded a) hi lo)
  unfolding roll-Plan denote.Hole.Carrier.roll
  fold-Slice a hi lo = fold_at (level.Slice a hi lo)

  pub fold-Zext : (a : Plan) (width : ℕ) → folded (plans.Zext a width) ≡ step (level.Zext (folded a) width)
  unfolding roll-Plan denote.Hole.Carrier.roll
  fold-Zext a width = fold_at (level.Zext a width)

  pub fold-Sext : (a : Plan) (width : ℕ) → folded (plans.Sext a width) ≡ step (level.Sext (folded a) width)
  unfolding roll-Plan denote.Hole.Carrier.roll
  fold-Sext a width = fold_at (level.Sext a width)

  pub fold-Call : (args : List Plan) (body : Plan) → folded (plans.Call args body) ≡ step (level.Call (map folded args) (folded body))
  unfolding roll-Plan denote.Hole.Carrier.roll
  fold-Call args body = fold_at (level.Call args body)
