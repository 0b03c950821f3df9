-- A fold over a code, one level at a time: its value for each form, given its values for the parts.
use Rattle.std.proofs.Common.{◌≡◌, ℕ, List, map}
use Rattle.kp_bits.specs.declared.operator.BinOp.{BinOp}
use Rattle.kp_seq_plan.specs.declared.code.Code.{Code, TheOpen.Code-F, TheViews.roll-Code, TheFolds.fold-Code, TheFolds.map-Code, TheFolds.fold-roll-Code}
use Rattle.kp_seq_plan.specs.declared.code.Code.TheOpen as level
use Rattle.kp_seq_plan.specs.declared.code.Code.TheVariants as leaf
use Rattle.kp_seq_plan.specs.declared.code.Code.TheViews as codes

module _ (A : Type 0) (step : Code-F A → A) where
  abbrev folded : Code → A
  folded = fold-Code A step

  fold_at : (k : Code-F Code) → folded (roll-Code k) ≡ step (map-Code Code A folded k)
  fold_at k = fold-roll-Code A step k

  pub code-Word : (w : ℕ) → folded (leaf.Word w) ≡ step (level.Word w)
  unfolding roll-Code denote.Hole.Carrier.roll
  code-Word w = fold_at (level.Word w)

  pub code-Name : (place : ℕ) → folded (leaf.Name place) ≡ step (level.Name place)
  unfolding roll-Code denote.Hole.Carrier.roll
  code-Name place = fold_at (level.Name place)

  pub code-Not : (a : Code) (mask : ℕ) → folded (codes.Not a mask) ≡ step (level.Not (folded a) mask)
  unfolding roll-Code denote.Hole.Carrier.roll
  code-Not a mask = fold_at (level.Not a mask)

  pub code-Binary : (op : BinOp) (a b : Code) (width mask : ℕ) → folded (codes.Binary op a b width mask) ≡ step (level.Binary op (folded a) (folded b) width mask)
  unfolding roll-Code denote.Hole.Carrier.roll
  code-Binary op a b width mask = fold_at (level.Binary op a b width mask)

  pub code-Mux : (test a b : Code) → folded (codes.Mux test a b) ≡ step (level.Mux (folded test) (folded a) (folded b))
  unfolding roll-Code denote.Hole.Carrier.roll
  code-Mux test a b = fold_at (level.Mux test a b)

  pub code-Join : (high low : Code) (width : ℕ) → folded (codes.Join high low width) ≡ step (level.Join (folded high) (folded low) width)
  unfolding roll-Code denote.Hole.Carrier.roll
  code-Join high low width = fold_at (level.Join high low width)

  pub code-Slice : (a : Code) (lo mask : ℕ) → folded (codes.Slice a lo mask) ≡ step (level.Slice (folded a) lo mask)
  unfolding roll-Code denote.Hole.Carrier.roll
  code-Slice a lo mask = fold_at (level.Slice a lo mask)

  pub code-Sext : (a : Code) (top more : ℕ) → folded (codes.Sext a top more) ≡ step (level.Sext (folded a) top more)
  unfolding roll-Code denote.Hole.Carrier.roll
  code-Sext a top more = fold_at (level.Sext a top more)

  pub code-Call : (args : List Code) (body : Code) → folded (codes.Call args body) ≡ step (level.Call (map folded args) (folded body))
  unfolding roll-Code denote.Hole.Carrier.roll
  code-Call args body = fold_at (level.Call args body)

  pub code-Same : (place word : ℕ) → folded (leaf.Same place word) ≡ step (level.Same place word)
  unfolding roll-Code denote.Hole.Carrier.roll
  code-Same place word = fold_at (level.Same place word)

  pub code-Field : (place lo mask : ℕ) → folded (leaf.Field place lo mask) ≡ step (level.Field place lo mask)
  unfolding roll-Code denote.Hole.Carrier.roll
  code-Field place lo mask = fold_at (level.Field place lo mask)

  pub code-Flip : (place mask : ℕ) → folded (leaf.Flip place mask) ≡ step (level.Flip place mask)
  unfolding roll-Code denote.Hole.Carrier.roll
  code-Flip place mask = fold_at (level.Flip place mask)

  pub code-Among : (place set : ℕ) → folded (leaf.Among place set) ≡ step (level.Among place set)
  unfolding roll-Code denote.Hole.Carrier.roll
  code-Among place set = fold_at (level.Among place set)

  pub code-Case : (place word : ℕ) (a b : Code) → folded (codes.Case place word a b) ≡ step (level.Case place word (folded a) (folded b))
  unfolding roll-Code denote.Hole.Carrier.roll
  code-Case place word a b = fold_at (level.Case place word a b)
