-- The operators of each level.
use Rattle.std.specs.Prelude.{ℕ, ◌≡◌, ◌==◌, List, [], ◌∷◌, Option, Some, find}
use Rattle.kp_base.specs.declared.place.Place.{Place}
use Rattle.kp_bits.specs.declared.operator.BinOp.{BinOp}
use Rattle.kp_bits.specs.declared.operator.BinOp.TheVariants as ops
use Rattle.kp_lex.specs.declared.token.Mark.{Mark}
use Rattle.kp_parse_grammar.specs.{declared.level.Level.Level, Tokens.mark_class, Tokens.Lexeme, Reading.class_at, Reading.Finds}
use Rattle.kp_lex.specs.declared.token.Mark.TheVariants as marks
use Rattle.kp_parse_grammar.specs.declared.level.Level.TheVariants as levels

abbrev pub operators_of : Level → List (Mark × BinOp)
operators_of levels.Or = (marks.Bar, ops.Or) ∷ []
operators_of levels.Xor = (marks.Caret, ops.Xor) ∷ []
operators_of levels.And = (marks.Ampersand, ops.And) ∷ []
operators_of levels.Compare = (marks.EqualsEquals, ops.Eq) ∷ (marks.Less, ops.Lt) ∷ []
operators_of levels.Shift = (marks.ShiftLeft, ops.Shl) ∷ (marks.ShiftRight, ops.Shr) ∷ []
operators_of levels.Sum = (marks.Plus, ops.Add) ∷ (marks.Minus, ops.Sub) ∷ []
operators_of levels.Product = (marks.Star, ops.Mul) ∷ []

-- the one whose punctuator is of this class
abbrev pub operator_at : ℕ → List (Mark × BinOp) → Option (Mark × BinOp)
operator_at c all = find (λ o. c == mark_class o.0) all

-- Token i is an operator of the level, at this position, and token j is the next one.
pub record HasOperator (ts : List Lexeme) (l : Level) (op : BinOp) (p : Place) (i j : ℕ) : Type 0 where
  pub mark : Mark
  pub operator : operator_at (class_at ts i) (operators_of l) ≡ Some (mark, op)
  pub finds : Finds ts (mark_class mark) p i j
