-- Widths of expressions: rules E8 to E13 and E26, each at its position and in its order.
--
-- The parts of an expression are checked from left to right, and an operator after its operands.
use Rattle.std.specs.Prelude.{ℕ, ◌+◌, ◌-◌, ◌^◌, List, [], ◌∷◌, Option, Some, None, Bool, true, false, ◌&&◌, ◌||◌, not, if◌then◌else◌, ◌==◌, nat_lt, nat_le, is_some, min, length, drop, slice_get}
use Rattle.std.specs.List.{list_any}
use Rattle.kp_base.specs.{Check.Check, Check.ok, Check.◌>>=◌, Check.wants, declared.place.Place.Place}
use Rattle.kp_bits.specs.{declared.literal.Literal.Literal, Operators.is_shift, Operators.result_width, declared.operator.BinOp.BinOp}
use Rattle.kp_ast.specs.{Expressions.is_function, declared.tree.Num.Num, declared.tree.Param.Param, declared.tree.Decl.Decl, declared.tree.Expr.Expr}
use Rattle.kp_ast.specs.declared.tree.ExprKind.{TheOpen.ExprKind-F, TheOpen.Expr-F, TheFolds.fold-Expr}
use Rattle.kp_ast.specs.declared.tree.Decl.TheVariants as decls
use Rattle.kp_ast.specs.declared.tree.ExprKind.TheOpen as level
use Rattle.kp_width.specs.{Faults.WidthFinding, Faults.found_at, declared.fault.Position.Position, declared.fault.Destination.Destination}
use Rattle.kp_width.specs.declared.fault.WidthFault.TheVariants as faults
use Rattle.kp_width.specs.declared.fault.Destination.TheVariants as to
use Rattle.kp_width.specs.Names.{Sense, Checked, passed, Scoped, find, used}

-- an expression as a part of another: its position, and the check that computes its width
pub record Part : Type 0 where
  pub at : Place
  pub width : Check WidthFinding ℕ

-- widths are 1 to 64
abbrev pub is_width : ℕ → Bool
is_width w = nat_le 1 w && nat_le w 64

-- E8 and E13: the width of a literal is in 1 to 64, and its value is below 2^width
abbrev pub literal_of : Literal → Place → Check WidthFinding ℕ
literal_of l at = wants (is_width l.width) (found_at at (faults.LiteralWidth l.width)) (wants (nat_lt l.value (2 ^ l.width)) (found_at at (faults.LiteralValue l.value l.width)) (ok l.width))

-- E9: the two operands have the same width, except that a shift accepts any amount; `==` and `<` yield one bit
abbrev pub binary_of : BinOp → (at left right : Place) → ℕ → ℕ → Check WidthFinding ℕ
binary_of op at left right a b = wants (is_shift op || a == b) (found_at at (faults.Operands op a b left right)) (ok (result_width op a))

-- E11 and E9: the test of a choice is one bit wide, and its branches have the same width
abbrev pub choice_of : (at left right : Place) → (condition first second : ℕ) → Check WidthFinding ℕ
choice_of at left right test a b = wants (test == 1) (found_at at (faults.Condition test)) (wants (a == b) (found_at at (faults.Branches a b left right)) (ok a))

-- E12: a slice selects existing bits, the high one first
abbrev pub slice_of : ℕ → ℕ → Place → ℕ → Check WidthFinding ℕ
slice_of hi lo at w = wants (nat_le lo hi && nat_lt hi w) (found_at at (faults.Slice hi lo w)) (ok (hi - lo + 1))

-- E8 and E12: an extension is to a valid width, and to at least the present number of bits
abbrev pub extension_of : Num → Place → ℕ → Check WidthFinding ℕ
extension_of n at w = wants (is_width n.value) (found_at n.at (faults.DeclaredWidth n.value)) (wants (nat_le w n.value) (found_at at (faults.Extension w n.value)) (ok n.value))

-- the sum of the widths of the parts of a concatenation; over 64 the exact sum doesn't matter
abbrev pub sum_of : ℕ → List Part → Check WidthFinding ℕ
sum_of sum [] = ok sum
sum_of sum (e ∷ es) = e.width >>= (λ w. sum_of (min (sum + w) 65) es)

-- E8: the width of a concatenation is in 1 to 64
abbrev pub concatenation_of : Place → ℕ → Check WidthFinding ℕ
concatenation_of at w = wants (is_width w) (found_at at faults.JoinedWidth) (ok w)

-- E10: a value has the width of its destination
abbrev pub value_of : Part → ℕ → Destination → Checked
value_of e w goes = e.width >>= (λ x. wants (x == w) (found_at e.at (faults.Value x w goes)) passed)

-- E11: a condition is one bit wide
abbrev pub condition_of : Part → Checked
condition_of e = e.width >>= (λ x. wants (x == 1) (found_at e.at (faults.Condition x)) passed)

-- whether one of these declares a function of this name
abbrev pub is_declared : List Decl → List ℕ → Bool
is_declared ds name = list_any (is_function name) ds

-- the parameters of the function that the declaration of this number declares
abbrev pub params_in : Option Decl → List Param
params_in (Some (decls.Func f)) = f.params
params_in _ = []

abbrev pub params_of : List Decl → ℕ → List Param
params_of ds i = params_in (slice_get ds i)

abbrev pub width_in : Option Param → ℕ
width_in (Some p) = p.width.value
width_in None = 0

abbrev pub width_at : List Param → ℕ → ℕ
width_at ps i = width_in (slice_get ps i)

-- the arguments of a call of this function, from this number on: each in order, and its E10 immediately after it
abbrev pub arguments_of : ℕ → List Param → ℕ → List Part → Checked
arguments_of function ps i [] = passed
arguments_of function ps i (e ∷ es) = value_of e (width_at ps i) (to.Parameter function i) >>= (λ x. arguments_of function ps (i + 1) es)

-- E26: the function of a call is declared before, and so not here or later, where `done` declarations precede the
-- call. A name in scope, such as a parameter, hides such a function.
abbrev pub callee_of : List Decl → ℕ → Scoped → List ℕ → Place → Check WidthFinding Sense
callee_of ds done s name at =
    wants (is_some (find s name) || not (is_declared (drop done ds) name)) (found_at at (faults.CalledEarly done)) (used s Position.Callee name at)

-- E7: a call has as many arguments as its function has parameters
abbrev pub called_of : List Decl → ℕ → Scoped → List ℕ → ℕ → Place → Check WidthFinding Sense
called_of ds done s name count at =
    callee_of ds done s name at >>= (λ m. wants (count == length (params_of ds m.from)) (found_at at (faults.ArgumentCount count (length (params_of ds m.from)) m.from)) (ok m))

-- a call: its name and the number of its arguments come first, then the arguments
abbrev pub call_of : List Decl → ℕ → Scoped → List ℕ → List Part → Place → Check WidthFinding ℕ
call_of ds done s name es at =
    called_of ds done s name (length es) at >>= (λ m. arguments_of m.from (params_of ds m.from) 0 es >>= (λ x. ok m.width))

-- the width of some kinds of expressions from the widths of their parts
abbrev pub value_in : Scoped → List ℕ → Place → Check WidthFinding ℕ
value_in s name at = used s Position.Value name at >>= (λ m. ok m.width)

abbrev pub concatenation_by : Place → List Part → Check WidthFinding ℕ
concatenation_by at parts = sum_of 0 parts >>= (λ w. concatenation_of at w)

abbrev pub slice_by : ℕ → ℕ → Place → Part → Check WidthFinding ℕ
slice_by hi lo at a = a.width >>= (λ w. slice_of hi lo at w)

abbrev pub extension_by : Num → Place → Part → Check WidthFinding ℕ
extension_by n at a = a.width >>= (λ w. extension_of n at w)

-- one level: the width of an expression from the widths of its parts
abbrev pub width_of_kind : List Decl → ℕ → Scoped → ExprKind-F (Place → Check WidthFinding ℕ) Part → Place → Check WidthFinding ℕ
width_of_kind ds done s (level.Lit l) at = literal_of l at
width_of_kind ds done s (level.Name name) at = value_in s name at
width_of_kind ds done s (level.Not a) at = a.width
width_of_kind ds done s (level.Binary op a b) at = a.width >>= (λ x. b.width >>= (λ y. binary_of op at a.at b.at x y))
width_of_kind ds done s (level.Mux test a b) at = test.width >>= (λ t. a.width >>= (λ x. b.width >>= (λ y. choice_of at a.at b.at t x y)))
width_of_kind ds done s (level.Concat parts) at = concatenation_by at parts
width_of_kind ds done s (level.Slice a hi lo) at = slice_by hi lo at a
width_of_kind ds done s (level.Zext a n) at = extension_by n at a
width_of_kind ds done s (level.Sext a n) at = extension_by n at a
width_of_kind ds done s (level.Call name args) at = call_of ds done s name args at

abbrev pub part_of_level : Expr-F (Place → Check WidthFinding ℕ) Part → Part
part_of_level e = record { at = e.place; width = e.kind e.place }

-- an expression at a position in the text that `done` declarations precede
abbrev pub part_of : List Decl → ℕ → Scoped → Expr → Part
part_of ds done s = fold-Expr (Place → Check WidthFinding ℕ) Part (width_of_kind ds done s) part_of_level

abbrev pub width_of : List Decl → ℕ → Scoped → Expr → Check WidthFinding ℕ
width_of ds done s e = (part_of ds done s e).width
