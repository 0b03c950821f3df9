use Rattle.std.proofs.Common.{◌≡◌, drop}
use Rattle.kp_parse_grammar.specs.{inner.Operators.operators_of, inner.Operators.operator_at, Reading.class_at}
use Rattle.kp_parse_grammar.proofs.expression.operator.Given as goal

abbrev pub invariant-loop-operator : goal.invariant-loop-operator
invariant-loop-operator l = operator_at (class_at l.tokens l.at) (drop l.operator-index l.operators) ≡ operator_at (class_at l.tokens l.at) (operators_of l.fn.level)
