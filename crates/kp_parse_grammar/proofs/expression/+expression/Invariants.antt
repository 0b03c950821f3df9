use Rattle.std.proofs.Common.{◌-◌, ◌*◌, ◌+◌, [], ◌∷◌, length, drop}
use Rattle.kp_parse_grammar.specs.{inner.Rank.rank, Language.expr, Language.POST, Language.SLICES, Language.CHAIN, Language.MORE}
use Rattle.kp_parse_grammar.specs.Reading.{ReadsYet, ListsYet}
use Rattle.kp_parse_grammar.proofs.expression.+expression.Given as goal

abbrev pub decreases-expression : goal.decreases-expression
decreases-expression l = (65 - l.count) * 21 + 19

abbrev pub decreases-chain : goal.decreases-chain
decreases-chain l = (65 - l.count) * 21 + (rank l.level + 2)

abbrev pub decreases-operand : goal.decreases-operand
decreases-operand l = (65 - l.count) * 21 + (rank l.level + 1)

abbrev pub decreases-unary : goal.decreases-unary
decreases-unary l = (65 - l.count) * 21 + 3

abbrev pub decreases-post : goal.decreases-post
decreases-post l = (65 - l.count) * 21 + 2

abbrev pub decreases-prim : goal.decreases-prim
decreases-prim l = (65 - l.count) * 21 + 1

abbrev pub decreases-named : goal.decreases-named
decreases-named l = (65 - l.count) * 21

abbrev pub decreases-concatenation : goal.decreases-concatenation
decreases-concatenation l = (65 - l.count) * 21

abbrev pub decreases-expressions : goal.decreases-expressions
decreases-expressions l = (65 - l.count) * 21 + 20

abbrev pub decreases-bracket : goal.decreases-bracket
decreases-bracket l = (65 - l.count) * 21

abbrev pub decreases-extension : goal.decreases-extension
decreases-extension l = (65 - l.count) * 21

abbrev pub invariant-chain-operators : goal.invariant-chain-operators
invariant-chain-operators l = ReadsYet l.tokens (CHAIN l.level) l.fn.count (MORE l.level) (expr l.left ∷ []) l.count l.at l.here

abbrev pub decreases-chain-operators : goal.decreases-chain-operators
decreases-chain-operators l = 65 - l.count

abbrev pub invariant-post-slices : goal.invariant-post-slices
invariant-post-slices l = ReadsYet l.tokens POST l.fn.count SLICES (expr l.inner ∷ []) l.count l.at l.here

abbrev pub decreases-post-slices : goal.decreases-post-slices
decreases-post-slices l = 65 - l.count

abbrev pub invariant-expressions-parts : goal.invariant-expressions-parts
invariant-expressions-parts l = ListsYet l.tokens l.all.items l.count l.at l.here

abbrev pub decreases-expressions-parts : goal.decreases-expressions-parts
decreases-expressions-parts l = length (drop l.here l.tokens)
