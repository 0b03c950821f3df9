use Rattle.std.proofs.Common.{◌∷◌}
use Rattle.kp_parse_grammar.{proofs.Steps.over, proofs.Steps.exits, proofs.Steps.exceeds, specs.Language.at}
use Rattle.kp_parse_grammar.proofs.expression.opened.Goals as goal

pub returns-in_err-place : goal.returns-in_err-place
returns-in_err-place c = exits _ _ _ c.from_residual.ensures.1 c.in_err-place.ensures (λ o h way _ s cs vs. h way s (at (c.args.count ∷ cs) vs))

pub returns-in_err-deeper : goal.returns-in_err-deeper
returns-in_err-deeper c = exceeds _ _ _ _ c.from_residual-in_err-deeper.ensures.1 c.in_err-deeper.ensures (over c.in_ok-place.ensures c.in_err-deeper.ensures.1)
