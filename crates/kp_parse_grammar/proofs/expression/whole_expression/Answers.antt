use Rattle.kp_grammar.specs.Machine.{make}
use Rattle.kp_parse_grammar.proofs.{Steps.exits, Picks.whole_is}
use Rattle.kp_parse_grammar.proofs.expression.whole_expression.Goals as goal

pub returns-in_err-expr : goal.returns-in_err-expr
returns-in_err-expr c = exits _ _ _ c.from_residual.ensures.1 c.in_err-expr.ensures (λ o h s cs vs. whole_is (make (h _ _ _)))

pub returns : goal.returns
returns c = record {
  leads = λ s cs vs o h. whole_is (make (c.in_ok-expr.ensures.leads _ _ _ _ (make h)));
  shrinks = c.in_ok-expr.ensures.shrinks;
}
