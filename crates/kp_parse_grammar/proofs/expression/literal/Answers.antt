use Rattle.std.proofs.Common.{arith}
use Rattle.kp_grammar.specs.Machine.{make}
use Rattle.kp_parse_grammar.proofs.{Steps.exits, Picks.prim_literal}
use Rattle.kp_parse_grammar.proofs.expression.literal.Goals as goal

pub returns-in_err-lit : goal.returns-in_err-lit
returns-in_err-lit c = exits _ _ _ c.from_residual.ensures.1 c.in_err-lit.ensures (λ o h s cs vs. prim_literal c.requires.first (h _ _ _))

pub returns : goal.returns
returns c = record {
  leads = λ s cs vs o h. prim_literal c.requires.first (c.in_ok-lit.ensures.leads _ _ _ _ (make h));
  grows = omega arith;
  limit = c.requires.limit;
  shrinks = c.in_ok-lit.ensures.shrinks;
}
