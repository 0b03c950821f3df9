use Rattle.std.proofs.Common.{arith}
use Rattle.kp_vread_parse.proofs.Steps.{exits}
use Rattle.kp_vread_parse.proofs.tokens.Tokens.literal_before.Goals as goal

pub returns-in_err-literal : goal.returns-in_err-literal
returns-in_err-literal c = exits _ _ _ c.from_residual.ensures.1 c.in_err-literal.ensures (λ o h s vs. h _ _)

pub returns-in_err-next : goal.returns-in_err-next
returns-in_err-next c = exits _ _ _ c.from_residual-in_err-next.ensures.1 c.in_err-next.ensures (λ o h s vs. c.in_ok-literal.ensures.leads _ _ _ (h _ _))

pub returns : goal.returns
returns c = record {
  leads = λ s vs o h. c.in_ok-literal.ensures.leads _ _ _ (c.in_ok-next.ensures.leads _ _ _ (h));
  shrinks = omega (arith, c.in_ok-literal.ensures.shrinks, c.in_ok-next.ensures.shrinks);
}
