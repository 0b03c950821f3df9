use Rattle.kp_parse.proofs.Picks.{arith, by_dropped, one, exits}
use Rattle.kp_parse_grammar.proofs.Steps.{passed}
use Rattle.kp_parse.proofs.pair.expression_before.Goals as goal

pub returns-in_err-inner : goal.returns-in_err-inner
returns-in_err-inner c = exits _ _ _ c.from_residual.ensures.1 c.in_err-inner.ensures (λ o h s cs vs. h _ _ _)

pub returns-in-Err : goal.returns-in-Err
returns-in-Err c = passed c.in-Err.ensures (λ o h s cs vs. c.in_ok-inner.ensures.leads _ _ _ _ (h _ _ _))

pub returns-in-Ok : goal.returns-in-Ok
returns-in-Ok c = record {
  leads = λ s cs vs o h. c.in_ok-inner.ensures.leads _ _ _ _ (by_dropped c.in-Ok.ensures h);
  shrinks = omega (arith, c.in_ok-inner.ensures.shrinks, one c.in-Ok.ensures);
}
