use Rattle.kp_parse.proofs.Picks.{arith, make, exits, span_is}
use Rattle.kp_parse.proofs.sections.span.Goals as goal

pub returns-in_err-stage : goal.returns-in_err-stage
returns-in_err-stage c = exits _ _ _ c.from_residual.ensures.1 c.in_err-stage.ensures (λ o h s cs vs. span_is (h _ _ _))

pub returns-in_err-from : goal.returns-in_err-from
returns-in_err-from c =
    exits _ _ _ c.from_residual-in_err-from.ensures.1 c.in_err-from.ensures (λ o h s cs vs. span_is (c.in_ok-stage.ensures.leads _ _ _ _ (h _ _ _)))

pub returns : goal.returns
returns c = record {
  leads = λ s cs vs o h. span_is (c.in_ok-stage.ensures.leads _ _ _ _ (c.in_ok-from.ensures.leads _ _ _ _ (make (h))));
  shrinks = omega (arith, c.in_ok-stage.ensures.shrinks, c.in_ok-from.ensures.shrinks);
}
