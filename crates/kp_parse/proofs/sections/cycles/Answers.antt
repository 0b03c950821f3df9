use Rattle.kp_parse.proofs.Picks.{arith, by_dropped, one, exits}
use Rattle.kp_parse.proofs.sections.cycles.Goals as goal

pub returns-in_err-_from : goal.returns-in_err-_from
returns-in_err-_from c = exits _ _ _ c.from_residual.ensures.1 c.in_err-_from.ensures (λ o h s cs vs. h _ _ _)

pub returns-in_err-from : goal.returns-in_err-from
returns-in_err-from c = exits _ _ _ c.from_residual-in_err-from.ensures.1 c.in_err-from.ensures (λ o h s cs vs. by_dropped c.in_ok-_from.ensures (h _ _ _))

pub returns-in_err-_to : goal.returns-in_err-_to
returns-in_err-_to c =
    exits _ _ _ c.from_residual-in_err-_to.ensures.1 c.in_err-_to.ensures (λ o h s cs vs. by_dropped c.in_ok-_from.ensures (c.in_ok-from.ensures.leads _ _ _ _ (h _ _ _)))

pub returns-in_err-to : goal.returns-in_err-to
returns-in_err-to c =
    exits _ _ _ c.from_residual-in_err-to.ensures.1 c.in_err-to.ensures (λ o h s cs vs. by_dropped c.in_ok-_from.ensures (c.in_ok-from.ensures.leads _ _ _ _ (by_dropped c.in_ok-_to.ensures (h _ _ _))))

pub returns-in_err-step : goal.returns-in_err-step
returns-in_err-step c =
    exits _ _ _ c.from_residual-in_err-step.ensures.1 c.in_err-step.ensures (λ o h s cs vs. by_dropped c.in_ok-_from.ensures (c.in_ok-from.ensures.leads _ _ _ _ (by_dropped c.in_ok-_to.ensures (c.in_ok-to.ensures.leads _ _ _ _ (h _ _ _)))))

pub returns-in_err-_end : goal.returns-in_err-_end
returns-in_err-_end c =
    exits _ _ _ c.from_residual-in_err-_end.ensures.1 c.in_err-_end.ensures (λ o h s cs vs. by_dropped c.in_ok-_from.ensures (c.in_ok-from.ensures.leads _ _ _ _ (by_dropped c.in_ok-_to.ensures (c.in_ok-to.ensures.leads _ _ _ _ (c.in_ok-step.ensures.leads _ _ _ _ (h _ _ _))))))

pub returns : goal.returns
returns c = record {
  leads = λ s cs vs o h. by_dropped c.in_ok-_from.ensures (c.in_ok-from.ensures.leads _ _ _ _ (by_dropped c.in_ok-_to.ensures (c.in_ok-to.ensures.leads _ _ _ _ (c.in_ok-step.ensures.leads _ _ _ _ (by_dropped c.in_ok-_end.ensures h)))));
  shrinks = omega (arith, one c.in_ok-_from.ensures, c.in_ok-from.ensures.shrinks, one c.in_ok-_to.ensures, c.in_ok-to.ensures.shrinks, c.in_ok-step.ensures.shrinks, one c.in_ok-_end.ensures);
}
