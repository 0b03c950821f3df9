use Rattle.kp_parse.proofs.Picks.{arith, by_dropped, one, exits}
use Rattle.kp_parse.proofs.job.sections.Goals as goal

pub returns-in_err-image : goal.returns-in_err-image
returns-in_err-image c = exits _ _ _ c.from_residual.ensures.1 c.in_err-image.ensures (λ o h s cs vs. h _ _ _)

pub returns-in_err-stalls : goal.returns-in_err-stalls
returns-in_err-stalls c =
    exits _ _ _ c.from_residual-in_err-stalls.ensures.1 c.in_err-stalls.ensures (λ o h s cs vs. c.in_ok-image.ensures.leads _ _ _ _ (h _ _ _))

pub returns-in_err-inputs : goal.returns-in_err-inputs
returns-in_err-inputs c =
    exits _ _ _ c.from_residual-in_err-inputs.ensures.1 c.in_err-inputs.ensures (λ o h s cs vs. c.in_ok-image.ensures.leads _ _ _ _ (c.in_ok-stalls.ensures.leads _ _ _ _ (h _ _ _)))

pub returns-in_err-_end : goal.returns-in_err-_end
returns-in_err-_end c =
    exits _ _ _ c.from_residual-in_err-_end.ensures.1 c.in_err-_end.ensures (λ o h s cs vs. c.in_ok-image.ensures.leads _ _ _ _ (c.in_ok-stalls.ensures.leads _ _ _ _ (c.in_ok-inputs.ensures.leads _ _ _ _ (h _ _ _))))

pub returns : goal.returns
returns c = record {
  leads = λ s cs vs o h. c.in_ok-image.ensures.leads _ _ _ _ (c.in_ok-stalls.ensures.leads _ _ _ _ (c.in_ok-inputs.ensures.leads _ _ _ _ (by_dropped c.in_ok-_end.ensures (h))));
  shrinks = omega (arith, c.in_ok-image.ensures.shrinks, c.in_ok-stalls.ensures.shrinks, c.in_ok-inputs.ensures.shrinks, one c.in_ok-_end.ensures);
}
