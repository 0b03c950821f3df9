use Rattle.kp_parse.proofs.Picks.{arith, make, exits, par_is}
use Rattle.kp_parse.proofs.declaration.parameter.Goals as goal

pub returns-in_err-name : goal.returns-in_err-name
returns-in_err-name c = exits _ _ _ c.from_residual.ensures.1 c.in_err-name.ensures (λ o h s cs vs. par_is (h _ _ _))

pub returns-in_err-width : goal.returns-in_err-width
returns-in_err-width c =
    exits _ _ _ c.from_residual-in_err-width.ensures.1 c.in_err-width.ensures (λ o h s cs vs. par_is (c.in_ok-name.ensures.leads _ _ _ _ (h _ _ _)))

pub returns : goal.returns
returns c = record {
  leads = λ s cs vs o h. par_is (c.in_ok-name.ensures.leads _ _ _ _ (c.in_ok-width.ensures.leads _ _ _ _ (make h)));
  shrinks = omega (arith, c.in_ok-name.ensures.shrinks, c.in_ok-width.ensures.shrinks);
}
