use Rattle.std.proofs.Common.{arith}
use Rattle.kp_vread_parse.proofs.Steps.{exits}
use Rattle.kp_vread_parse.proofs.inits.fill_step.Goals as goal

pub returns-in_err-stepped : goal.returns-in_err-stepped
returns-in_err-stepped c = exits _ _ _ c.from_residual.ensures.1 c.in_err-stepped.ensures (λ o h s vs. h _ _)

pub returns-in_err-old : goal.returns-in_err-old
returns-in_err-old c = exits _ _ _ c.from_residual-in_err-old.ensures.1 c.in_err-old.ensures (λ o h s vs. c.in_ok-stepped.ensures.leads _ _ _ (h _ _))

pub returns-in_err-by : goal.returns-in_err-by
returns-in_err-by c =
    exits _ _ _ c.from_residual-in_err-by.ensures.1 c.in_err-by.ensures (λ o h s vs. c.in_ok-stepped.ensures.leads _ _ _ (c.in_ok-old.ensures.leads _ _ _ (h _ _)))

pub returns : goal.returns
returns c = record {
  leads = λ s vs o h. c.in_ok-stepped.ensures.leads _ _ _ (c.in_ok-old.ensures.leads _ _ _ (c.in_ok-by.ensures.leads _ _ _ (h)));
  shrinks = omega (arith, c.in_ok-stepped.ensures.shrinks, c.in_ok-old.ensures.shrinks, c.in_ok-by.ensures.shrinks);
}
