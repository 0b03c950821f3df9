use Rattle.std.proofs.Common.{arith}
use Rattle.kp_vread_parse.proofs.Steps.{exits}
use Rattle.kp_vread_parse.proofs.inits.fill_limit.Goals as goal

pub returns-in_err-tested : goal.returns-in_err-tested
returns-in_err-tested c = exits _ _ _ c.from_residual.ensures.1 c.in_err-tested.ensures (λ o h s vs. h _ _)

pub returns-in_err-limit : goal.returns-in_err-limit
returns-in_err-limit c = exits _ _ _ c.from_residual-in_err-limit.ensures.1 c.in_err-limit.ensures (λ o h s vs. c.in_ok-tested.ensures.leads _ _ _ (h _ _))

pub returns : goal.returns
returns c = record {
  leads = λ s vs o h. c.in_ok-tested.ensures.leads _ _ _ (c.in_ok-limit.ensures.leads _ _ _ (h));
  shrinks = omega (arith, c.in_ok-tested.ensures.shrinks, c.in_ok-limit.ensures.shrinks);
}
