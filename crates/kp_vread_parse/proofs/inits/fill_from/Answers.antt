use Rattle.std.proofs.Common.{arith}
use Rattle.kp_vread_parse.proofs.Steps.{exits}
use Rattle.kp_vread_parse.proofs.inits.fill_from.Goals as goal

pub returns-in_err-next : goal.returns-in_err-next
returns-in_err-next c = exits _ _ _ c.from_residual.ensures.1 c.in_err-next.ensures (λ o h s vs. h _ _)

pub returns-in_err-counter : goal.returns-in_err-counter
returns-in_err-counter c = exits _ _ _ c.from_residual-in_err-counter.ensures.1 c.in_err-counter.ensures (λ o h s vs. c.in_ok-next.ensures.leads _ _ _ (h _ _))

pub returns-in_err-from : goal.returns-in_err-from
returns-in_err-from c =
    exits _ _ _ c.from_residual-in_err-from.ensures.1 c.in_err-from.ensures (λ o h s vs. c.in_ok-next.ensures.leads _ _ _ (c.in_ok-counter.ensures.leads _ _ _ (h _ _)))

pub returns : goal.returns
returns c = record {
  leads = λ s vs o h. c.in_ok-next.ensures.leads _ _ _ (c.in_ok-counter.ensures.leads _ _ _ (c.in_ok-from.ensures.leads _ _ _ (h)));
  shrinks = omega (arith, c.in_ok-next.ensures.shrinks, c.in_ok-counter.ensures.shrinks, c.in_ok-from.ensures.shrinks);
}
