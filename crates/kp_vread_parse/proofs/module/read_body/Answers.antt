use Rattle.std.proofs.Common.{arith}
use Rattle.kp_vread_parse.proofs.Steps.{exits}
use Rattle.kp_vread_parse.proofs.module.read_body.Goals as goal

pub returns-in_err-items : goal.returns-in_err-items
returns-in_err-items c = exits _ _ _ c.from_residual.ensures.1 c.in_err-items.ensures (λ o h s vs. h _ _)

pub returns-in_err-edge : goal.returns-in_err-edge
returns-in_err-edge c = exits _ _ _ c.from_residual-in_err-edge.ensures.1 c.in_err-edge.ensures (λ o h s vs. c.in_ok-items.ensures.leads _ _ _ (h _ _))

pub returns : goal.returns
returns c = record {
  leads = λ s vs o h. c.in_ok-items.ensures.leads _ _ _ (c.in_ok-edge.ensures.leads _ _ _ (h));
  shrinks = omega (arith, c.in_ok-items.ensures.shrinks, c.in_ok-edge.ensures.shrinks);
}
