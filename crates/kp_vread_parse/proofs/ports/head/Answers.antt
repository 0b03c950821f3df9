use Rattle.std.proofs.Common.{arith}
use Rattle.kp_vread_parse.proofs.Steps.{exits}
use Rattle.kp_vread_parse.proofs.ports.head.Goals as goal

pub returns-in_err-next : goal.returns-in_err-next
returns-in_err-next c = exits _ _ _ c.from_residual.ensures.1 c.in_err-next.ensures (λ o h s vs. h _ _)

pub returns-in_err-name : goal.returns-in_err-name
returns-in_err-name c = exits _ _ _ c.from_residual-in_err-name.ensures.1 c.in_err-name.ensures (λ o h s vs. c.in_ok-next.ensures.leads _ _ _ (h _ _))

pub returns-in_err-clk : goal.returns-in_err-clk
returns-in_err-clk c =
    exits _ _ _ c.from_residual-in_err-clk.ensures.1 c.in_err-clk.ensures (λ o h s vs. c.in_ok-next.ensures.leads _ _ _ (c.in_ok-name.ensures.leads _ _ _ (c.wire.ensures.leads _ _ _ (h _ _))))

pub returns : goal.returns
returns c = record {
  leads = λ s vs o h. c.in_ok-next.ensures.leads _ _ _ (c.in_ok-name.ensures.leads _ _ _ (c.wire.ensures.leads _ _ _ (c.in_ok-clk.ensures.leads _ _ _ (c.wire-2.ensures.leads _ _ _ (h)))));
  shrinks = omega (arith, c.in_ok-next.ensures.shrinks, c.in_ok-name.ensures.shrinks, c.wire.ensures.shrinks, c.in_ok-clk.ensures.shrinks, c.wire-2.ensures.shrinks);
}
