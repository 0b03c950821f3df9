use Rattle.std.proofs.Common.{arith}
use Rattle.kp_vread_parse.proofs.Steps.{exits}
use Rattle.kp_vread_parse.proofs.ports.read_outputs.Goals as goal

pub returns-in_err-full : goal.returns-in_err-full
returns-in_err-full c = exits _ _ _ c.from_residual.ensures.1 c.in_err-full.ensures (λ o h s vs. h _ _)

pub returns-in_err-ue : goal.returns-in_err-ue
returns-in_err-ue c = exits _ _ _ c.from_residual-in_err-ue.ensures.1 c.in_err-ue.ensures (λ o h s vs. c.in_ok-full.ensures.leads _ _ _ (h _ _))

pub returns-in_err-back : goal.returns-in_err-back
returns-in_err-back c =
    exits _ _ _ c.from_residual-in_err-back.ensures.1 c.in_err-back.ensures (λ o h s vs. c.in_ok-full.ensures.leads _ _ _ (c.in_ok-ue.ensures.leads _ _ _ (h _ _)))

pub returns : goal.returns
returns c = record {
  leads = λ s vs o h. c.in_ok-full.ensures.leads _ _ _ (c.in_ok-ue.ensures.leads _ _ _ (c.in_ok-back.ensures.leads _ _ _ (h)));
  shrinks = omega (arith, c.in_ok-full.ensures.shrinks, c.in_ok-ue.ensures.shrinks, c.in_ok-back.ensures.shrinks);
}
