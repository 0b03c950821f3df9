use Rattle.std.proofs.Common.{arith}
use Rattle.kp_grammar.specs.Machine.{make}
use Rattle.kp_vread_parse.proofs.Steps.{exits}
use Rattle.kp_vread_parse.proofs.ports.read_inputs.Goals as goal

pub returns-in_err-name : goal.returns-in_err-name
returns-in_err-name c = exits _ _ _ c.from_residual.ensures.1 c.in_err-name.ensures (λ o h s vs. h _ _)

pub returns-in_err-rst : goal.returns-in_err-rst
returns-in_err-rst c = exits _ _ _ c.from_residual-in_err-rst.ensures.1 c.in_err-rst.ensures (λ o h s vs. c.in_ok-name.ensures.leads _ _ _ (h _ _))

pub returns-in_err-all : goal.returns-in_err-all
returns-in_err-all c =
    exits _ _ _ c.from_residual-in_err-all.ensures.1 c.in_err-all.ensures (λ o h s vs. c.in_ok-name.ensures.leads _ _ _ (c.in_ok-rst.ensures.leads _ _ _ (make (h _ _))))

pub returns : goal.returns
returns c = record {
  leads = λ s vs o h. c.in_ok-name.ensures.leads _ _ _ (c.in_ok-rst.ensures.leads _ _ _ (make (c.in_ok-all.ensures.leads _ _ _ (rw c.new-samples.ensures at h))));
  shrinks = omega (arith, c.in_ok-name.ensures.shrinks, c.in_ok-rst.ensures.shrinks, c.in_ok-all.ensures.shrinks);
}
