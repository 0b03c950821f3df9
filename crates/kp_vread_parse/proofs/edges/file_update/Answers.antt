use Rattle.std.proofs.Common.{arith}
use Rattle.kp_grammar.specs.Machine.{make}
use Rattle.kp_vread_parse.proofs.Steps.{exits}
use Rattle.kp_vread_parse.proofs.edges.file_update.Goals as goal

pub returns-in_err-file : goal.returns-in_err-file
returns-in_err-file c = exits _ _ _ c.from_residual.ensures.1 c.in_err-file.ensures (λ o h s vs. h _ _)

pub returns-in_err-address : goal.returns-in_err-address
returns-in_err-address c = exits _ _ _ c.from_residual-in_err-address.ensures.1 c.in_err-address.ensures (λ o h s vs. c.in_ok-file.ensures.leads _ _ _ (h _ _))

pub returns-in_err-value : goal.returns-in_err-value
returns-in_err-value c =
    exits _ _ _ c.from_residual-in_err-value.ensures.1 c.in_err-value.ensures (λ o h s vs. c.in_ok-file.ensures.leads _ _ _ (c.in_ok-address.ensures.leads _ _ _ (h _ _)))

pub returns : goal.returns
returns c = record {
  leads = λ s vs o h. c.in_ok-file.ensures.leads _ _ _ (c.in_ok-address.ensures.leads _ _ _ (c.in_ok-value.ensures.leads _ _ _ (make (h))));
  shrinks = omega (arith, c.in_ok-file.ensures.shrinks, c.in_ok-address.ensures.shrinks, c.in_ok-value.ensures.shrinks);
}
