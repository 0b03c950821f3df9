use Rattle.std.proofs.Common.{arith}
use Rattle.kp_grammar.specs.Machine.{make}
use Rattle.kp_vread_parse.proofs.Steps.{exits}
use Rattle.kp_vread_parse.proofs.edges.read_values.Goals as goal

pub returns-in_err-next : goal.returns-in_err-next
returns-in_err-next c = exits _ _ _ c.from_residual.ensures.1 c.in_err-next.ensures (λ o h s vs. h _ _)

pub returns-in_err-values : goal.returns-in_err-values
returns-in_err-values c =
    exits _ _ _ c.from_residual-in_err-values.ensures.1 c.in_err-values.ensures (λ o h s vs. c.in_ok-next.ensures.leads _ _ _ (make (h _ _)))

pub returns-in_err-next-2 : goal.returns-in_err-next-2
returns-in_err-next-2 c =
    exits _ _ _ c.from_residual-in_err-next-2.ensures.1 c.in_err-next-2.ensures (λ o h s vs. c.in_ok-next.ensures.leads _ _ _ (make (c.in_ok-values.ensures.leads _ _ _ (h _ _))))

pub returns : goal.returns
returns c = record {
  leads = λ s vs o h. c.in_ok-next.ensures.leads _ _ _ (make (c.in_ok-values.ensures.leads _ _ _ (c.in_ok-next-2.ensures.leads _ _ _ (h))));
  shrinks = omega (arith, c.in_ok-next.ensures.shrinks, c.in_ok-values.ensures.shrinks, c.in_ok-next-2.ensures.shrinks);
}
