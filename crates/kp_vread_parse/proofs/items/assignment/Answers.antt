use Rattle.std.proofs.Common.{arith}
use Rattle.kp_grammar.specs.Machine.{make}
use Rattle.kp_vread_parse.proofs.Steps.{exits, passed}
use Rattle.kp_vread_parse.proofs.items.assignment.Goals as goal

pub returns-in_err-next : goal.returns-in_err-next
returns-in_err-next c = exits _ _ _ c.from_residual.ensures.1 c.in_err-next.ensures (λ o h s vs. h _ _)

pub returns-in_err-target : goal.returns-in_err-target
returns-in_err-target c = exits _ _ _ c.from_residual-in_err-target.ensures.1 c.in_err-target.ensures (λ o h s vs. c.in_ok-next.ensures.leads _ _ _ (h _ _))

pub returns-in_err-right : goal.returns-in_err-right
returns-in_err-right c =
    exits _ _ _ c.from_residual-in_err-right.ensures.1 c.in_err-right.ensures (λ o h s vs. c.in_ok-next.ensures.leads _ _ _ (c.in_ok-target.ensures.leads _ _ _ (h _ _)))

pub returns-in-Ok : goal.returns-in-Ok
returns-in-Ok c = record {
  leads = λ s vs o h. c.in_ok-next.ensures.leads _ _ _ (c.in_ok-target.ensures.leads _ _ _ (c.in_ok-right.ensures.leads _ _ _ (c.in-Ok.ensures.leads _ _ _ (make h))));
  shrinks = omega (arith, c.in_ok-next.ensures.shrinks, c.in_ok-target.ensures.shrinks, c.in_ok-right.ensures.shrinks, c.in-Ok.ensures.shrinks);
}

pub returns-in-Err : goal.returns-in-Err
returns-in-Err c =
    passed c.in-Err.ensures (λ o h s vs. c.in_ok-next.ensures.leads _ _ _ (c.in_ok-target.ensures.leads _ _ _ (c.in_ok-right.ensures.leads _ _ _ (h _ _))))
