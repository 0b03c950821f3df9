use Rattle.std.proofs.Common.{arith, refl}
use Rattle.kp_grammar.specs.Machine.{make}
use Rattle.kp_vread_parse.proofs.{Steps.exits, Picks.goes_at}
use Rattle.kp_vread_parse.proofs.edges.with_reset.Goals as goal

pub returns-in_err-values : goal.returns-in_err-values
returns-in_err-values c = exits _ _ _ c.from_residual.ensures.1 c.in_err-values.ensures (λ o h s vs. goes_at _ c.requires.class refl (h _ _))

pub returns-in_err-next : goal.returns-in_err-next
returns-in_err-next c =
    exits _ _ _ c.from_residual-in_err-next.ensures.1 c.in_err-next.ensures (λ o h s vs. goes_at _ c.requires.class refl (c.in_ok-values.ensures.leads _ _ _ (make (h _ _))))

pub returns : goal.returns
returns c = record {
  leads = λ s vs o h. goes_at _ c.requires.class refl (c.in_ok-values.ensures.leads _ _ _ (make (c.in_ok-next.ensures.leads _ _ _ (rw c.new-values.ensures at h))));
  shrinks = omega (arith, c.in_ok-values.ensures.shrinks, c.in_ok-next.ensures.shrinks);
}
