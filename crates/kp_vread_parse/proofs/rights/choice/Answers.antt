use Rattle.std.proofs.Common.{arith, refl}
use Rattle.kp_grammar.specs.Machine.{make}
use Rattle.kp_vread_parse.proofs.{Steps.exits, Picks.goes_at}
use Rattle.kp_vread_parse.proofs.rights.choice.Goals as goal

pub returns-in_err-next : goal.returns-in_err-next
returns-in_err-next c = exits _ _ _ c.from_residual.ensures.1 c.in_err-next.ensures (λ o h s vs. goes_at _ c.requires refl (h _ _))

pub returns-in_err-chosen : goal.returns-in_err-chosen
returns-in_err-chosen c =
    exits _ _ _ c.from_residual-in_err-chosen.ensures.1 c.in_err-chosen.ensures (λ o h s vs. goes_at _ c.requires refl (c.in_ok-next.ensures.leads _ _ _ (h _ _)))

pub returns-in_err-other : goal.returns-in_err-other
returns-in_err-other c =
    exits _ _ _ c.from_residual-in_err-other.ensures.1 c.in_err-other.ensures (λ o h s vs. goes_at _ c.requires refl (c.in_ok-next.ensures.leads _ _ _ (c.in_ok-chosen.ensures.leads _ _ _ (h _ _))))

pub returns : goal.returns
returns c = record {
  leads = λ s vs o h. goes_at _ c.requires refl (c.in_ok-next.ensures.leads _ _ _ (c.in_ok-chosen.ensures.leads _ _ _ (c.in_ok-other.ensures.leads _ _ _ (make (h)))));
  shrinks = omega (arith, c.in_ok-next.ensures.shrinks, c.in_ok-chosen.ensures.shrinks, c.in_ok-other.ensures.shrinks);
}
