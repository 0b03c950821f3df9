use Rattle.std.proofs.Common.{arith, refl}
use Rattle.kp_grammar.specs.Machine.{make}
use Rattle.kp_vread_parse.proofs.{Steps.exits, Picks.goes_at}
use Rattle.kp_vread_parse.proofs.rights.concat.Goals as goal

pub returns-in_err-next : goal.returns-in_err-next
returns-in_err-next c = exits _ _ _ c.from_residual.ensures.1 c.in_err-next.ensures (λ o h s vs. goes_at _ c.requires refl (h _ _))

pub returns-in_err-two : goal.returns-in_err-two
returns-in_err-two c =
    exits _ _ _ c.from_residual-in_err-two.ensures.1 c.in_err-two.ensures (λ o h s vs. goes_at _ c.requires refl (c.in_ok-next.ensures.leads _ _ _ (h _ _)))

pub returns-in_err-all : goal.returns-in_err-all
returns-in_err-all c =
    exits _ _ _ c.from_residual-in_err-all.ensures.1 c.in_err-all.ensures (λ o h s vs. goes_at _ c.requires refl (c.in_ok-next.ensures.leads _ _ _ (c.in_ok-two.ensures.leads _ _ _ (h _ _))))

pub returns-in_err-next-2 : goal.returns-in_err-next-2
returns-in_err-next-2 c =
    exits _ _ _ c.from_residual-in_err-next-2.ensures.1 c.in_err-next-2.ensures (λ o h s vs. goes_at _ c.requires refl (c.in_ok-next.ensures.leads _ _ _ (c.in_ok-two.ensures.leads _ _ _ (c.in_ok-all.ensures.leads _ _ _ (h _ _)))))

pub returns : goal.returns
returns c = record {
  leads = λ s vs o h. goes_at _ c.requires refl (c.in_ok-next.ensures.leads _ _ _ (c.in_ok-two.ensures.leads _ _ _ (c.in_ok-all.ensures.leads _ _ _ (c.in_ok-next-2.ensures.leads _ _ _ (make (rw c.new-parts.ensures at h))))));
  shrinks = omega (arith, c.in_ok-next.ensures.shrinks, c.in_ok-two.ensures.shrinks, c.in_ok-all.ensures.shrinks, c.in_ok-next-2.ensures.shrinks);
}
