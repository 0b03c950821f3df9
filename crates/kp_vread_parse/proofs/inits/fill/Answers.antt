use Rattle.std.proofs.Common.{arith, refl}
use Rattle.kp_grammar.specs.Machine.{make}
use Rattle.kp_vread_parse.proofs.{Steps.exits, Picks.goes_at}
use Rattle.kp_vread_parse.proofs.inits.fill.Goals as goal

pub returns-in_err-counter : goal.returns-in_err-counter
returns-in_err-counter c = exits _ _ _ c.from_residual.ensures.1 c.in_err-counter.ensures (λ o h s vs. goes_at _ c.requires refl (h _ _))

pub returns-in_err-tested : goal.returns-in_err-tested
returns-in_err-tested c =
    exits _ _ _ c.from_residual-in_err-tested.ensures.1 c.in_err-tested.ensures (λ o h s vs. goes_at _ c.requires refl (c.in_ok-counter.ensures.leads _ _ _ (h _ _)))

pub returns-in_err-stepped : goal.returns-in_err-stepped
returns-in_err-stepped c =
    exits _ _ _ c.from_residual-in_err-stepped.ensures.1 c.in_err-stepped.ensures (λ o h s vs. goes_at _ c.requires refl (c.in_ok-counter.ensures.leads _ _ _ (c.in_ok-tested.ensures.leads _ _ _ (h _ _))))

pub returns-in_err-file : goal.returns-in_err-file
returns-in_err-file c =
    exits _ _ _ c.from_residual-in_err-file.ensures.1 c.in_err-file.ensures (λ o h s vs. goes_at _ c.requires refl (c.in_ok-counter.ensures.leads _ _ _ (c.in_ok-tested.ensures.leads _ _ _ (c.in_ok-stepped.ensures.leads _ _ _ (h _ _)))))

pub returns : goal.returns
returns c = record {
  leads = λ s vs o h. goes_at _ c.requires refl (c.in_ok-counter.ensures.leads _ _ _ (c.in_ok-tested.ensures.leads _ _ _ (c.in_ok-stepped.ensures.leads _ _ _ (c.in_ok-file.ensures.leads _ _ _ (make (h))))));
  shrinks = omega (arith, c.in_ok-counter.ensures.shrinks, c.in_ok-tested.ensures.shrinks, c.in_ok-stepped.ensures.shrinks, c.in_ok-file.ensures.shrinks);
}
