use Rattle.std.proofs.Common.{arith, refl}
use Rattle.kp_grammar.specs.Machine.{make}
use Rattle.kp_vread_parse.proofs.{Steps.exits, Picks.goes_at}
use Rattle.kp_vread_parse.proofs.rights.slice.Goals as goal

pub returns-in_err-high : goal.returns-in_err-high
returns-in_err-high c = exits _ _ _ c.from_residual.ensures.1 c.in_err-high.ensures (λ o h s vs. goes_at _ c.requires refl (h _ _))

pub returns-in_err-low : goal.returns-in_err-low
returns-in_err-low c =
    exits _ _ _ c.from_residual-in_err-low.ensures.1 c.in_err-low.ensures (λ o h s vs. goes_at _ c.requires refl (c.in_ok-high.ensures.leads _ _ _ (h _ _)))

pub returns : goal.returns
returns c = record {
  leads = λ s vs o h. goes_at _ c.requires refl (c.in_ok-high.ensures.leads _ _ _ (c.in_ok-low.ensures.leads _ _ _ (make (h))));
  shrinks = omega (arith, c.in_ok-high.ensures.shrinks, c.in_ok-low.ensures.shrinks);
}
