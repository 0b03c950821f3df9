use Rattle.std.proofs.Common.{arith, refl}
use Rattle.kp_grammar.specs.Machine.{make}
use Rattle.kp_vread_parse.proofs.{Steps.exits, Picks.goes_at}
use Rattle.kp_vread_parse.proofs.rights.constant.Goals as goal

pub returns-in_err-literal : goal.returns-in_err-literal
returns-in_err-literal c = exits _ _ _ c.from_residual.ensures.1 c.in_err-literal.ensures (λ o h s vs. goes_at _ c.requires refl (h _ _))

pub returns : goal.returns
returns c = record {
  leads = λ s vs o h. goes_at _ c.requires refl (c.in_ok-literal.ensures.leads _ _ _ (make (h)));
  shrinks = omega (arith, c.in_ok-literal.ensures.shrinks);
}
