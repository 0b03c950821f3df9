use Rattle.std.proofs.Common.{arith, refl}
use Rattle.kp_grammar.specs.Machine.{make, goes}
use Rattle.kp_vread_parse.proofs.Steps.{exits}
use Rattle.kp_vread_parse.proofs.module.read_module.Goals as goal

pub returns-in_err-first : goal.returns-in_err-first
returns-in_err-first c = exits _ _ _ c.from_residual.ensures.1 c.in_err-first.ensures (λ o h s vs. goes _ refl (h _ _))

pub returns-in_err-body : goal.returns-in_err-body
returns-in_err-body c = exits _ _ _ c.from_residual-in_err-body.ensures.1 c.in_err-body.ensures (λ o h s vs. goes _ refl (c.in_ok-first.ensures.leads _ _ _ (h _ _)))

pub returns : goal.returns
returns c = record {
  leads = λ s vs o h. goes _ refl (c.in_ok-first.ensures.leads _ _ _ (c.in_ok-body.ensures.leads _ _ _ (make (h))));
  shrinks = omega (arith, c.in_ok-first.ensures.shrinks, c.in_ok-body.ensures.shrinks);
}
