use Rattle.kp_parse.proofs.Picks.{arith, exits, binding_is}
use Rattle.kp_parse.proofs.stage.binding.Goals as goal

pub returns-in_err-name : goal.returns-in_err-name
returns-in_err-name c = exits _ _ _ c.from_residual.ensures.1 c.in_err-name.ensures (λ o h s cs vs. binding_is (h _ _ _))

pub returns-in_err-value : goal.returns-in_err-value
returns-in_err-value c =
    exits _ _ _ c.from_residual-in_err-value.ensures.1 c.in_err-value.ensures (λ o h s cs vs. binding_is (c.in_ok-name.ensures.leads _ _ _ _ (h _ _ _)))

pub returns : goal.returns
returns c = record {
  leads = λ s cs vs o h. binding_is (c.in_ok-name.ensures.leads _ _ _ _ (c.in_ok-value.ensures.leads _ _ _ _ h));
  shrinks = omega (arith, c.in_ok-name.ensures.shrinks, c.in_ok-value.ensures.shrinks);
}
