use Rattle.kp_parse.proofs.Picks.{arith, make, exits, entry_is}
use Rattle.kp_parse.proofs.sections.entry.Goals as goal

pub returns-in_err-name : goal.returns-in_err-name
returns-in_err-name c = exits _ _ _ c.from_residual.ensures.1 c.in_err-name.ensures (λ o h s cs vs. entry_is (h _ _ _))

pub returns-in_err-value : goal.returns-in_err-value
returns-in_err-value c =
    exits _ _ _ c.from_residual-in_err-value.ensures.1 c.in_err-value.ensures (λ o h s cs vs. entry_is (c.in_ok-name.ensures.leads _ _ _ _ (h _ _ _)))

pub returns-in_err-from : goal.returns-in_err-from
returns-in_err-from c =
    exits _ _ _ c.from_residual-in_err-from.ensures.1 c.in_err-from.ensures (λ o h s cs vs. entry_is (c.in_ok-name.ensures.leads _ _ _ _ (c.in_ok-value.ensures.leads _ _ _ _ (h _ _ _))))

pub returns : goal.returns
returns c = record {
  leads = λ s cs vs o h. entry_is (c.in_ok-name.ensures.leads _ _ _ _ (c.in_ok-value.ensures.leads _ _ _ _ (c.in_ok-from.ensures.leads _ _ _ _ (make h))));
  shrinks = omega (arith, c.in_ok-name.ensures.shrinks, c.in_ok-value.ensures.shrinks, c.in_ok-from.ensures.shrinks);
}
