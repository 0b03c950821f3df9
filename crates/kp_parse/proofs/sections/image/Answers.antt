use Rattle.kp_parse.proofs.Picks.{arith, make, exits, word_is}
use Rattle.kp_parse.proofs.sections.image.Goals as goal

pub returns-in_err-name : goal.returns-in_err-name
returns-in_err-name c = exits _ _ _ c.from_residual.ensures.1 c.in_err-name.ensures (λ o h s cs vs. word_is (h _ _ _))

pub returns-in_err-address : goal.returns-in_err-address
returns-in_err-address c =
    exits _ _ _ c.from_residual-in_err-address.ensures.1 c.in_err-address.ensures (λ o h s cs vs. word_is (c.in_ok-name.ensures.leads _ _ _ _ (h _ _ _)))

pub returns-in_err-all : goal.returns-in_err-all
returns-in_err-all c =
    exits _ _ _ c.from_residual-in_err-all.ensures.1 c.in_err-all.ensures (λ o h s cs vs. word_is (c.in_ok-name.ensures.leads _ _ _ _ (c.in_ok-address.ensures.leads _ _ _ _ (h _ _ _))))

pub returns : goal.returns
returns c = record {
  leads = λ s cs vs o h. word_is (c.in_ok-name.ensures.leads _ _ _ _ (c.in_ok-address.ensures.leads _ _ _ _ (c.in_ok-all.ensures.leads _ _ _ _ (make (rw c.new.ensures at h)))));
  shrinks = omega (arith, c.in_ok-name.ensures.shrinks, c.in_ok-address.ensures.shrinks, c.in_ok-all.ensures.shrinks);
}
