use Rattle.kp_parse.proofs.Picks.{arith, by_dropped, one, exits}
use Rattle.kp_parse.proofs.stage.source.Goals as goal

pub returns-in_err-target : goal.returns-in_err-target
returns-in_err-target c = exits _ _ _ c.from_residual.ensures.1 c.in_err-target.ensures (λ o h s cs vs. h _ _ _)

pub returns-in_err-address : goal.returns-in_err-address
returns-in_err-address c =
    exits _ _ _ c.from_residual-in_err-address.ensures.1 c.in_err-address.ensures (λ o h s cs vs. c.in_ok-target.ensures.leads _ _ _ _ (h _ _ _))

pub returns-in_err-source : goal.returns-in_err-source
returns-in_err-source c =
    exits _ _ _ c.from_residual-in_err-source.ensures.1 (rw c.in_err-source.ensures at c.hedge-terms.ensures) (λ o h s cs vs. c.in_ok-target.ensures.leads _ _ _ _ (c.in_ok-address.ensures.leads _ _ _ _ (h _ _ _)))

pub returns-in_err-all : goal.returns-in_err-all
returns-in_err-all c =
    exits _ _ _ c.from_residual-in_err-all.ensures.1 (rw c.in_err-all.ensures at c.mark-end.ensures) (λ o h s cs vs. c.in_ok-target.ensures.leads _ _ _ _ (c.in_ok-address.ensures.leads _ _ _ _ ((rw c.in_ok-source.ensures.1 at c.hedge-terms.ensures).leads _ _ _ _ (h _ _ _))))

pub returns : goal.returns
returns c = record {
  leads = λ s cs vs o h. c.in_ok-target.ensures.leads _ _ _ _ (c.in_ok-address.ensures.leads _ _ _ _ ((rw c.in_ok-source.ensures.1 at c.hedge-terms.ensures).leads _ _ _ _ (by_dropped (rw c.in_ok-all.ensures.1 at c.mark-end.ensures) (rw (c.in_ok-all.ensures.0, c.in_ok-source.ensures.0) at h))));
  shrinks = omega (arith, c.in_ok-target.ensures.shrinks, c.in_ok-address.ensures.shrinks, (rw c.in_ok-source.ensures.1 at c.hedge-terms.ensures).shrinks, one (rw c.in_ok-all.ensures.1 at c.mark-end.ensures));
}
