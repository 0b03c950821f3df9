use Rattle.kp_parse.proofs.Picks.{arith, make, by_dropped, one, exits}
use Rattle.kp_parse.proofs.declaration.signature.Goals as goal

pub returns-in_err-_open : goal.returns-in_err-_open
returns-in_err-_open c = exits _ _ _ c.from_residual.ensures.1 c.in_err-_open.ensures (λ o h s cs vs. h _ _ _)

pub returns-in_err-first : goal.returns-in_err-first
returns-in_err-first c =
    exits _ _ _ c.from_residual-in_err-first.ensures.1 c.in_err-first.ensures (λ o h s cs vs. by_dropped c.in_ok-_open.ensures (make (h _ _ _)))

pub returns-in_err-params : goal.returns-in_err-params
returns-in_err-params c =
    exits _ _ _ c.from_residual-in_err-params.ensures.1 c.in_err-params.ensures (λ o h s cs vs. by_dropped c.in_ok-_open.ensures (make (c.in_ok-first.ensures.leads _ _ _ _ (make (h _ _ _)))))

pub returns-in_err-_close : goal.returns-in_err-_close
returns-in_err-_close c =
    exits _ _ _ c.from_residual-in_err-_close.ensures.1 c.in_err-_close.ensures (λ o h s cs vs. by_dropped c.in_ok-_open.ensures (make (c.in_ok-first.ensures.leads _ _ _ _ (make (c.in_ok-params.ensures.leads _ _ _ _ (h _ _ _))))))

pub returns : goal.returns
returns c = record {
  leads = λ s cs vs o h. by_dropped c.in_ok-_open.ensures (make (c.in_ok-first.ensures.leads _ _ _ _ (make (c.in_ok-params.ensures.leads _ _ _ _ (by_dropped c.in_ok-_close.ensures (h))))));
  shrinks = omega (arith, one c.in_ok-_open.ensures, c.in_ok-first.ensures.shrinks, c.in_ok-params.ensures.shrinks, one c.in_ok-_close.ensures);
}
