use Rattle.kp_parse.proofs.Picks.{arith, make, by_dropped, one, exits}
use Rattle.kp_parse.proofs.sections.values.Goals as goal

pub returns-in_err-_equals : goal.returns-in_err-_equals
returns-in_err-_equals c = exits _ _ _ c.from_residual.ensures.1 c.in_err-_equals.ensures (λ o h s cs vs. h _ _ _)

pub returns-in_err-first : goal.returns-in_err-first
returns-in_err-first c =
    exits _ _ _ c.from_residual-in_err-first.ensures.1 c.in_err-first.ensures (λ o h s cs vs. by_dropped c.in_ok-_equals.ensures (make (h _ _ _)))

pub returns-in_err-all : goal.returns-in_err-all
returns-in_err-all c =
    exits _ _ _ c.from_residual-in_err-all.ensures.1 c.in_err-all.ensures (λ o h s cs vs. by_dropped c.in_ok-_equals.ensures (make (c.in_ok-first.ensures.leads _ _ _ _ (make (h _ _ _)))))

pub returns-in_err-_end : goal.returns-in_err-_end
returns-in_err-_end c =
    exits _ _ _ c.from_residual-in_err-_end.ensures.1 c.in_err-_end.ensures (λ o h s cs vs. by_dropped c.in_ok-_equals.ensures (make (c.in_ok-first.ensures.leads _ _ _ _ (make (c.in_ok-all.ensures.leads _ _ _ _ (h _ _ _))))))

pub returns : goal.returns
returns c = record {
  leads = λ s cs vs o h. by_dropped c.in_ok-_equals.ensures (make (c.in_ok-first.ensures.leads _ _ _ _ (make (c.in_ok-all.ensures.leads _ _ _ _ (by_dropped c.in_ok-_end.ensures (h))))));
  shrinks = omega (arith, one c.in_ok-_equals.ensures, c.in_ok-first.ensures.shrinks, c.in_ok-all.ensures.shrinks, one c.in_ok-_end.ensures);
}
