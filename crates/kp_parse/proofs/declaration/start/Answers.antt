use Rattle.kp_parse.proofs.Picks.{arith, by_dropped, one, exits}
use Rattle.kp_parse.proofs.declaration.start.Goals as goal

pub returns-in_err-_equals : goal.returns-in_err-_equals
returns-in_err-_equals c = exits _ _ _ c.from_residual.ensures.1 c.in_err-_equals.ensures (λ o h s cs vs. h _ _ _)

pub returns-in_err-start : goal.returns-in_err-start
returns-in_err-start c = exits _ _ _ c.from_residual-in_err-start.ensures.1 c.in_err-start.ensures (λ o h s cs vs. by_dropped c.in_ok-_equals.ensures (h _ _ _))

pub returns-in_err-_end : goal.returns-in_err-_end
returns-in_err-_end c =
    exits _ _ _ c.from_residual-in_err-_end.ensures.1 c.in_err-_end.ensures (λ o h s cs vs. by_dropped c.in_ok-_equals.ensures (c.in_ok-start.ensures.leads _ _ _ _ (h _ _ _)))

pub returns : goal.returns
returns c = record {
  leads = λ s cs vs o h. by_dropped c.in_ok-_equals.ensures (c.in_ok-start.ensures.leads _ _ _ _ (by_dropped c.in_ok-_end.ensures h));
  shrinks = omega (arith, one c.in_ok-_equals.ensures, c.in_ok-start.ensures.shrinks, one c.in_ok-_end.ensures);
}
