use Rattle.kp_parse.proofs.Picks.{arith, by_dropped, one, exits}
use Rattle.kp_parse.proofs.pair.number_before.Goals as goal

pub returns-in_err-number : goal.returns-in_err-number
returns-in_err-number c = exits _ _ _ c.from_residual.ensures.1 c.in_err-number.ensures (λ o h s cs vs. h _ _ _)

pub returns-in_err-_mark : goal.returns-in_err-_mark
returns-in_err-_mark c =
    exits _ _ _ c.from_residual-in_err-_mark.ensures.1 c.in_err-_mark.ensures (λ o h s cs vs. c.in_ok-number.ensures.leads _ _ _ _ (h _ _ _))

pub returns : goal.returns
returns c = record {
  leads = λ s cs vs o h. c.in_ok-number.ensures.leads _ _ _ _ (by_dropped c.in_ok-_mark.ensures h);
  shrinks = omega (arith, c.in_ok-number.ensures.shrinks, one c.in_ok-_mark.ensures);
}
