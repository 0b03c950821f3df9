use Rattle.kp_parse.proofs.Picks.{arith, make, by_dropped, one, exits, hedge_else, hedge_guess}
use Rattle.kp_parse.proofs.stage.guess.Goals as goal

pub returns-in_default : goal.returns-in_default
returns-in_default c = record {
  leads = λ s cs vs o h. hedge_else c.requires c.in_default.ensures (make h);
  shrinks = omega arith;
}

pub returns-in_err-guess : goal.returns-in_err-guess
returns-in_err-guess c =
    exits _ _ _ c.from_residual.ensures.1 c.in_err-guess.ensures (λ o h s cs vs. hedge_guess c.in-Some.ensures (by_dropped c.in-Some.ensures (h _ _ _)))

pub returns : goal.returns
returns c = record {
  leads = λ s cs vs o h. hedge_guess c.in-Some.ensures (by_dropped c.in-Some.ensures (c.in_ok-guess.ensures.leads _ _ _ _ (make (h))));
  shrinks = omega (arith, one c.in-Some.ensures, c.in_ok-guess.ensures.shrinks);
}
