use Rattle.kp_parse.proofs.Picks.{arith, by_dropped, one, exits}
use Rattle.kp_parse.proofs.declaration.definition.Goals as goal

pub returns-in_err-_colon : goal.returns-in_err-_colon
returns-in_err-_colon c = exits _ _ _ c.from_residual.ensures.1 c.in_err-_colon.ensures (λ o h s cs vs. h _ _ _)

pub returns-in_err-width : goal.returns-in_err-width
returns-in_err-width c = exits _ _ _ c.from_residual-in_err-width.ensures.1 c.in_err-width.ensures (λ o h s cs vs. by_dropped c.in_ok-_colon.ensures (h _ _ _))

pub returns-in_err-body : goal.returns-in_err-body
returns-in_err-body c =
    exits _ _ _ c.from_residual-in_err-body.ensures.1 c.in_err-body.ensures (λ o h s cs vs. by_dropped c.in_ok-_colon.ensures (c.in_ok-width.ensures.leads _ _ _ _ (h _ _ _)))

pub returns : goal.returns
returns c = record {
  leads = λ s cs vs o h. by_dropped c.in_ok-_colon.ensures (c.in_ok-width.ensures.leads _ _ _ _ (c.in_ok-body.ensures.leads _ _ _ _ h));
  shrinks = omega (arith, one c.in_ok-_colon.ensures, c.in_ok-width.ensures.shrinks, c.in_ok-body.ensures.shrinks);
}
