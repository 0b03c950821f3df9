use Rattle.std.proofs.Common.{arith, refl}
use Rattle.kp_parse_grammar.proofs.Steps.{by_separated, by_closed, one, exits}
use Rattle.kp_parse_grammar.proofs.expression.width.Goals as goal

pub returns-in_err-_comma : goal.returns-in_err-_comma
returns-in_err-_comma c = exits _ _ _ c.from_residual.ensures.1 c.in_err-_comma.ensures (λ o h s d k cs vs. h _ _ _)

pub returns-in_err-width : goal.returns-in_err-width
returns-in_err-width c = exits _ _ _ c.from_residual-in_err-width.ensures.1 c.in_err-width.ensures (λ o h s d k cs vs. by_separated c.in_ok-_comma.ensures refl (h _ _ _))

pub returns-in_err-_close : goal.returns-in_err-_close
returns-in_err-_close c =
    exits _ _ _ c.from_residual-in_err-_close.ensures.1 c.in_err-_close.ensures (λ o h s d k cs vs. by_separated c.in_ok-_comma.ensures refl (c.in_ok-width.ensures.leads _ _ _ _ (h _ _ _)))

pub returns : goal.returns
returns c = record {
  leads = λ s d k cs vs o h. by_separated c.in_ok-_comma.ensures refl (c.in_ok-width.ensures.leads _ _ _ _ (by_closed c.in_ok-_close.ensures h));
  shrinks = omega (arith, one c.in_ok-_comma.ensures, c.in_ok-width.ensures.shrinks, one c.in_ok-_close.ensures);
}
