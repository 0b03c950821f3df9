use Rattle.std.proofs.Common.{arith}
use Rattle.kp_parse_grammar.{specs.Language.counts_one, proofs.Steps.by_dropped, proofs.Steps.by_counted, proofs.Steps.one, proofs.Steps.exits}
use Rattle.kp_parse_grammar.proofs.expression.bounds.Goals as goal

pub returns-in_err-place-clause-bounds : goal.returns-in_err-place-clause-bounds
returns-in_err-place-clause-bounds c = exits _ _ _ c.from_residual.ensures.1 c.in_err-place.ensures (λ o h s cs vs. h counts_one tt _ _ _)

pub returns-in_err-hi-clause-bounds : goal.returns-in_err-hi-clause-bounds
returns-in_err-hi-clause-bounds c =
    exits _ _ _ c.from_residual-in_err-hi.ensures.1 c.in_err-hi.ensures (λ o h s cs vs. by_counted c.in_ok-place.ensures.0 c.in_ok-place.ensures.1 (h _ _ _))

pub returns-in_err-lo-clause-bounds : goal.returns-in_err-lo-clause-bounds
returns-in_err-lo-clause-bounds c =
    exits _ _ _ c.from_residual-in_err-lo.ensures.1 c.in_err-lo.ensures (λ o h s cs vs. by_counted c.in_ok-place.ensures.0 c.in_ok-place.ensures.1 (c.in_ok-hi.ensures.leads _ _ _ _ (h _ _ _)))

pub returns-in_err-_close-clause-bounds : goal.returns-in_err-_close-clause-bounds
returns-in_err-_close-clause-bounds c =
    exits _ _ _ c.from_residual-in_err-_close.ensures.1 c.in_err-_close.ensures (λ o h s cs vs. by_counted c.in_ok-place.ensures.0 c.in_ok-place.ensures.1 (c.in_ok-hi.ensures.leads _ _ _ _ (c.in_ok-lo.ensures.leads _ _ _ _ (h _ _ _))))

pub returns-clause-bounds : goal.returns-clause-bounds
returns-clause-bounds c = record {
  leads = λ s cs vs o h. by_counted c.in_ok-place.ensures.0 c.in_ok-place.ensures.1 (c.in_ok-hi.ensures.leads _ _ _ _ (c.in_ok-lo.ensures.leads _ _ _ _ (by_dropped c.in_ok-_close.ensures h)));
  grows = omega (arith, c.in_ok-place.ensures.1.1);
  limit = omega (arith, c.in_ok-place.ensures.1.0, c.in_ok-place.ensures.1.1);
  shrinks = omega (arith, one c.in_ok-place.ensures.0, c.in_ok-hi.ensures.shrinks, c.in_ok-lo.ensures.shrinks, one c.in_ok-_close.ensures);
}
