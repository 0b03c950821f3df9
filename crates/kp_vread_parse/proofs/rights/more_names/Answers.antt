use Rattle.std.proofs.Common.{◌∙◌, sym, arith}
use Rattle.kp_grammar.specs.Machine.{make}
use Rattle.kp_vread_parse.proofs.{Picks.names_none, Picks.names_some, Steps.exits}
use Rattle.kp_vread_parse.proofs.rights.more_names.Goals as goal

pub returns-in_err-next : goal.returns-in_err-next
returns-in_err-next c =
    exits _ _ _ c.from_residual.ensures.1 c.in_err-next.ensures (λ o h s vs. c.all.invariant.1.leads _ _ _ (names_some _ c.all.invariant.0 (sym c.all-test.true ∙ c.goes_on.ensures) (h _ _)))

pub returns-in_err-one : goal.returns-in_err-one
returns-in_err-one c =
    exits _ _ _ c.from_residual-in_err-one.ensures.1 c.in_err-one.ensures (λ o h s vs. c.all.invariant.1.leads _ _ _ (names_some _ c.all.invariant.0 (sym c.all-test.true ∙ c.goes_on.ensures) (c.in_ok-next.ensures.leads _ _ _ (h _ _))))

pub all-preserved : goal.all-preserved
all-preserved c = rw c.in_ok-push.ensures.items (
  omega (arith, c.all.invariant.0),
  record {
    leads = λ s vs o h. c.all.invariant.1.leads _ _ _ (names_some _ c.all.invariant.0 (sym c.all-test.true ∙ c.goes_on.ensures) (c.in_ok-next.ensures.leads _ _ _ (c.in_ok-one.ensures.leads _ _ _ (make (h)))));
    shrinks = omega (arith, c.all.invariant.1.shrinks, c.in_ok-next.ensures.shrinks, c.in_ok-one.ensures.shrinks);
  },
)

pub returns : goal.returns
returns c = record {
  leads = λ s vs o h. c.all.invariant.1.leads _ _ _ (names_none _ c.all.invariant.0 (sym c.all-test.false ∙ c.goes_on.ensures) h);
  shrinks = omega (arith, c.all.invariant.1.shrinks);
}
