use Rattle.kp_parse.proofs.Picks.{arith, sym, ◌∙◌, make, exits, entries_1, entries_else}
use Rattle.kp_parse.proofs.sections.entries.Goals as goal

pub returns-in_err-one : goal.returns-in_err-one
returns-in_err-one c =
    exits _ _ _ c.from_residual.ensures.1 c.in_err-one.ensures (λ o h s cs vs. c.all.invariant.leads _ _ _ _ (entries_1 (sym c.all-test.true ∙ c.is_name.ensures) (h _ _ _)))

pub all-preserved : goal.all-preserved
all-preserved c = rw c.in_ok-push.ensures.items (record {
  leads = λ s cs vs o h. c.all.invariant.leads _ _ _ _ (entries_1 (sym c.all-test.true ∙ c.is_name.ensures) (c.in_ok-one.ensures.leads _ _ _ _ (make (h))));
  shrinks = omega (arith, c.all.invariant.shrinks, c.in_ok-one.ensures.shrinks);
})

pub returns : goal.returns
returns c = record {
  leads = λ s cs vs o h. c.all.invariant.leads _ _ _ _ (entries_else (sym c.all-test.false ∙ c.is_name.ensures) h);
  shrinks = omega (arith, c.all.invariant.shrinks);
}
