use Rattle.std.proofs.Common.{◌∙◌, sym, arith, refl}
use Rattle.kp_grammar.specs.Machine.{make, goes}
use Rattle.kp_vread_parse.proofs.{Steps.exits, Picks.goes_at, Picks.other}
use Rattle.kp_vread_parse.proofs.edges.values.Goals as goal

pub returns-in_err-name : goal.returns-in_err-name
returns-in_err-name c =
    exits _ _ _ c.from_residual.ensures.1 c.in_err-name.ensures (λ o h s vs. c.all.invariant.leads _ _ _ (goes_at _ (sym c.all-test.true ∙ c.is_name.ensures) refl (h _ _)))

pub returns-in_err-value : goal.returns-in_err-value
returns-in_err-value c =
    exits _ _ _ c.from_residual-in_err-value.ensures.1 c.in_err-value.ensures (λ o h s vs. c.all.invariant.leads _ _ _ (goes_at _ (sym c.all-test.true ∙ c.is_name.ensures) refl (c.in_ok-name.ensures.leads _ _ _ (h _ _))))

pub all-preserved : goal.all-preserved
all-preserved c = rw c.in_ok-push.ensures.items (record {
  leads = λ s vs o h. c.all.invariant.leads _ _ _ (goes_at _ (sym c.all-test.true ∙ c.is_name.ensures) refl (c.in_ok-name.ensures.leads _ _ _ (c.in_ok-value.ensures.leads _ _ _ (make (h)))));
  shrinks = omega (arith, c.all.invariant.shrinks, c.in_ok-name.ensures.shrinks, c.in_ok-value.ensures.shrinks);
})

pub returns : goal.returns
returns c = record {
  leads = λ s vs o h. c.all.invariant.leads _ _ _ (goes _ (other _ _ _ _ (sym c.all-test.false ∙ c.is_name.ensures) refl) h);
  shrinks = omega (arith, c.all.invariant.shrinks);
}
