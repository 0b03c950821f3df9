use Rattle.std.proofs.Common.{◌∙◌, sym, arith}
use Rattle.kp_grammar.specs.Machine.{make, goes}
use Rattle.kp_vread_parse.proofs.{Picks.chosen, Picks.unchosen, Steps.exits}
use Rattle.kp_vread_parse.proofs.edges.updates.Goals as goal

pub returns-in_err-one : goal.returns-in_err-one
returns-in_err-one c =
    exits _ _ _ c.from_residual.ensures.1 c.in_err-one.ensures (λ o h s vs. c.all.invariant.leads _ _ _ (goes _ (chosen _ _ _ (sym c.all-test.true ∙ c.begins_update.ensures)) (h _ _)))

pub all-preserved : goal.all-preserved
all-preserved c = rw c.in_ok-push.ensures.items (record {
  leads = λ s vs o h. c.all.invariant.leads _ _ _ (goes _ (chosen _ _ _ (sym c.all-test.true ∙ c.begins_update.ensures)) (c.in_ok-one.ensures.leads _ _ _ (make (h))));
  shrinks = omega (arith, c.all.invariant.shrinks, c.in_ok-one.ensures.shrinks);
})

pub returns : goal.returns
returns c = record {
  leads = λ s vs o h. c.all.invariant.leads _ _ _ (goes _ (unchosen _ _ _ (sym c.all-test.false ∙ c.begins_update.ensures)) h);
  shrinks = omega (arith, c.all.invariant.shrinks);
}
