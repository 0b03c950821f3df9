use Rattle.kp_parse.proofs.Picks.{arith, make, by_dropped, one, exits, pars_1, pars_else}
use Rattle.kp_parse.proofs.declaration.parameters.Goals as goal

pub all-init : goal.all-init
all-init c = rw (c.in_ok-push.ensures.items, c.new-all.ensures.items) (record {
  leads = λ s cs vs o h. h;
  shrinks = omega arith;
})

pub returns-in_err-one : goal.returns-in_err-one
returns-in_err-one c =
    exits _ _ _ c.from_residual-in_err-one.ensures.1 c.in_err-one.ensures (λ o h s cs vs. c.all.invariant.leads _ _ _ _ (pars_1 c.in-Some.ensures (by_dropped c.in-Some.ensures (h _ _ _))))

pub all-preserved : goal.all-preserved
all-preserved c = rw c.in_ok-push-2.ensures.items (record {
  leads = λ s cs vs o h. c.all.invariant.leads _ _ _ _ (pars_1 c.in-Some.ensures (by_dropped c.in-Some.ensures (c.in_ok-one.ensures.leads _ _ _ _ (make (h)))));
  shrinks = omega (arith, c.all.invariant.shrinks, one c.in-Some.ensures, c.in_ok-one.ensures.shrinks);
})

pub returns : goal.returns
returns c = record {
  leads = λ s cs vs o h. c.all.invariant.leads _ _ _ _ (pars_else c.in_default.ensures h);
  shrinks = omega (arith, c.all.invariant.shrinks);
}
