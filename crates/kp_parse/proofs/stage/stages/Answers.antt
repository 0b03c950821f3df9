use Rattle.kp_parse.proofs.Picks.{arith, sym, ◌∙◌, make, exits, length_push, stages_1, stages_else}
use Rattle.kp_ast.specs.declared.tree.Block.{Block}
use Rattle.kp_parse.proofs.stage.stages.Goals as goal

pub all-init : goal.all-init
all-init c = rw (c.in_ok-push.ensures.items, c.new-all.ensures.items) (record {
  leads = λ s cs vs o h. h;
  shrinks = omega arith;
})

pub returns-in_err-one : goal.returns-in_err-one
returns-in_err-one c =
    exits _ _ _ c.from_residual-in_err-one.ensures.1 c.in_err-one.ensures (λ o h s cs vs. c.all.invariant.leads _ _ _ _ (stages_1 (sym c.all-test.true ∙ c.is_keyword.ensures) (h _ _ _)))

pub all-preserved : goal.all-preserved
all-preserved c = rw c.in_ok-push-2.ensures.items (record {
  leads = λ s cs vs o h. c.all.invariant.leads _ _ _ _ (stages_1 (sym c.all-test.true ∙ c.is_keyword.ensures) (c.in_ok-one.ensures.leads _ _ _ _ (make (h))));
  shrinks = omega (arith, c.all.invariant.shrinks, c.in_ok-one.ensures.shrinks, length_push {X = Block});
})

pub returns : goal.returns
returns c = record {
  leads = λ s cs vs o h. c.all.invariant.leads _ _ _ _ (stages_else (sym c.all-test.false ∙ c.is_keyword.ensures) h);
  shrinks = omega (arith, c.all.invariant.shrinks);
}
