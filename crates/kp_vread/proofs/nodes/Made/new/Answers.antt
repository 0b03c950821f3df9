use Rattle.std.proofs.{Common.List, Common.subst, Common.arith, lemmas.List.take_all}
use Rattle.kp_vlog.specs.{declared.tree.Item.Item, Denote.Made, Denote.made_by}
use Rattle.kp_vread.{specs.inner.Building.IsMade, proofs.Making.one_item}
use Rattle.kp_vread.proofs.nodes.Made.new.Goals as goal

pub loop-item-preserved : goal.loop-item-preserved
loop-item-preserved c = (
  omega (arith, c.in_ok-item.ensures.count, c.loop-item.invariant.0),
  λ s h. subst (λ (m : Made). IsMade c.item.new.self.wires c.item.new.self.nodes.items m) (one_item s c.args.items.now c.loop-item.item-index c.item-item.result c.loop-item-test.true c.item-item.is)
      (c.in_ok-item.ensures.made s _ h (c.loop-item.invariant.1 s h)),
)

pub returns : goal.returns
returns c = λ s h.
    subst (λ (xs : List Item). IsMade c.loop-item.made.wires c.loop-item.made.nodes.items (made_by s xs)) (take_all c.loop-item.item-index c.args.items.now (omega (arith, c.loop-item-test.false)))
    (c.loop-item.invariant.1 s h)
