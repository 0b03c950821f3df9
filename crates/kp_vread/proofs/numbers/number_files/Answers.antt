use Rattle.std.proofs.{Common.ℕ, Common.List, Common.subst, Common.arith, lemmas.List.take_all}
use Rattle.kp_vlog.specs.{declared.tree.Item.Item, Scope.file_names}
use Rattle.kp_vread.{specs.inner.Numbering.AreNumbered, proofs.Numbering.more_files}
use Rattle.kp_vread.proofs.numbers.number_files.Goals as goal

pub loop-item-init : goal.loop-item-init
loop-item-init c = (omega (arith, c.requires.empty.count), c.requires.empty)

pub loop-item-preserved : goal.loop-item-preserved
loop-item-preserved c = (
  omega (arith, c.in_ok-add_file.ensures.count, c.loop-item.invariant.0),
  subst (λ (ks : List (List ℕ)). AreNumbered c.add_file.new.places ks) (more_files c.args.items.now c.loop-item.item-index c.item-item.result c.loop-item-test.true c.item-item.is)
      (c.in_ok-add_file.ensures.numbered _ c.loop-item.invariant.1),
)

pub returns : goal.returns
returns c = subst (λ (xs : List Item). AreNumbered c.loop-item.places (file_names xs)) (take_all c.loop-item.item-index c.args.items.now (omega (arith, c.loop-item-test.false))) c.loop-item.invariant.1
