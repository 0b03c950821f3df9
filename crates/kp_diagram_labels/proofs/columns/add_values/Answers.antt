use Rattle.std.proofs.{Common.arith, lemmas.List.get_or_default}
use Rattle.kp_diagram_labels.proofs.Texts.{values_all, values_more}
use Rattle.kp_diagram_labels.proofs.columns.add_values.Goals as goal

pub loop-i-preserved : goal.loop-i-preserved
loop-i-preserved c =
    values_more c.args.layout.now c.args.text.now c.args.labels.now c.args.values.now c.loop-i.i _ _ _ c.loop-i.out.items _ _ c.loop-i-test.true (omega (arith, c.requires.many, c.loop-i-test.true))
    (get_or_default c.args.labels.now c.loop-i.i _ _ c.loop-i-test.true) c.index-values-i.is c.wide.ensures c.in_ok-add_value.ensures c.loop-i.invariant

pub returns : goal.returns
returns c = values_all c.args.layout.now c.args.text.now c.args.labels.now c.args.values.now c.loop-i.i c.loop-i.out.items _ (omega (arith, c.loop-i-test.false)) c.loop-i.invariant
