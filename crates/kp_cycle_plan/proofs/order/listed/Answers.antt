use Rattle.kp_cycle_plan.proofs.{Marking.listed_more, Marking.listed_skip, order.listed.Goals.then-marks-i+in_ok-push, order.listed.Goals.else-marks-i}
use Rattle.kp_cycle_plan.proofs.order.listed.Goals as goal

pub loop-i-preserved : goal.loop-i-preserved
loop-i-preserved c =
    let ns = c.args.nodes.now in
    let marks = c.args.marks.now in
    let i = c.loop-i.i in
    elim c.if-marks-i.branch [
      | then-marks-i+in_ok-push w ↦
          rw w.order-is (rw w.in_ok-push.ensures.items
          (listed_more ns c.args.heads marks i c.loop-i.order.items c.loop-i-test.true (c.requires.below i c.loop-i-test.true) (c.requires.operands i c.loop-i-test.true w.if-marks-i.true) c.loop-i.invariant))
      | else-marks-i w ↦ rw w.order-is (listed_skip ns c.args.heads marks i c.loop-i.order.items w.if-marks-i.false c.loop-i.invariant)
    ]
