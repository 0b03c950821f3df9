use Rattle.std.proofs.{Common.◌<◌, Common.true, Common.length, Common.arith, Common.◌∙◌, lemmas.List.length-set}
use Rattle.kp_cycle_plan.proofs.Marking.{heads_more, heads_alone}
use Rattle.kp_cycle_plan.proofs.order.mark_heads.Goals as goal

pub loop-i-preserved : goal.loop-i-preserved
loop-i-preserved c =
    let inv = c.loop-i.invariant in
    let done = c.loop-i.done in
    let i = c.loop-i.i in
    let inside : i < length done = omega (arith, inv.0, c.requires.inside, c.loop-i-test.true) in
    (length-set done i true ∙ inv.0, heads_more done i inside inv.1, heads_alone done i inv.2)
