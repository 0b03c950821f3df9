use Rattle.std.proofs.Common.{sym, refl, ◌∙◌}
use Rattle.kp_cycle_plan.proofs.Latching.{latched_moved, latched_held}
use Rattle.kp_cycle_plan.proofs.latches.add_latch.Goals as goal

pub returns-in_ok-push-in-Always : goal.returns-in_ok-push-in-Always
returns-in_ok-push-in-Always c =
    let old = c.args.latches.now in
    rw c.in_ok-push-in-Always.ensures.items
    (latched_moved c.args.net.now c.args.r old.moved.items old.held.items (record { reg = c.args.r; next = c.in-Always.next }) refl c.requires.inside (sym c.latch_of.ensures ∙ c.in-Always.is) c.requires.latched)

pub returns-in_ok-push-in-If : goal.returns-in_ok-push-in-If
returns-in_ok-push-in-If c =
    let old = c.args.latches.now in
    rw c.in_ok-push-in-If.ensures.items
    (latched_held c.args.net.now c.args.r old.moved.items old.held.items (record { reg = c.args.r; test = c.in-If.test; value = c.in-If.value }) refl c.requires.inside (sym c.latch_of.ensures ∙ c.in-If.is) c.requires.latched)
