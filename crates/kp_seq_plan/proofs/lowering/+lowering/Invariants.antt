use Rattle.std.proofs.Common.{◌+◌, ◌*◌, max, take, drop}
use Rattle.kp_seq_plan.specs.{declared.plan.Plan.TheViews.size-Plan, inner.Parts.AreTyped, inner.Parts.JoinedYet}
use Rattle.kp_seq_plan.proofs.lowering.+lowering.Given as goal

abbrev pub decreases-typed_of : goal.decreases-typed_of
decreases-typed_of l = 4 * goal.size-typed_of l

abbrev pub decreases-two_of : goal.decreases-two_of
decreases-two_of l = 4 * max (goal.size-two_of l) (size-Plan l.b.now) + 2

abbrev pub decreases-joined_of : goal.decreases-joined_of
decreases-joined_of l = 4 * goal.size-joined_of l + 2

abbrev pub decreases-call_of : goal.decreases-call_of
decreases-call_of l = 4 * max (goal.size-call_of l) (size-Plan l.body.now) + 2

abbrev pub decreases-args_of : goal.decreases-args_of
decreases-args_of l = 4 * goal.size-args_of l + 1

abbrev pub invariant-args_of-loop-plan : goal.invariant-args_of-loop-plan
invariant-args_of-loop-plan l = AreTyped l.widths (take l.plan-index l.plans) l.args.codes.items l.args.widths.items

abbrev pub invariant-joined_of-loop-part : goal.invariant-joined_of-loop-part
invariant-joined_of-loop-part l = JoinedYet l.widths l.parts (drop l.part-index l.rest) l.all
