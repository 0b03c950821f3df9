use Rattle.std.proofs.Common.{◌≡◌, ◌+◌, ◌*◌, max, map, take, length}
use Rattle.kp_seq_plan.specs.{declared.code.Code.TheViews.size-Code, Codes.value_of}
use Rattle.kp_seq_plan.proofs.compute.+compute.Given as goal

abbrev pub decreases-value : goal.decreases-value
decreases-value l = 8 * goal.size-value l + 2

abbrev pub decreases-of_parts : goal.decreases-of_parts
decreases-of_parts l = 8 * goal.size-of_parts l + 1

abbrev pub decreases-of_others : goal.decreases-of_others
decreases-of_others l = 8 * goal.size-of_others l

abbrev pub decreases-called : goal.decreases-called
decreases-called l = 8 * max (goal.size-called l) (size-Code l.body.now) + 4

abbrev pub decreases-put_values : goal.decreases-put_values
decreases-put_values l = 8 * goal.size-put_values l + 3

abbrev pub invariant-put_values-loop-i : goal.invariant-put_values-loop-i
invariant-put_values-loop-i l =
    (take l.i l.values ≡ map (λ c. value_of c l.names) (take l.i l.codes))
    × (length l.values ≡ length l.initial.values) × (length l.room ≡ length l.initial.room)
