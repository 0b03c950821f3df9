use Rattle.std.proofs.Common.{◌≡◌, ◌≤◌, drop, map}
use Rattle.kp_width.specs.Expressions.{part_of, sum_of, arguments_of}
use Rattle.kp_width.proofs.expressions.+width.Given as goal

abbrev pub invariant-sum-loop-e : goal.invariant-sum-loop-e
invariant-sum-loop-e l =
    (l.all ≤ 65)
    × ((sum_of l.all (map (part_of l.decls l.done l.names) (drop l.e-index l.es))).found ≡ (sum_of 0 (map (part_of l.decls l.done l.names) l.es)).found)

abbrev pub invariant-check_args-loop-i : goal.invariant-check_args-loop-i
invariant-check_args-loop-i l =
    (arguments_of l.function l.params l.i (map (part_of l.decls l.done l.names) (drop l.i l.es))).found
    ≡ (arguments_of l.function l.params 0 (map (part_of l.decls l.done l.names) l.es)).found
