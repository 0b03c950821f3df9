use Rattle.std.proofs.Common.{◌≡◌, ◌++◌, get_or, None}
use Rattle.kp_wires.specs.Table.{below, set_wires}
use Rattle.kp_wires.proofs.table.add_sets.Given as goal

abbrev pub invariant-loop-t : goal.invariant-loop-t
invariant-loop-t l = l.wires.items ≡ l.fn.wires.items ++ below (λ t. set_wires l.net l.k t (get_or l.outcome.sets t None)) l.t
