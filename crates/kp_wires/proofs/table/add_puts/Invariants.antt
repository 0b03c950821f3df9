use Rattle.std.proofs.Common.{◌≡◌, ◌++◌, get_or, None}
use Rattle.kp_wires.specs.{Table.below, Table.wire_of, declared.wire.Signal.TheVariants.Put}
use Rattle.kp_wires.proofs.table.add_puts.Given as goal

abbrev pub invariant-loop-x : goal.invariant-loop-x
invariant-loop-x l = l.wires.items ≡ l.fn.wires.items ++ below (λ n. wire_of l.net l.k (Put n) (get_or l.outcome.puts n None)) l.x
