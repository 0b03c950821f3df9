use Rattle.std.proofs.Common.{◌≡◌, ◌++◌, get_or, None}
use Rattle.kp_wires.specs.{Table.below, Table.wire_of, declared.wire.Signal.TheVariants.Aim}
use Rattle.kp_wires.proofs.table.add_aims.Given as goal

abbrev pub invariant-loop-h : goal.invariant-loop-h
invariant-loop-h l = l.wires.items ≡ l.fn.wires.items ++ below (λ n. wire_of l.net l.k (Aim n) (get_or l.outcome.aims n None)) l.h
