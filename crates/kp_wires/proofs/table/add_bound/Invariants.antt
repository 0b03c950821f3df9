use Rattle.std.{proofs.Common.◌≡◌, proofs.Common.◌++◌, specs.Prelude.slice_get}
use Rattle.kp_wires.specs.Table.{below, stmt_wire}
use Rattle.kp_synth_stage.specs.Work.{stmts_at}
use Rattle.kp_wires.proofs.table.add_bound.Given as goal

abbrev pub invariant-loop-j : goal.invariant-loop-j
invariant-loop-j l = l.wires.items ≡ l.fn.wires.items ++ below (λ j. stmt_wire l.net l.k l.names j (slice_get (stmts_at l.job l.k) j)) l.j
