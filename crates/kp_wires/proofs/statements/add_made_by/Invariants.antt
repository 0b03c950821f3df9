use Rattle.std.{proofs.Common.◌≡◌, proofs.Common.◌++◌, specs.Prelude.slice_get}
use Rattle.kp_wires.specs.{Table.below, Statements.own_statement}
use Rattle.kp_synth_stage.specs.Work.{stmts_at}
use Rattle.kp_wires.proofs.statements.add_made_by.Given as goal

abbrev pub invariant-loop-j : goal.invariant-loop-j
invariant-loop-j l = l.out.items ≡ l.fn.out.items ++ below (λ j. own_statement l.job l.k l.signal j (slice_get (stmts_at l.job l.k) j)) l.j
