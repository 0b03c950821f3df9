use Rattle.std.proofs.Common.{◌≡◌, [], drop}
use Rattle.kp_stage.specs.inner.Tables.{given, stmts_noted}
use Rattle.kp_stage.proofs.facts.OfStmts.note_block.Given as goal

abbrev pub invariant-loop-j : goal.invariant-loop-j
invariant-loop-j l = stmts_noted (given l.self l.sets) l.k l.j (drop l.j l.stmts) ≡ stmts_noted (given l.initial.self []) l.k 0 l.stmts
