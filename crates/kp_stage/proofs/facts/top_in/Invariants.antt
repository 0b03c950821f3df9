use Rattle.std.proofs.Common.{◌≡◌, drop}
use Rattle.kp_stage.specs.{Facts.largest_in, inner.Tables.look_up}
use Rattle.kp_stage.proofs.facts.top_in.Given as goal

abbrev pub invariant-loop-stmt : goal.invariant-loop-stmt
invariant-loop-stmt l = largest_in (look_up l.writes) l.top (drop l.stmt-index l.stmts) ≡ largest_in (look_up l.writes) l.from l.stmts
