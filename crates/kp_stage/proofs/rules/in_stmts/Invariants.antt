use Rattle.std.proofs.Common.{◌≡◌, drop}
use Rattle.kp_base.specs.Findings.{with_answers}
use Rattle.kp_stage.specs.{Rules.ask_stmts, inner.Tables.facts_in}
use Rattle.kp_stage.proofs.rules.in_stmts.Given as goal

abbrev pub invariant-loop-j : goal.invariant-loop-j
invariant-loop-j l = with_answers l.notes (ask_stmts (facts_in l.facts) l.rule l.k l.j (drop l.j l.stmts)) ≡ with_answers l.initial.notes (ask_stmts (facts_in l.facts) l.rule l.k 0 l.stmts)
