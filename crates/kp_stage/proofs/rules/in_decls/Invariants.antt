use Rattle.std.proofs.Common.{◌≡◌, drop}
use Rattle.kp_base.specs.Findings.{with_answers}
use Rattle.kp_stage.specs.{Rules.ask_decls, inner.Tables.facts_in}
use Rattle.kp_stage.proofs.rules.in_decls.Given as goal

abbrev pub invariant-loop-i : goal.invariant-loop-i
invariant-loop-i l = with_answers l.notes (ask_decls (facts_in l.facts) l.rule l.i (drop l.i l.decls)) ≡ with_answers l.initial.notes (ask_decls (facts_in l.facts) l.rule 0 l.decls)
