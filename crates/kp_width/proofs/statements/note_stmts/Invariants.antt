use Rattle.std.proofs.Common.{◌≡◌, drop}
use Rattle.kp_base.specs.Findings.{with_answers}
use Rattle.kp_width.specs.Widths.{after_stmts, stmt_answers}
use Rattle.kp_width.proofs.statements.note_stmts.Given as goal

abbrev pub invariant-loop-stmt : goal.invariant-loop-stmt
invariant-loop-stmt l =
    (with_answers l.found (stmt_answers l.decls l.names (drop l.stmt-index l.stmts)) ≡ with_answers l.initial.found (stmt_answers l.decls l.initial.names l.stmts))
    × (after_stmts l.decls l.names (drop l.stmt-index l.stmts) ≡ after_stmts l.decls l.initial.names l.stmts)
