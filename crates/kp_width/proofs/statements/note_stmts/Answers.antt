use Rattle.std.proofs.Common.{◌∙◌, drop, sym}
use Rattle.kp_base.proofs.Collecting.{full_stays}
use Rattle.kp_width.specs.Widths.{stmt_answers}
use Rattle.kp_width.proofs.statements.note_stmts.Goals as goal

pub returns-then-is_full-clause-found : goal.returns-then-is_full-clause-found
returns-then-is_full-clause-found c =
    sym (full_stays c.loop-stmt.found (stmt_answers c.args.decls.now c.loop-stmt.names (drop c.loop-stmt.stmt-index c.args.stmts.now)) (sym c.is_full.ensures ∙ c.if-is_full.true)) ∙ c.loop-stmt.invariant.0
