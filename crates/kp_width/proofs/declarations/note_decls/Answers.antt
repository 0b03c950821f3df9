use Rattle.std.proofs.Common.{◌∙◌, drop, sym}
use Rattle.kp_base.proofs.Collecting.{full_stays}
use Rattle.kp_width.specs.Widths.{decl_answers}
use Rattle.kp_width.proofs.declarations.note_decls.Goals as goal

pub returns-then-is_full-clause-found : goal.returns-then-is_full-clause-found
returns-then-is_full-clause-found c =
    sym (full_stays c.loop-i.found (decl_answers c.args.decls.now c.loop-i.i c.loop-i.functions c.loop-i.names (drop c.loop-i.i c.args.decls.now)) (sym c.is_full.ensures ∙ c.if-is_full.true)) ∙ c.loop-i.invariant.0
