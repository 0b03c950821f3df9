use Rattle.std.{proofs.Common.◌≡◌, proofs.Common.◌+◌, proofs.Common.drop, specs.Prelude.sum_by}
use Rattle.kp_base.specs.Findings.{with_answers}
use Rattle.kp_width.specs.{Declarations.functions_in, Widths.after_decls, Widths.decl_answers}
use Rattle.kp_width.proofs.declarations.note_decls.Given as goal

abbrev pub invariant-loop-i : goal.invariant-loop-i
invariant-loop-i l =
    (with_answers l.found (decl_answers l.decls l.i l.functions l.names (drop l.i l.decls)) ≡ with_answers l.initial.found (decl_answers l.decls 0 0 l.initial.names l.decls))
    × (after_decls l.decls l.i l.functions l.names (drop l.i l.decls) ≡ after_decls l.decls 0 0 l.initial.names l.decls)
    × (l.functions + sum_by functions_in (drop l.i l.decls) ≡ sum_by functions_in l.decls)
