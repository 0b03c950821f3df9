use Rattle.std.proofs.Common.{◌≡◌, ◌∷◌, drop}
use Rattle.kp_base.specs.Findings.{with_answers}
use Rattle.kp_lint.specs.{Lints.of_local, Lints.of_results, Lints.of_stmt, inner.Noted.facts_in, inner.Noted.has}
use Rattle.kp_lint.proofs.job.in_stmt.Given as goal

abbrev pub invariant-loop-number : goal.invariant-loop-number
invariant-loop-number l =
    let facts = facts_in l.facts in
    let job = l.facts.job.now in
    with_answers l.notes (of_results facts job.blocks l.spot.stage l.spot.index l.stmt l.number (drop l.number job.decls))
    ≡ with_answers l.fn.notes (of_stmt facts job (has l.used.entries) l.spot.stage l.spot.index l.stmt)
