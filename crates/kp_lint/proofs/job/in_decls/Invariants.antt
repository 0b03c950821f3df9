use Rattle.std.proofs.Common.{◌≡◌, drop}
use Rattle.kp_base.specs.Findings.{with_answers}
use Rattle.kp_lint.specs.{Lints.of_decls, inner.Noted.facts_in}
use Rattle.kp_lint.proofs.job.in_decls.Given as goal

abbrev pub invariant-loop-number : goal.invariant-loop-number
invariant-loop-number l =
    let job = l.facts.job.now in
    with_answers l.notes (of_decls (facts_in l.facts) job l.number (drop l.number job.decls)) ≡ with_answers l.initial.notes (of_decls (facts_in l.facts) job 0 job.decls)
