use Rattle.std.proofs.Common.{◌≡◌, drop}
use Rattle.kp_base.specs.Findings.{with_answers}
use Rattle.kp_lint.specs.{Lints.of_stmts, inner.Noted.facts_in, inner.Noted.has}
use Rattle.kp_lint.proofs.job.in_block.Given as goal

abbrev pub invariant-loop-index : goal.invariant-loop-index
invariant-loop-index l =
    let asked = of_stmts (facts_in l.facts) l.facts.job.now (has l.used.entries) l.stage in
    with_answers l.notes (asked l.index (drop l.index l.block.stmts)) ≡ with_answers l.initial.notes (asked 0 l.block.stmts)
