use Rattle.std.proofs.Common.{◌≡◌, drop}
use Rattle.kp_base.specs.Findings.{with_answers}
use Rattle.kp_lint.specs.{Lints.of_blocks, inner.Noted.facts_in}
use Rattle.kp_lint.proofs.job.in_blocks.Given as goal

abbrev pub invariant-loop-stage : goal.invariant-loop-stage
invariant-loop-stage l =
    let job = l.facts.job.now in
    with_answers l.notes (of_blocks (facts_in l.facts) job l.stage (drop l.stage job.blocks)) ≡ with_answers l.initial.notes (of_blocks (facts_in l.facts) job 0 job.blocks)
