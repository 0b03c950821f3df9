use Rattle.std.proofs.Common.{◌≤◌, ℕ, List, Result, arith, subst, sym}
use Rattle.kp_run.proofs.Machines.{stages_fit}
use Rattle.kp_directive.specs.{Faults.Yields, declared.directive.DirectiveFault.DirectiveFault}
use Rattle.kp_view.{specs.Listed.label_of, specs.Listed.listed_by, specs.inner.Listings.listed_seen, proofs.Listings.names_failed}
use Rattle.kp_view.proofs.listed.listed_in.Goals as goal

pub overflow_cast-stages : goal.overflow_cast-stages
overflow_cast-stages c =
    let few : c.job.result.now.stages.value ≤ 12 = rw c.job.ensures.job (stages_fit c.args.job.now.design.job c.job.ensures.sound.stages).1 in
    omega (arith, few)

pub returns-in-Ok-clause-listed : goal.returns-in-Ok-clause-listed
returns-in-Ok-clause-listed c =
    let job = c.args.job.now.design.job in
    let input = c.args.input.now in
    subst (λ (names : Result (List (List ℕ)) DirectiveFault). Yields c.with_label.result (listed_by names (label_of job input c.args.end)) (listed_seen input))
    (sym (rw c.job.ensures.job at c.in-Ok.ensures.names)) c.with_label.ensures.listed

pub returns-in-Err-clause-listed : goal.returns-in-Err-clause-listed
returns-in-Err-clause-listed c =
    names_failed (listed_seen c.args.input.now) _ _ c.in-Err.refused _ (rw c.job.ensures.job at c.in-Err.ensures.names)
