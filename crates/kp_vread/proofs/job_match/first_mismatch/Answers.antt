use Rattle.std.proofs.Common.{◌≡◌, ◌∙◌, Option, ap, subst, sym}
use Rattle.std.specs.Prelude.{MatchOption}
use Rattle.kp_implements.specs.Shows.{IsOfJob}
use Rattle.kp_vread.specs.{Matching.first_mismatch, declared.job_match.Mismatch.Mismatch}
use Rattle.kp_vread.proofs.JobMatches.{exact}
use Rattle.kp_vread.proofs.job_match.first_mismatch.Goals as goal

pub returns-clause-exact : goal.returns-clause-exact
returns-clause-exact c =
    let net = c.args.net.now in
    let job = c.args.design.now.job in
    let same : c.of_parts.result ≡ first_mismatch net.parts job =
    c.of_parts.ensures ∙ ap (λ p. first_mismatch p c.job.result.now) c.parts.ensures.parts ∙ ap (first_mismatch net.parts) c.job.ensures.job in
    subst (λ (o : Option Mismatch). MatchOption o (IsOfJob net job) (λ _. IsOfJob net job → ⊥)) (sym same) (exact net job)
