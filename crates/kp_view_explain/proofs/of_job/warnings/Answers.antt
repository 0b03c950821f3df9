use Rattle.std.proofs.Common.{◌∙◌, ℕ, List, [], subst}
use Rattle.kp_base.specs.declared.finding.Finding.{Finding}
use Rattle.kp_lint.specs.declared.lint.Lint.{Lint}
use Rattle.kp_view_explain.specs.Printed.{Prints}
use Rattle.kp_view_explain.proofs.of_job.warnings.Goals as goal

pub returns : goal.returns
returns c =
    let file = c.args.file.now in
    let text = c.args.text.now in
    let job = c.args.job.now in
    let out = c.write_warnings.new.out.items in
    subst (λ (fs : List (Finding Lint)). Prints file text job fs [] out) (c.as_slice.ensures ∙ c.in_ok-found.ensures)
    (subst (λ (l : List ℕ). Prints file text job c.as_slice.result.now l out) c.new-out.ensures.items c.in_ok-write_warnings.ensures)
