use Rattle.std.proofs.lemmas.Result.{err_from_is_err_and}
use Rattle.kp_frontend.proofs.Judged.{head_refused, head_broken, head_judged}
use Rattle.kp_frontend.proofs.verdict.judge_head.Goals as goal

pub returns-in_err-tree-clause-answer : goal.returns-in_err-tree-clause-answer
returns-in_err-tree-clause-answer c =
    let p = err_from_is_err_and c.from_residual.result c.from_residual.ensures.1 in
    rw (p.1, p.2) (head_refused _ _ c.in_err-tree.ensures)

pub returns-in_err-job-clause-answer : goal.returns-in_err-job-clause-answer
returns-in_err-job-clause-answer c =
    let p = err_from_is_err_and c.from_residual-in_err-job.result c.from_residual-in_err-job.ensures.1 in
    rw (p.1, p.2) (head_broken _ _ _ _ c.in_ok-tree.ensures c.in_err-job.ensures)

pub returns-clause-answer : goal.returns-clause-answer
returns-clause-answer c = head_judged _ _ _ c.in_ok-tree.ensures c.in_ok-job.ensures.0 c.in_ok-job.ensures.1

pub returns-clause-within : goal.returns-clause-within
returns-clause-within c = c.in_ok-tree.ensures.within
