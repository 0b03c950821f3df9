use Rattle.std.proofs.lemmas.Result.{err_from_is_err_and}
use Rattle.kp_frontend.proofs.Judged.{text_refused, end_refused, described}
use Rattle.kp_frontend.proofs.verdict.read_tree.Goals as goal

pub returns-in_err-job : goal.returns-in_err-job
returns-in_err-job c =
    let p = err_from_is_err_and c.from_residual.result c.from_residual.ensures.1 in
    rw (p.1, p.2) (text_refused _ _ c.in_err-job.ensures)

pub returns-in-Some : goal.returns-in-Some
returns-in-Some c = rw c.e.ensures (end_refused _ _ _ c.in_ok-job.ensures c.in-Some.ensures)

pub returns-in-None : goal.returns-in-None
returns-in-None c = (described _ _ c.in_ok-job.ensures c.in-None.ensures, c.in_ok-job.ensures.few)
