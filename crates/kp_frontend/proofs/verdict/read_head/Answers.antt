use Rattle.std.proofs.lemmas.Result.{err_from_is_err_and}
use Rattle.kp_frontend.proofs.Judged.{tokens_refused, parsed}
use Rattle.kp_frontend.proofs.verdict.read_head.Goals as goal

pub returns-in_err-lexed : goal.returns-in_err-lexed
returns-in_err-lexed c =
    let p = err_from_is_err_and c.from_residual.result c.from_residual.ensures.1 in
    rw (p.1, p.2) (tokens_refused _ _ c.in_err-lexed.ensures)

pub returns : goal.returns
returns c = parsed _ _ _ c.requires c.in_ok-lexed.ensures c.parse.ensures.answer c.parse.ensures.few
