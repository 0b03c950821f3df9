use Rattle.std.proofs.lemmas.Result.{err_from_is_err_and}
use Rattle.kp_base.proofs.Writing.{stops_flushed, sends_flushed}
use Rattle.kp_base.proofs.page.Page.put.Goals as goal

pub returns-in_err-flush-clause-text : goal.returns-in_err-flush-clause-text
returns-in_err-flush-clause-text g c =
    let exit = err_from_is_err_and c.from_residual.result c.from_residual.ensures.1 in
    rw exit.1 (stops_flushed _ _ _ _ c.in_err-flush.ensures.text)

pub returns-then-piece-gt-SIZE-clause-text : goal.returns-then-piece-gt-SIZE-clause-text
returns-then-piece-gt-SIZE-clause-text g c = sends_flushed _ _ _ _ _ _ _ c.in_ok-flush.ensures.text c.in_ok-flush.ensures.empty c.write_all.ensures.text
