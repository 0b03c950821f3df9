use Rattle.std.proofs.{Common.ℕ, Common.Err, lemmas.Result.err_from_is_err_and}
use Rattle.kp_base.proofs.Bytes.{part_more, writes_next}
use Rattle.kp_report.proofs.difference_text.write_line.Goals as goal

pub returns-in_err-write_cycle-clause-text : goal.returns-in_err-write_cycle-clause-text
returns-in_err-write_cycle-clause-text g c =
    let exit = err_from_is_err_and c.from_residual.result c.from_residual.ensures.1 in
    rw exit.1 (part_more _ _ _ _ c.in_err-write_cycle.ensures.text)

pub returns-in_err-write_target-clause-text : goal.returns-in_err-write_target-clause-text
returns-in_err-write_target-clause-text g c =
    let exit = err_from_is_err_and c.from_residual-in_err-write_target.result c.from_residual-in_err-write_target.ensures.1 in
    rw exit.1 (writes_next {T = ℕ} {E = ℕ} _ _ _ _ _ (Err 0) c.in_ok-write_cycle.ensures.text (part_more _ _ _ _ c.in_err-write_target.ensures.text))

pub returns-clause-text : goal.returns-clause-text
returns-clause-text g c = writes_next _ _ _ _ _ _ c.in_ok-write_cycle.ensures.text (writes_next _ _ _ _ _ _ c.in_ok-write_target.ensures.text c.write_both.ensures.text)
