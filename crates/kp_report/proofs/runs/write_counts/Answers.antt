use Rattle.std.proofs.{Common.ℕ, Common.Err, lemmas.Result.err_from_is_err_and}
use Rattle.kp_base.proofs.Bytes.{part_more, writes_next}
use Rattle.kp_report.specs.Runs.{count_word}
use Rattle.kp_report.proofs.runs.write_counts.Goals as goal

pub returns-in_err-write_all-clause-text : goal.returns-in_err-write_all-clause-text
unfolding count_word
returns-in_err-write_all-clause-text g c =
    let exit = err_from_is_err_and c.from_residual.result c.from_residual.ensures.1 in
    rw exit.1 (part_more _ _ _ _ c.in_err-write_all.ensures.text)

pub returns-in_err-write_each-clause-text : goal.returns-in_err-write_each-clause-text
unfolding count_word
returns-in_err-write_each-clause-text g c =
    let exit = err_from_is_err_and c.from_residual-in_err-write_each.result c.from_residual-in_err-write_each.ensures.1 in
    rw exit.1 (writes_next {T = ℕ} {E = ℕ} _ _ _ _ _ (Err 0) c.in_ok-write_all.ensures.text (part_more _ _ _ _ c.in_err-write_each.ensures.text))

pub returns-clause-text : goal.returns-clause-text
unfolding count_word
returns-clause-text g c = writes_next _ _ _ _ _ _ c.in_ok-write_all.ensures.text (writes_next _ _ _ _ _ _ c.in_ok-write_each.ensures.text c.write_all-2.ensures.text)
