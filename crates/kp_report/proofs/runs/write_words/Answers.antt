use Rattle.std.proofs.{Common.arith, lemmas.Result.err_from_is_err_and, KnownBytes.Appends-nil}
use Rattle.kp_base.proofs.Bytes.{written_piece, written_part, rest_whole}
use Rattle.kp_machine.specs.Words.{target}
use Rattle.kp_run.specs.Boards.{due_behind}
use Rattle.kp_report.proofs.Lines.{left_is, words_next, words_end}
use Rattle.kp_report.proofs.runs.write_words.Goals as goal

pub loop-address-preserved : goal.loop-address-preserved
loop-address-preserved g c =
    let job = c.args.board.now.design.now.job in
    let rows = c.args.board.now.cycles.rows.items in
    let next = words_next c.args.name.now (target job c.args.t).width c.args.behind (due_behind job rows c.args.t) c.loop-address.address c.args.count c.loop-address-test.true in
    record {
      text = written_piece _ _ _ _ _ _ (left_is _ _ _ _ _ next c.loop-address.invariant.text) (rw c.value.ensures at c.in_ok-write_word.ensures.text);
      later = omega arith;
    }

pub returns-in_err-write_word-clause-text : goal.returns-in_err-write_word-clause-text
returns-in_err-write_word-clause-text g c =
    let job = c.args.board.now.design.now.job in
    let rows = c.args.board.now.cycles.rows.items in
    let next = words_next c.args.name.now (target job c.args.t).width c.args.behind (due_behind job rows c.args.t) c.loop-address.address c.args.count c.loop-address-test.true in
    let exit = err_from_is_err_and c.from_residual.result c.from_residual.ensures.1 in
    rw exit.1 (written_part _ _ _ _ _ _ (left_is _ _ _ _ _ next c.loop-address.invariant.text) (rw c.value.ensures at c.in_err-write_word.ensures.text))

pub returns-clause-text : goal.returns-clause-text
returns-clause-text g c =
    let job = c.args.board.now.design.now.job in
    let rows = c.args.board.now.cycles.rows.items in
    let none = words_end c.args.name.now (target job c.args.t).width c.args.behind (due_behind job rows c.args.t) c.loop-address.address c.args.count (omega arith) in
    rest_whole _ _ _ _ _ (left_is _ _ _ _ _ none c.loop-address.invariant.text) (Appends-nil _)
