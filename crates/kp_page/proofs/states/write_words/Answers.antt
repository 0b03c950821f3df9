use Rattle.std.proofs.{Common.arith, Common.ℕ, Common.get_or, lemmas.Result.err_from_is_err_and, KnownBytes.Appends-nil}
use Rattle.kp_base.proofs.Bytes.{written_piece, written_part, rest_whole}
use Rattle.kp_machine.specs.Words.{target}
use Rattle.kp_report.proofs.Lines.{left_is}
use Rattle.kp_page.{specs.inner.Seen.seen, proofs.Lines.words_next, proofs.Lines.words_end}
use Rattle.kp_page.proofs.states.write_words.Goals as goal

pub loop-address-preserved : goal.loop-address-preserved
loop-address-preserved g c =
    let job = c.args.job.now.design.job in
    let next = words_next c.args.name.now (target job c.args.t).width (λ (a : ℕ). get_or c.args.old.now a 0) (seen job c.args.now.now c.args.t) c.loop-address.address c.args.count c.loop-address-test.true in
    record {
      text = written_piece _ _ _ _ _ _ (left_is _ _ _ _ _ next c.loop-address.invariant.text) (rw (c.word_shown-value.ensures, c.word_at.ensures) at c.in_ok-write_change.ensures.text);
      later = omega arith;
    }

pub returns-in_err-write_change-clause-text : goal.returns-in_err-write_change-clause-text
returns-in_err-write_change-clause-text g c =
    let job = c.args.job.now.design.job in
    let next = words_next c.args.name.now (target job c.args.t).width (λ (a : ℕ). get_or c.args.old.now a 0) (seen job c.args.now.now c.args.t) c.loop-address.address c.args.count c.loop-address-test.true in
    let exit = err_from_is_err_and c.from_residual.result c.from_residual.ensures.1 in
    rw exit.1 (written_part _ _ _ _ _ _ (left_is _ _ _ _ _ next c.loop-address.invariant.text) (rw (c.word_shown-value.ensures, c.word_at.ensures) at c.in_err-write_change.ensures.text))

pub returns-clause-text : goal.returns-clause-text
returns-clause-text g c =
    let job = c.args.job.now.design.job in
    let none = words_end c.args.name.now (target job c.args.t).width (λ (a : ℕ). get_or c.args.old.now a 0) (seen job c.args.now.now c.args.t) c.loop-address.address c.args.count (omega arith) in
    rest_whole _ _ _ _ _ (left_is _ _ _ _ _ none c.loop-address.invariant.text) (Appends-nil _)
