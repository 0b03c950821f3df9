use Rattle.std.proofs.{Common.◌≡◌, Common.◌∙◌, Common.ℕ, Common.ap, Common.sym, Common.arith, lemmas.Result.err_from_is_err_and}
use Rattle.kp_pipeline.specs.Rows.{counts}
use Rattle.kp_base.proofs.Bytes.{written_piece, written_part}
use Rattle.kp_sched.{specs.Rows.rows_seen, proofs.Counting.seen_length}
use Rattle.kp_report.{specs.Runs.counts_behind, proofs.Lines.left_is, proofs.Reported.counts_next}
use Rattle.kp_report.proofs.runs.write_each.Goals as goal

pub returns-in_err-write_one-clause-text : goal.returns-in_err-write_one-clause-text
returns-in_err-write_one-clause-text g c =
    let n = c.args.monitor.now.stages in
    let count = counts_behind n (rows_seen n c.args.rows.now) in
    let next = counts_next count n c.loop-k.k (omega arith) in
    let exit = err_from_is_err_and c.from_residual.result c.from_residual.ensures.1 in
    let is : c.count-count.result ≡ count c.loop-k.k = c.count-count.ensures.seen c.args.rows.now c.requires ∙ ap (λ (m : ℕ). counts n (rows_seen n c.args.rows.now) m c.loop-k.k) (sym (seen_length n c.args.rows.now)) in
    let number = rw is at c.in_err-write_one.ensures.text in
    rw exit.1 (written_part _ _ _ _ _ _ (left_is _ _ _ _ _ next c.loop-k.invariant.text) number)

pub loop-k-preserved : goal.loop-k-preserved
loop-k-preserved g c =
    let n = c.args.monitor.now.stages in
    let count = counts_behind n (rows_seen n c.args.rows.now) in
    let next = counts_next count n c.loop-k.k (omega arith) in
    let is : c.count-count.result ≡ count c.loop-k.k = c.count-count.ensures.seen c.args.rows.now c.requires ∙ ap (λ (m : ℕ). counts n (rows_seen n c.args.rows.now) m c.loop-k.k) (sym (seen_length n c.args.rows.now)) in
    let number = rw is at c.in_ok-write_one.ensures.text in
    record {
      text = written_piece _ _ _ _ _ _ (left_is _ _ _ _ _ next c.loop-k.invariant.text) number;
      later = omega arith;
    }
