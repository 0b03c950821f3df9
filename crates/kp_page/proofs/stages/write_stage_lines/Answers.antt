use Rattle.std.proofs.{Common.arith, lemmas.Result.err_from_is_err_and}
use Rattle.kp_base.proofs.Bytes.{written_piece, written_part}
use Rattle.kp_diagram_text.specs.Charts.{names_of}
use Rattle.kp_page.proofs.PageLines.{left_is, lines_next}
use Rattle.kp_page.proofs.stages.write_stage_lines.Goals as goal

pub returns-in_err-write_stage_line-clause-text : goal.returns-in_err-write_stage_line-clause-text
returns-in_err-write_stage_line-clause-text g c =
    let next = lines_next (names_of c.args.chart.now) c.args.chart.now.stages c.loop-k.k c.loop-k-test.true in
    let exit = err_from_is_err_and c.from_residual.result c.from_residual.ensures.1 in
    rw exit.1 (written_part _ _ _ _ _ _ (left_is _ _ _ _ _ next c.loop-k.invariant.text) c.in_err-write_stage_line.ensures.text)

pub loop-k-preserved : goal.loop-k-preserved
loop-k-preserved g c =
    let next = lines_next (names_of c.args.chart.now) c.args.chart.now.stages c.loop-k.k c.loop-k-test.true in
    record {
      text = written_piece _ _ _ _ _ _ (left_is _ _ _ _ _ next c.loop-k.invariant.text) c.in_ok-write_stage_line.ensures.text;
      later = omega arith;
    }
