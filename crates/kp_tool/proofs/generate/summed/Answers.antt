use Rattle.std.proofs.Common.{◌∙◌, ap}
use Rattle.kp_image.proofs.Given.{starts}
use Rattle.kp_report.specs.Line.{totals_line}
use Rattle.kp_tool.proofs.Summed.{summed_is_due}
use Rattle.kp_tool.proofs.generate.summed.Goals as goal

pub synth-requires-clause-suits : goal.synth-requires-clause-suits
synth-requires-clause-suits c = rw c.args.job.now.start (starts _ c.job-kept.ensures.sound.names c.args.job.now.unbroken)

pub board_shown-requires : goal.board_shown-requires
board_shown-requires c = c.in_ok-net.ensures.shows

pub returns : goal.returns
returns c =
    let board = c.in_ok-board.board in
    ap (totals_line c.args.number) c.totals_of-totals.ensures
    ∙ summed_is_due c.args.number c.args.count c.args.job.now.design.job board.design.now.job board.cycles.rows.items c.requires c.in_ok-board.ensures.job
    (c.a_run_shows_the_pipeline.ensures.rows c.in_ok-net.net c.args.count board.cycles.rows.items board.cycles.monitor c.in_ok-net.ensures.shows c.in_ok-board.ensures.rows)
