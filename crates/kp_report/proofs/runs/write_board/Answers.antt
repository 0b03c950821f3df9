use Rattle.std.proofs.Common.{sym}
use Rattle.kp_report.proofs.Reported.{board_is_run}
use Rattle.kp_report.proofs.runs.write_board.Goals as goal

pub returns-clause-text : goal.returns-clause-text
returns-clause-text g c =
    let board = c.args.board.now in
    rw (sym (board_is_run board.cycles.monitor.stages board.design.now.job board.cycles.rows.items board.stages)) c.write_parts.ensures.text
