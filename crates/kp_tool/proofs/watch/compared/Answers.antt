use Rattle.kp_tool.proofs.Compared.{watched_is_due}
use Rattle.kp_tool.proofs.watch.compared.Goals as goal

pub returns : goal.returns
returns c =
    watched_is_due c.args.count c.args.job.now.design.job c.args.net.now c.in_ok-board.board c.in_ok-board.difference c.in_ok-board.ensures.job c.in_ok-board.ensures.rows c.in_ok-board.ensures.difference
