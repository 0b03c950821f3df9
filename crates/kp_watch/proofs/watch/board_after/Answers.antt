use Rattle.std.proofs.Common.{◌≡◌, ◌∙◌, ap}
use Rattle.kp_net.specs.Netlist.{State}
use Rattle.kp_implements.specs.Naming.{value_shown}
use Rattle.kp_watch.proofs.Whole.{last_is_due}
use Rattle.kp_watch.proofs.watch.board_after.Goals as goal

pub board_with-requires-clause-values : goal.board_with-requires-clause-values
board_with-requires-clause-values c t a there =
    let job = c.args.job.now.design.job in
    let both = c.args.both in
    ap (λ (st : State). value_shown job both.sim.net st t a) c.requires.state
    ∙ last_is_due job both.sim.net c.args.count both.rows.items c.requires.rows.rows c.requires.agrees t a there
