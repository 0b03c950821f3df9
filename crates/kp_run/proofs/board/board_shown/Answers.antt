use Rattle.std.proofs.Common.{◌∙◌, ap}
use Rattle.kp_net.specs.Netlist.{Net, State}
use Rattle.kp_implements.specs.Naming.{value_shown}
use Rattle.kp_run.proofs.Due.{shown_is_due}
use Rattle.kp_run.proofs.board.board_shown.Goals as goal

pub board_with-requires-clause-values : goal.board_with-requires-clause-values
board_with-requires-clause-values c t a word =
    let accepted = c.args.job.now in
    let job = accepted.design.job in
    let net = c.args.net.now in
    let ran = c.in_ok-run.run' in
    let rows = ran.cycles.rows.items in
    let has = c.in_ok-run.ensures.rows in
    ap (λ (m : Net). value_shown job m ran.sim.state t a) c.in_ok-run.ensures.net
    ∙ ap (λ (st : State). value_shown job net st t a) c.in_ok-run.ensures.state
    ∙ shown_is_due job c.job-kept.ensures.sound.names accepted.unbroken net c.args.count rows ran.cycles.monitor c.requires has
    (λ t a word. c.a_run_shows_the_pipeline.ensures.values net c.args.count rows ran.cycles.monitor t a c.requires has word) t a word
