use Rattle.std.proofs.Common.{[], ap, ◌∙◌}
use Rattle.kp_net.specs.Netlist.{State}
use Rattle.kp_cycle.specs.Steps.{word_shown}
use Rattle.kp_debug.{specs.Sessions.Debugged, specs.Sessions.shown, proofs.AtCycle.stands}
use Rattle.kp_debug.proofs.session.Session.word.Goals as goal

pub returns : goal.returns
returns c =
    let s = c.self.inside in
    c.word.ensures
    ∙ ap (λ (st : State). word_shown (record { net = s.sim.net; state = st; slots = [] }) c.args.file c.args.address) (stands s.sim s.exts.items s.samples.items s.cycle s.kept c.self.invariant)
    ∙ ap (λ (d : Debugged). word_shown (shown d) c.args.file c.args.address) c.self.view_is
