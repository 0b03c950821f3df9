use Rattle.std.proofs.{Common.◌++◌, Common.sym, Common.subst, KnownBytes.Appends-nil}
use Rattle.kp_base.specs.Bytes.{Writes}
use Rattle.kp_net.specs.Netlist.{Net}
use Rattle.kp_report.specs.States.{State, state_lines, no_counts}
use Rattle.kp_debug.{specs.Inspecting.at_line, specs.Inspecting.IsOfTargets, specs.inner.Standing.IsRegisterOf, proofs.Standing.visible_is}
use Rattle.kp_debug.proofs.commands.print_command.Goals as goal

pub register_of-number-requires-clause-there : goal.register_of-number-requires-clause-there
register_of-number-requires-clause-there g c = (subst (IsOfTargets c.args.job.now.design.job) c.in-Until.is c.requires.command).0

pub register_of-number-requires-clause-kind : goal.register_of-number-requires-clause-kind
register_of-number-requires-clause-kind g c = (subst (IsOfTargets c.args.job.now.design.job) c.in-Until.is c.requires.command).1

pub is_met-hit-requires-clause-register : goal.is_met-hit-requires-clause-register
is_met-hit-requires-clause-register g c =
    subst (λ (n : Net). IsRegisterOf c.args.job.now.design.job n c.in-Until.target c.register_of-number.result) (sym c.requires.net) c.register_of-number.ensures

pub returns-in-Step-clause-text : goal.returns-in-Step-clause-text
returns-in-Step-clause-text g c = rw c.in-Step.is (Appends-nil _)

pub returns-in-Back-clause-text : goal.returns-in-Back-clause-text
returns-in-Back-clause-text g c = rw c.in-Back.is (Appends-nil _)

pub returns-in-Until-clause-text : goal.returns-in-Until-clause-text
returns-in-Until-clause-text g c = rw (c.in-Until.is, sym c.is_met-hit.ensures, sym c.cycle.ensures) c.write_hit.ensures.text

pub returns-in-Show-clause-text : goal.returns-in-Show-clause-text
returns-in-Show-clause-text g c =
    let job = c.args.job.now.design.job in
    let d = c.args.session.now in
    rw c.in-Show.is
    (subst (λ (shown : State). Writes (g.K.Sink.held c.args.sink.now) (g.K.Sink.held c.show.new.sink) (at_line d.cycle ++ state_lines 0 no_counts shown job.decls) c.show.result)
    (sym (visible_is job d c.requires.under)) c.show.ensures.text)

pub returns-in-Row-clause-text : goal.returns-in-Row-clause-text
returns-in-Row-clause-text g c = rw c.in-Row.is c.print_row.ensures.text
