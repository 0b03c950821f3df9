use Rattle.std.proofs.Common.{◌∙◌, ap, subst}
use Rattle.kp_base.specs.Bytes.{Writes}
use Rattle.kp_debug.specs.{Sessions.Debugged, Inspecting.reached, Inspecting.printed_by, inner.Standing.run_of}
use Rattle.kp_debug.proofs.Standing.{under_at, reached_there}
use Rattle.kp_debug.proofs.commands.run_command.Goals as goal

pub print_command-requires-clause-net : goal.print_command-requires-clause-net
print_command-requires-clause-net g c = ap (λ (s : Debugged). s.net) c.go.ensures ∙ c.requires.net

pub print_command-requires-clause-under : goal.print_command-requires-clause-under
print_command-requires-clause-under g c =
    let job = c.args.job.now.design.job in
    let d = c.args.session.now in
    under_at job d c.requires.under c.go.new.session (reached (run_of job d) d.cycle c.args.command.now) c.go.ensures (reached_there job d c.requires.under c.args.command.now)

pub returns-clause-session : goal.returns-clause-session
returns-clause-session g c = c.print_command.ensures.stays ∙ c.go.ensures

pub returns-clause-text : goal.returns-clause-text
returns-clause-text g c =
    let job = c.args.job.now.design.job in
    subst (λ (s : Debugged). Writes (g.K.Sink.held c.args.sink.now) (g.K.Sink.held c.print_command.new.sink) (printed_by job (run_of job s) s.cycle c.args.command.now) c.print_command.result)
    c.go.ensures c.print_command.ensures.text
