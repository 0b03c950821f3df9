use Rattle.std.{proofs.Common.◌≡◌, proofs.Common.ℕ, proofs.Common.List, proofs.Common.sym, proofs.Common.subst, specs.Prelude.OnOk}
use Rattle.kp_base.specs.Bytes.{Writes}
use Rattle.kp_debug.specs.Inspecting.{Inspected, all_cycles, whole_run, printed, ends_in, AreOfJob}
use Rattle.kp_debug.proofs.Alike.{text_is}
use Rattle.kp_debug.proofs.inspection.Inspection.write.Goals as goal

pub run_commands-requires-clause-net : goal.run_commands-requires-clause-net
run_commands-requires-clause-net g c = c.self.invariant.net_is

pub run_commands-requires-clause-under : goal.run_commands-requires-clause-under
run_commands-requires-clause-under g c = c.self.invariant.under

pub run_commands-requires-clause-commands : goal.run_commands-requires-clause-commands
run_commands-requires-clause-commands g c = subst (λ (x : Inspected). AreOfJob x.job c.args.commands.now) (sym c.self.view_is) c.requires

pub invariant_of-self : goal.invariant_of-self
invariant_of-self g c = record { net_is = c.run_commands.ensures.net; shows = c.self.invariant.shows; under = c.run_commands.ensures.under }

pub returns-clause-text : goal.returns-clause-text
returns-clause-text g c =
    let job = c.self.inside.job.now.design.job in
    let of = subst (λ (x : Inspected). AreOfJob x.job c.args.commands.now) (sym c.self.view_is) c.requires in
    let same =
    text_is job c.self.inside.net.now c.self.inside.session c.self.invariant (c.a_job_gives_its_own_inputs.ensures.seen all_cycles)
    (c.a_job_gives_its_own_inputs.ensures.quiet all_cycles) c.args.commands.now of in
    subst (λ (x : Inspected). Writes (g.K.Sink.held c.args.sink.now) (g.K.Sink.held c.run_commands.new.sink) (printed x.job (whole_run x.job) x.cycle c.args.commands.now) c.run_commands.result)
    c.self.view_is
    (subst (λ (text : List ℕ). Writes (g.K.Sink.held c.args.sink.now) (g.K.Sink.held c.run_commands.new.sink) text c.run_commands.result) same.0 c.run_commands.ensures.text)

pub returns-clause-cycle : goal.returns-clause-cycle
returns-clause-cycle g c =
    let job = c.self.inside.job.now.design.job in
    let of = subst (λ (x : Inspected). AreOfJob x.job c.args.commands.now) (sym c.self.view_is) c.requires in
    let same =
    text_is job c.self.inside.net.now c.self.inside.session c.self.invariant (c.a_job_gives_its_own_inputs.ensures.seen all_cycles)
    (c.a_job_gives_its_own_inputs.ensures.quiet all_cycles) c.args.commands.now of in
    subst (λ (x : Inspected). OnOk c.run_commands.result (c.run_commands.new.session.cycle ≡ ends_in (whole_run x.job) x.cycle c.args.commands.now))
    c.self.view_is
    (subst (λ (last : ℕ). OnOk c.run_commands.result (c.run_commands.new.session.cycle ≡ last)) same.1 c.run_commands.ensures.cycle)
