use Rattle.std.proofs.Common.{List, ◌<◌, length, sym, subst, ap, ◌∙◌, arith}
use Rattle.kp_net.specs.Netlist.{state_after}
use Rattle.kp_cycle.{specs.Steps.Running, specs.Steps.given, specs.Steps.written_in, specs.inner.Settling.AreFixed, proofs.Noting.noted_is}
use Rattle.kp_cycle_plan.specs.{declared.codes.Step.Step, Storage.SlotsFit, Storage.state_of}
use Rattle.kp_cycle.proofs.sim.Sim.step_noting.Goals as goal

pub invariant_of-self : goal.invariant_of-self
invariant_of-self c =
    let h = c.self.invariant in
    (c.cycle-row.ensures.fits, h.1, c.cycle-row.ensures.widths, subst (SlotsFit c.self.inside.net.now) (sym c.cycle-row.ensures.slots) h.3, h.4, c.cycle-row.ensures.known, subst (λ (steps : List Step). AreFixed c.self.inside.net.now.nodes steps c.self.inside.fixed c.cycle-row.new.memory.nodes) c.as_slice.ensures.value c.cycle-row.ensures.fixed, h.7)

pub returns-clause-state : goal.returns-clause-state
returns-clause-state c =
    (λ i. record { net = c.self.inside.net.now; state = c.cycle-row.ensures.state i; slots = c.cycle-row.ensures.slots i })
    ∙ ap (λ (r : Running). record r { state = state_after r.net (given c.args.ext c.args.rst c.args.samples.now) r.state }) c.self.view_is

pub returns-clause-written : goal.returns-clause-written
returns-clause-written c f h =
    let net = c.self.inside.net.now in
    let m = c.self.inside.memory in
    let input = given c.args.ext c.args.rst c.args.samples.now in
    let there : f < length net.parts.files = omega (arith, h, ap (λ (r : Running). length r.net.parts.files) c.self.view_is) in
    c.note_writes.ensures.noted f there
    ∙ noted_is net input (state_of m) c.cycle-row.new.memory.nodes f there c.cycle-row.ensures.nodes
    ∙ ap (λ (r : Running). written_in r.net input r.state f) c.self.view_is
