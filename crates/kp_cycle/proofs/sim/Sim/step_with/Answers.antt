use Rattle.std.proofs.Common.{List, sym, subst, ap, ◌∙◌}
use Rattle.kp_net.specs.Netlist.{state_after}
use Rattle.kp_cycle.specs.{Steps.Running, Steps.given, inner.Settling.AreFixed}
use Rattle.kp_cycle_plan.specs.{declared.codes.Step.Step, Storage.SlotsFit}
use Rattle.kp_cycle.proofs.sim.Sim.step_with.Goals as goal

pub invariant_of-self : goal.invariant_of-self
invariant_of-self c =
    let h = c.self.invariant in
    (c.cycle.ensures.fits, h.1, c.cycle.ensures.widths, subst (SlotsFit c.self.inside.net.now) (sym c.cycle.ensures.slots) h.3, h.4, c.cycle.ensures.known, subst (λ (steps : List Step). AreFixed c.self.inside.net.now.nodes steps c.self.inside.fixed c.cycle.new.memory.nodes) c.as_slice.ensures.value c.cycle.ensures.fixed, h.7)

pub returns-clause-state : goal.returns-clause-state
returns-clause-state c =
    (λ i. record { net = c.self.inside.net.now; state = c.cycle.ensures.state i; slots = c.cycle.ensures.slots i })
    ∙ ap (λ (r : Running). record r { state = state_after r.net (given c.args.ext c.args.rst c.args.samples.now) r.state }) c.self.view_is
