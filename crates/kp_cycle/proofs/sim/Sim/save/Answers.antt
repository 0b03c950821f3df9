use Rattle.std.proofs.Common.{◌<◌, length, set, sym, subst, ap, ◌∙◌, arith, Some}
use Rattle.kp_cycle.specs.{Steps.Running, Steps.ShowsRows, inner.Settling.AreFixed}
use Rattle.kp_cycle_plan.specs.{Latches.IsLatched, Plans.IsPlan}
use Rattle.kp_cycle_plan.specs.Storage.{Stored, Fits, FitsBelow, StateFits, SlotsFit, state_of}
use Rattle.kp_cycle_plan.proofs.Copies.{fits_slots, is_state, slots_saved_fit}
use Rattle.kp_cycle.proofs.sim.Sim.save.Goals as goal

pub save-requires : goal.save-requires
save-requires c = omega (arith, c.requires, ap (λ (r : Running). length r.slots) c.self.view_is)

pub invariant_of-self : goal.invariant_of-self
invariant_of-self c =
    let net = c.self.inside.net.now in
    let m = c.self.inside.memory in
    let h = c.self.invariant in
    let there : c.args.slot < length m.slots = omega (arith, c.requires, ap (λ (r : Running). length r.slots) c.self.view_is) in
    let P : Stored → Type 0 = λ x. Fits net x × ShowsRows net × StateFits net (state_of x) × SlotsFit net x.slots × IsPlan net c.self.inside.heads c.self.inside.steps.items × FitsBelow net.nodes x.nodes (length net.nodes)
    × AreFixed net.nodes c.self.inside.steps.items c.self.inside.fixed x.nodes × IsLatched net (length net.parts.regs) c.self.inside.latches.moved.items c.self.inside.latches.held.items in
    subst P (sym c.save.ensures)
    (fits_slots net m _ h.0, h.1, h.2, slots_saved_fit net m.slots c.args.slot (state_of m) there h.3 (is_state net m h.0 h.2), h.4, h.5, h.6, h.7)

pub returns : goal.returns
returns c =
    ap (λ (m : Stored). record { net = c.self.inside.net.now; state = state_of m; slots = m.slots }) c.save.ensures
    ∙ ap (λ (r : Running). record r { slots = set r.slots c.args.slot (Some r.state) }) c.self.view_is
