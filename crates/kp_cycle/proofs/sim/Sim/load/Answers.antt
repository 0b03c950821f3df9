use Rattle.std.proofs.Common.{ℕ, List, length, sym, subst, ap, ◌∙◌}
use Rattle.std.specs.Prelude.{IsSome}
use Rattle.kp_cycle.specs.{Steps.Running, Steps.saved_in, inner.Settling.AreFixed}
use Rattle.kp_cycle_plan.{specs.Storage.FitsBelow, specs.Storage.SlotsFit, specs.Storage.state_of, proofs.Copies.fits_loaded}
use Rattle.kp_cycle.proofs.sim.Sim.load.Goals as goal

pub load-requires : goal.load-requires
load-requires c = let P : Running → Type 0 = λ r. IsSome (saved_in r c.args.slot) in subst P (sym c.self.view_is) c.requires

pub invariant_of-self : goal.invariant_of-self
invariant_of-self c =
    let net = c.self.inside.net.now in
    let m = c.self.inside.memory in
    let h = c.self.invariant in
    let is = h.3 c.args.slot (state_of c.load.new.self) c.load.ensures.state in (
      fits_loaded net m c.load.new.self h.0 is c.load.ensures.nodes,
      h.1,
      is.fit,
      subst (SlotsFit net) (sym c.load.ensures.slots) h.3,
      h.4,
      subst (λ (v : List ℕ). FitsBelow net.nodes v (length net.nodes)) (sym c.load.ensures.nodes) h.5,
      subst (AreFixed net.nodes c.self.inside.steps.items c.self.inside.fixed) (sym c.load.ensures.nodes) h.6,
      h.7,
    )

pub returns-clause-state : goal.returns-clause-state
returns-clause-state c = ap (λ (r : Running). saved_in r c.args.slot) (sym c.self.view_is) ∙ c.load.ensures.state

pub returns-clause-others : goal.returns-clause-others
returns-clause-others c =
    (λ i. record { net = c.self.inside.net.now; state = state_of c.load.new.self; slots = c.load.ensures.slots i })
    ∙ ap (λ (r : Running). record r { state = state_of c.load.new.self }) c.self.view_is
