use Rattle.std.proofs.Common.{◌≡◌, ◌<◌, ℕ, length, ap, ◌∙◌, arith}
use Rattle.kp_cycle.specs.Steps.{Running}
use Rattle.kp_debug.{specs.Sessions.Debugged, proofs.Feeding.inputs_many}
use Rattle.kp_debug.proofs.AtCycle.{gone_on, session_more, session_kept}
use Rattle.kp_debug.proofs.session.Session.advance.Goals as goal

pub run_one-requires-clause-there : goal.run_one-requires-clause-there
run_one-requires-clause-there c =
    let s = c.self.inside in
    omega (
      arith,
      c.requires,
      ap (λ (d : Debugged). d.cycle) c.self.view_is,
      ap (λ (d : Debugged). length d.inputs) c.self.view_is,
      inputs_many (length s.sim.net.parts.samples) s.exts.items s.samples.items,
      ap length c.as_slice.ensures.value,
    )

pub invariant_of-self : goal.invariant_of-self
invariant_of-self c =
    let s = c.self.inside in
    let below : s.cycle < length s.exts.items =
    omega (
      arith,
      c.requires,
      ap (λ (d : Debugged). d.cycle) c.self.view_is,
      ap (λ (d : Debugged). length d.inputs) c.self.view_is,
      inputs_many (length s.sim.net.parts.samples) s.exts.items s.samples.items,
    ) in
    let on : c.run_one.new.sim ≡ gone_on s.sim s.exts.items s.samples.items s.cycle =
    c.run_one.ensures.state ∙ (λ i. gone_on s.sim (c.as_slice.ensures.value i) (c.as_slice-2.ensures.value i) s.cycle) in
    session_kept s.sim s.exts.items s.samples.items s.cycle s.kept c.self.invariant c.run_one.new.sim c.save.new.self below (omega (arith, c.if-self.true)) on c.save.ensures

pub invariant_of-self-else-self : goal.invariant_of-self-else-self
invariant_of-self-else-self c =
    let s = c.self.inside in
    let below : s.cycle < length s.exts.items =
    omega (
      arith,
      c.requires,
      ap (λ (d : Debugged). d.cycle) c.self.view_is,
      ap (λ (d : Debugged). length d.inputs) c.self.view_is,
      inputs_many (length s.sim.net.parts.samples) s.exts.items s.samples.items,
    ) in
    let on : c.run_one.new.sim ≡ gone_on s.sim s.exts.items s.samples.items s.cycle =
    c.run_one.ensures.state ∙ (λ i. gone_on s.sim (c.as_slice.ensures.value i) (c.as_slice-2.ensures.value i) s.cycle) in
    session_more s.sim s.exts.items s.samples.items s.cycle s.kept c.self.invariant c.run_one.new.sim below (λ z. omega (arith, c.if-self.false, z)) on
