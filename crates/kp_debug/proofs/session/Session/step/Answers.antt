use Rattle.std.proofs.Common.{◌≡◌, ◌+◌, ◌≤◌, ℕ, length, min, ap, ◌∙◌, arith}
use Rattle.kp_debug.{specs.Sessions.Debugged, proofs.Feeding.inputs_many}
use Rattle.kp_debug.proofs.session.Session.step.Goals as goal

pub loop-init : goal.loop-init
loop-init c =
    let d = c.args.self.now in
    let s = c.self.inside in
    let none : d.cycle ≡ d.cycle + 0 = omega arith in (
      (λ i. record d { cycle = none i }),
      omega (
        arith,
        c.min-end.ensures,
        c.len.ensures,
        c.self.invariant.there,
        ap (λ (x : Debugged). x.cycle) c.self.view_is,
        ap (λ (x : Debugged). length x.inputs) c.self.view_is,
        inputs_many (length s.sim.net.parts.samples) s.exts.items s.samples.items,
      ),
    )

pub returns : goal.returns
returns c =
    let d = c.args.self.now in
    let s = c.self.inside in
    let inv = c.loop.invariant in
    let end : d.cycle + c.loop.counter ≡ min (d.cycle + c.args.n) (length d.inputs) =
    omega (
      arith,
      c.loop-test.false,
      c.loop.auto.counter-end,
      c.min-end.ensures,
      c.len.ensures,
      c.self.invariant.there,
      ap (λ (x : Debugged). x.cycle) c.self.view_is,
      ap (λ (x : Debugged). length x.inputs) c.self.view_is,
      inputs_many (length s.sim.net.parts.samples) s.exts.items s.samples.items,
    ) in
    inv.0 ∙ (λ i. record d { cycle = end i })
