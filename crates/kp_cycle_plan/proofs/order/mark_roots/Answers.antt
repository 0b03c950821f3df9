use Rattle.std.proofs.Common.{◌≡◌, ◌<◌, ◌≤◌, ℕ, length, subst, ap, ◌∙◌, arith, ⊎_elim}
use Rattle.std.proofs.lemmas.Bool.{cases_lt}
use Rattle.kp_net.specs.declared.netlist.Parts.{Parts}
use Rattle.kp_cycle_plan.specs.{declared.latches.Latch.Latch, Latches.OfLatch, Latches.latch_for, Plans.IsMarked}
use Rattle.kp_cycle_plan.proofs.Marking.{roots_marked, latch_is}
use Rattle.kp_cycle_plan.proofs.order.mark_roots.Goals as goal

pub loop-i-preserved : goal.loop-i-preserved
loop-i-preserved c =
    let net = c.args.net.now in
    let i = c.loop-i.i in
    let inv = c.loop-i.invariant in
    let new = c.mark_latch.new.marks in
    let grows = c.mark_latch.ensures.grows in (
      grows.count ∙ inv.0,
      λ r l. ⊎_elim
          (λ (low : r < i). latch_is (IsMarked c.loop-i.marks) (IsMarked new) (latch_for net r) grows.kept (inv.1 r low))
          (λ (high : i ≤ r). let e : i ≡ r = omega arith in
          let P : Latch → Type 0 = OfLatch (IsMarked new) in
          let Q : ℕ → Type 0 = λ x. P (latch_for net x) in
          subst Q e (subst P c.latch_of.ensures c.mark_latch.ensures.latch))
          (cases_lt r i),
    )

pub returns-clause-roots : goal.returns-clause-roots
returns-clause-roots c =
    let net = c.args.net.now in
    let inv = c.loop-i-2.invariant in
    let files = ap length (c.as_slice-files.ensures ∙ ap (λ (p : Parts). p.files) c.parts-parts.ensures.parts) in
    roots_marked net c.loop-i-2.marks c.parts-parts.result.now c.parts-parts.ensures.parts c.parts-parts.ensures.right inv.0 inv.1
    (λ f l. inv.2 f (omega (arith, l, c.loop-i-2-test.false, files)))
