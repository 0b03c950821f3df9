use Rattle.std.proofs.Common.{◌∙◌, sym, length-set}
use Rattle.kp_image.proofs.{Loops.held_turn, Loops.missed_turn, stalls.stalled_stages.Goals.then-holds, stalls.stalled_stages.Goals.else-holds}
use Rattle.kp_image.proofs.stalls.stalled_stages.Goals as goal

pub loop-span-preserved : goal.loop-span-preserved
loop-span-preserved c = elim c.if-holds.branch [
  | then-holds w ↦ rw (w.stalled-is, w.from.ensures) (
    simp length-set c.loop-span.invariant.0,
    λ k h. held_turn c.args.spans.now c.loop-span.span-index _ c.loop-span-test.true c.loop-span.stalled k c.args.cycle c.requires c.loop-span.invariant.0 (sym c.holds.ensures ∙ w.if-holds.true) ∙ c.loop-span.invariant.1 k h,
  )
  | else-holds w ↦ rw w.stalled-is (
    c.loop-span.invariant.0,
    λ k h. missed_turn c.args.spans.now c.loop-span.span-index _ c.loop-span-test.true c.loop-span.stalled k c.args.cycle (sym c.holds.ensures ∙ w.if-holds.false) ∙ c.loop-span.invariant.1 k h,
  )
]
