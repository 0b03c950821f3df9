use Rattle.std.proofs.Common.{◌≡◌, ◌<◌, ℕ, false, drop, length, get_or}
use Rattle.std.specs.Prelude.{◌||◌}
use Rattle.kp_image.specs.Spans.{some_stalls}
use Rattle.kp_image.proofs.stalls.stalled_stages.Given as goal

abbrev pub invariant-loop-span : goal.invariant-loop-span
invariant-loop-span l =
    (length l.stalled ≡ 12)
    × ((k : ℕ) → k < 12 → (get_or l.stalled k false || some_stalls (drop l.span-index l.spans) k l.cycle) ≡ some_stalls l.spans k l.cycle)
