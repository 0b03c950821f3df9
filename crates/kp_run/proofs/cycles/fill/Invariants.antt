use Rattle.std.{proofs.Common.◌≡◌, proofs.Common.length, specs.Prelude.take}
use Rattle.kp_image.specs.Feeds.{row_in}
use Rattle.kp_run.proofs.cycles.fill.Given as goal

abbrev pub invariant-loop-x : goal.invariant-loop-x
invariant-loop-x l = (length l.room ≡ length l.initial.room) × (take l.x l.room ≡ take l.x (row_in l.inputs l.cycle))
