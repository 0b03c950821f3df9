use Rattle.std.proofs.Common.{◌≡◌, ◌<◌, ◌^◌, false, get_or}
use Rattle.kp_stage.specs.Start.{bits_below}
use Rattle.kp_image.proofs.stalls.word_of.Given as goal

abbrev pub invariant-loop-k : goal.invariant-loop-k
invariant-loop-k l = (l.word ≡ bits_below l.k (λ j. get_or l.stalled j false)) × (l.word < 2 ^ l.k)
