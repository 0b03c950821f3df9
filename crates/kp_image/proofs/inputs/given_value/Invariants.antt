use Rattle.std.proofs.Common.{◌≡◌, ◌<◌, ◌^◌, drop}
use Rattle.kp_image.specs.Feeds.{given_over}
use Rattle.kp_image.proofs.inputs.given_value.Given as goal

abbrev pub invariant-loop-given : goal.invariant-loop-given
invariant-loop-given l = (given_over (drop l.given-index l.givens) l.cycle l.value ≡ given_over l.givens l.cycle 0) × (l.value < 2 ^ l.width)
