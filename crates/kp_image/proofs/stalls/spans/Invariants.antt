use Rattle.std.proofs.Common.{◌≡◌, ◌++◌, drop, map}
use Rattle.kp_image.specs.inner.Kept.{span_of}
use Rattle.kp_image.proofs.stalls.spans.Given as goal

abbrev pub invariant-loop-e : goal.invariant-loop-e
invariant-loop-e l = l.spans.items ++ map span_of (drop l.e-index l.entries) ≡ map span_of l.entries
