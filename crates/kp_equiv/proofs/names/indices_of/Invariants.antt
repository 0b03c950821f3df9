use Rattle.std.proofs.Common.{◌≤◌, drop, length, map}
use Rattle.kp_equiv.specs.inner.Indexed.{HasIndices}
use Rattle.kp_equiv.proofs.names.indices_of.Given as goal

abbrev pub invariant-names : goal.invariant-names
invariant-names l = (l.left ≤ length l.fn.names) × HasIndices l.indices.entries l.left (map (λ n. n.now) (drop l.left l.fn.names))

abbrev pub decreases-names : goal.decreases-names
decreases-names l = l.left
