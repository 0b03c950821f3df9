use Rattle.kp_net.specs.inner.Lookup.{LacksBelow}
use Rattle.kp_pool.proofs.index.search.Given as goal

abbrev pub invariant-loop-i : goal.invariant-loop-i
invariant-loop-i l = LacksBelow l.nodes l.n l.i
