use Rattle.std.proofs.Common.{◌≡◌}
use Rattle.kp_sites.specs.Sites.{writers_to}
use Rattle.kp_sites.proofs.sites.writers_by.Given as goal

abbrev pub invariant-loop-t : goal.invariant-loop-t
invariant-loop-t l = l.writers.items ≡ writers_to l.layout l.t
