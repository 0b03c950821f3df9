use Rattle.std.proofs.Common.{◌≡◌, ◌≤◌, ℕ, List, length, drop}
use Rattle.kp_vlog.specs.Occurrences.{start_in}
use Rattle.kp_vread_rules.specs.Tables.{found}
use Rattle.kp_vread_rules.proofs.starts.Starts.new.Given as goal

abbrev pub invariant-inits : goal.invariant-inits
invariant-inits l = (l.left ≤ length l.fn.inits) × ((n : List ℕ) → found l.starts n ≡ start_in (drop l.left l.fn.inits) n)

abbrev pub decreases-inits : goal.decreases-inits
decreases-inits l = l.left
