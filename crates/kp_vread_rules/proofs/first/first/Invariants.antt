use Rattle.std.proofs.Common.{◌≡◌, drop, map}
use Rattle.kp_vread_rules.specs.{Firsts.first_that, inner.Asking.does, inner.Listed.occurrence_of}
use Rattle.kp_vread_rules.proofs.first.first.Given as goal

abbrev pub invariant-loop-occurrence : goal.invariant-loop-occurrence
invariant-loop-occurrence l =
    first_that (does l.sought) l.name (map occurrence_of (drop l.occurrence-index l.names)) ≡ first_that (does l.sought) l.name (map occurrence_of l.names)
