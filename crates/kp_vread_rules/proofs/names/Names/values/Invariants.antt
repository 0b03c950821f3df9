use Rattle.std.proofs.Common.{◌≡◌, ◌++◌, drop}
use Rattle.kp_vread_rules.specs.{Tables.found, inner.Starting.values_by}
use Rattle.kp_vread_rules.proofs.names.Names.values.Given as goal

abbrev pub invariant-loop-value : goal.invariant-loop-value
invariant-loop-value l = l.self ++ values_by (found l.starts) (drop l.value-index l.values) ≡ l.initial.self ++ values_by (found l.starts) l.values
