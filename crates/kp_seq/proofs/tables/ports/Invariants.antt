use Rattle.std.proofs.Common.{◌≡◌, ◌-◌, ◌++◌, length}
use Rattle.kp_seq.specs.inner.Tables.{ports_from}
use Rattle.kp_seq.proofs.tables.ports.Given as goal

abbrev pub invariant-loop-t : goal.invariant-loop-t
invariant-loop-t l =
    l.ports.items ++ ports_from l.decls l.targets l.pipes l.t (length l.targets - l.t) ≡ ports_from l.decls l.targets l.pipes 0 (length l.targets)
