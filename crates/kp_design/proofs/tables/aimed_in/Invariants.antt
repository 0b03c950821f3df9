use Rattle.std.proofs.Common.{◌≡◌, drop}
use Rattle.kp_design.specs.inner.Tables.{aimed_in}
use Rattle.kp_design.proofs.tables.aimed_in.Given as goal

abbrev pub invariant-loop-k : goal.invariant-loop-k
invariant-loop-k l = aimed_in l.name l.k (drop l.k l.blocks) ≡ aimed_in l.name 0 l.blocks
