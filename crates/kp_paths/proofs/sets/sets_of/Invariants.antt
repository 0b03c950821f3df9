use Rattle.std.proofs.Common.{◌≡◌, ◌++◌, drop}
use Rattle.kp_paths.specs.Table.{sets_from}
use Rattle.kp_paths.proofs.sets.sets_of.Given as goal

abbrev pub invariant-loop-k : goal.invariant-loop-k
invariant-loop-k l = l.sets.items ++ sets_from l.decls l.k (drop l.k l.blocks) ≡ sets_from l.decls 0 l.blocks
