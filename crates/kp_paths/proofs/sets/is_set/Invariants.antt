use Rattle.std.{proofs.Common.◌≡◌, proofs.Common.drop, specs.List.list_any}
use Rattle.kp_paths.specs.Table.{is_set_by}
use Rattle.kp_paths.proofs.sets.is_set.Given as goal

abbrev pub invariant-loop-set : goal.invariant-loop-set
invariant-loop-set l = list_any (is_set_by l.target l.j) (drop l.set-index l.sets) ≡ list_any (is_set_by l.target l.j) l.sets
