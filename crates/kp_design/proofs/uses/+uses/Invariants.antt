use Rattle.std.{proofs.Common.◌≡◌, proofs.Common.drop, proofs.Common.map, specs.List.list_any}
use Rattle.kp_stage.specs.Uses.{uses}
use Rattle.kp_design.proofs.uses.+uses.Given as goal

abbrev pub invariant-in_exprs-loop-e : goal.invariant-in_exprs-loop-e
invariant-in_exprs-loop-e l = list_any (λ x. x) (map (uses l.name) (drop l.e-index l.es)) ≡ list_any (λ x. x) (map (uses l.name) l.es)
