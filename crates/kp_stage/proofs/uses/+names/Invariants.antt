use Rattle.std.proofs.Common.{◌≡◌, drop, map}
use Rattle.kp_base.specs.First.{first}
use Rattle.kp_stage.specs.{Rules.ask_expr, inner.Tables.facts_in}
use Rattle.kp_stage.proofs.uses.+names.Given as goal

abbrev pub invariant-in_exprs-loop-e : goal.invariant-in_exprs-loop-e
invariant-in_exprs-loop-e l = first (map (ask_expr (facts_in l.facts) l.rule l.k) (drop l.e-index l.es)) ≡ first (map (ask_expr (facts_in l.facts) l.rule l.k) l.es)
