use Rattle.std.{proofs.Common.◌≡◌, proofs.Common.drop, proofs.Common.map, specs.List.flat_map}
use Rattle.kp_ast.specs.Expressions.{names_in}
use Rattle.kp_lint.specs.Tables.{value_of}
use Rattle.kp_lint.specs.inner.Noted.{noted}
use Rattle.kp_lint.proofs.used.+uses.Given as goal

abbrev pub invariant-add_exprs-loop-e : goal.invariant-add_exprs-loop-e
invariant-add_exprs-loop-e l =
    noted (value_of l.used.entries) (flat_map (λ names. names) (map names_in (drop l.e-index l.es))) ≡ noted (value_of l.initial.used.entries) (flat_map (λ names. names) (map names_in l.es))
