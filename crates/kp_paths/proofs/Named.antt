-- The set of a result that is named.
use Rattle.std.proofs.Common.{◌≡◌, ℕ, List, Option, Some, None, refl}
use Rattle.std.specs.{Prelude.is_none, Option.option_map}
use Rattle.kp_ast.specs.declared.tree.{Expr.Expr, Decl.Decl, ResultDecl.ResultDecl}
use Rattle.kp_machine.specs.Slots.{number_of, result_named, targets_of}
use Rattle.kp_paths.specs.{Table.placed, inner.Named.number_named, inner.Named.placed_at}

one_same : (ds : List Decl) (k : ℕ) (when : Option Expr) (o : Option ResultDecl)
    → placed_at k (is_none when) (option_map (λ (r : ResultDecl). number_of (targets_of ds) r.target.name) o) ≡ placed ds k when o
one_same ds k when None = refl
one_same ds k when (Some r) = refl

pub placed_same : (ds : List Decl) (k : ℕ) (when : Option Expr) (name : List ℕ)
    → placed_at k (is_none when) (number_named ds ds name) ≡ placed ds k when (result_named ds name)
placed_same ds k when name = one_same ds k when (result_named ds name)
