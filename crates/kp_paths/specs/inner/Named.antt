-- The target of a result that is named.
use Rattle.std.specs.{Prelude.ℕ, Prelude.List, Prelude.[], Prelude.◌∷◌, Prelude.Option, Prelude.Some, Prelude.None, Prelude.Bool, Option.option_map}
use Rattle.kp_ast.specs.declared.tree.{Decl.Decl, ResultDecl.ResultDecl}
use Rattle.kp_paths.specs.declared.sets.Placed.{Placed}
use Rattle.kp_machine.specs.Slots.{number_of, result_named, targets_of}

-- the number of its target, for the first result of the name among these declarations
abbrev pub number_named : List Decl → List Decl → List ℕ → Option ℕ
number_named all ds name = option_map (λ (r : ResultDecl). number_of (targets_of all) r.target.name) (result_named ds name)

-- the set of a result with this target, if there is one
abbrev pub placed_at : ℕ → Bool → Option ℕ → List Placed
placed_at k sure None = []
placed_at k sure (Some t) = record { stage = k; target = t; sure = sure } ∷ []
