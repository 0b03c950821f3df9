-- Names, and their indices.
use Rattle.std.specs.Prelude.{ℕ, List, [], ◌∷◌, Option, Some, None, get_or, nat_eq}
use Rattle.std.specs.{List.position, Cmp.Lexicographic.pointwise}
use Rattle.indexmap.specs.IndexSet.{insert_key}
use Rattle.kp_bits.specs.Word.{Word}
use Rattle.kp_ast.specs.{Expressions.is_same_name, declared.widths.Entry.Entry}
use Rattle.kp_seq_plan.specs.declared.resolve.Scope.{Scope}
use Rattle.kp_seq_plan.specs.declared.resolve.Scope.TheVariants as scopes

-- the names of these entries, after known names, each once
abbrev pub keys_of : List (List ℕ) → List Entry → List (List ℕ)
keys_of keys [] = keys
keys_of keys (e ∷ es) = keys_of (insert_key (pointwise nat_eq) keys e.name) es

-- the index of a name in a stage, and in a function that of the parameter
abbrev pub place_of : Scope → List ℕ → Option ℕ
place_of (scopes.Stage keys) name = position (is_same_name name) keys.now
place_of (scopes.Call params) name = position (λ p. is_same_name name p.name.name) params.now

-- the value under an index
abbrev pub at_place : List (Option Word) → Option ℕ → Option Word
at_place values None = None
at_place values (Some i) = get_or values i None
