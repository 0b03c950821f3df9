-- A table of the indices of names.
use Rattle.std.specs.{Prelude.ℕ, Prelude.◌≡◌, Prelude.List, List.position, Map.lookup}
use Rattle.kp_ast.specs.Expressions.{is_same_name}

-- the table has for each name its index in the list
abbrev pub HasPlaces : List (List ℕ × ℕ) → List (List ℕ) → Type 0
HasPlaces entries names = (name : List ℕ) → lookup (is_same_name name) entries ≡ position (is_same_name name) names
