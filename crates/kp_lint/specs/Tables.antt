-- What is noted of each name.
use Rattle.std.specs.Prelude.{ℕ, List, Option, Some, if◌then◌else◌, is_some, nat_eq}
use Rattle.std.specs.{Cmp.Lexicographic.pointwise, Map.lookup}

-- what a table has for a name
abbrev pub value_of : {V : Type 0} → List (List ℕ × V) → List ℕ → Option V
value_of table name = lookup (pointwise nat_eq name) table

-- what each name has after a value is noted in the place of an earlier one
abbrev pub with_value : {V : Type 0} → (List ℕ → Option V) → List ℕ → V → List ℕ → Option V
with_value values name value other = if pointwise nat_eq name other then Some value else values other

-- what each name has after a value is noted unless there is one
abbrev pub with_first : {V : Type 0} → (List ℕ → Option V) → List ℕ → V → List ℕ → Option V
with_first values name value = if is_some (values name) then values else with_value values name value
