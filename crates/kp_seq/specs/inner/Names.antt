-- Names that have values, by their indices in a list of names.
use Rattle.std.specs.Prelude.{◌≡◌, ◌<◌, ◌+◌, ℕ, List, Option, Some, None, length, get_or, set}
use Rattle.std.specs.List.{position}
use Rattle.kp_bits.specs.Word.{Word}
use Rattle.kp_ast.specs.Expressions.{is_same_name}
use Rattle.kp_seq_plan.specs.Names.{at_place}

-- indices in sequence, from this one on
abbrev pub IsRun : ℕ → List (Option ℕ) → Type 0
IsRun f ps = (i : ℕ) → i < length ps → get_or ps i None ≡ Some (f + i)

-- the value of a name, if it has one
abbrev pub held : List (List ℕ) → List (Option Word) → List ℕ → Option Word
held keys values name = at_place values (position (is_same_name name) keys)

abbrev pub set_place : List (Option Word) → Option ℕ → Word → List (Option Word)
set_place values None w = values
set_place values (Some i) w = set values i (Some w)

-- the values after a name is bound to this value
abbrev pub bound : List (List ℕ) → List (Option Word) → List ℕ → Word → List (Option Word)
bound keys values name w = set_place values (position (is_same_name name) keys) w
