-- The names of a reset list, by the start value of each register.
use Rattle.std.specs.Prelude.{ℕ, List, [], ◌∷◌, Option}
use Rattle.kp_bits.specs.declared.literal.Literal.{Literal}
use Rattle.kp_vlog.specs.declared.tree.ResetValue.{ResetValue}
use Rattle.kp_vlog.specs.Occurrences.{Occurrence, occurs, resets_reg, needs, is_literal}

abbrev pub values_by : (List ℕ → Option Literal) → List ResetValue → List Occurrence
values_by start [] = []
values_by start (x ∷ xs) = occurs resets_reg x.name ∷ occurs (needs (is_literal (start x.name.name) x.value.literal)) x.name ∷ values_by start xs
