-- Values that overwrite words.
use Rattle.std.specs.Prelude.{ℕ, ◌-◌, List, if◌then◌else◌, nat_le, option_map, unwrap_or, slice_get, None}
use Rattle.kp_ast.specs.declared.tree.Lit.{Lit}

-- the value of a word after these values are written to the words from an address on, given the value before
abbrev pub laid_from : List Lit → (first address before : ℕ) → ℕ
laid_from values first x v = unwrap_or (if nat_le first x then option_map (λ l. l.literal.value) (slice_get values (x - first)) else None) v
