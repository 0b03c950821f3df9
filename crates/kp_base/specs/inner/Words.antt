-- A token that is found.
use Rattle.std.specs.Prelude.{ℕ, nat_lt, if◌then◌else◌, List, [], ◌∷◌}
use Rattle.kp_base.specs.declared.run.Run.{Run}

-- the token from one offset to another, unless it is empty
abbrev pub word_between : ℕ → ℕ → List Run
word_between at end = if nat_lt at end then record { at = at; end = end } ∷ [] else []
