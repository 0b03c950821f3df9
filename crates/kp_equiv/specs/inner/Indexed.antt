-- A table of names with their indices.
use Rattle.std.specs.Prelude.{ℕ, ◌+◌, ◌≡◌, List, [], ◌∷◌, Option, None, Some, cond}
use Rattle.std.specs.Map.{lookup}
use Rattle.kp_net.specs.Names.{same}

-- the first index of a name in a list, whose indices are counted from k
abbrev pub index_from : ℕ → List (List ℕ) → List ℕ → Option ℕ
index_from k [] q = None
index_from k (n ∷ ns) q = cond (same q n) (Some k) (index_from (k + 1) ns q)

-- the table has the first index of each name
pub record HasIndices (entries : List (List ℕ × ℕ)) (k : ℕ) (names : List (List ℕ)) : Type 0 where
  pub index : (q : List ℕ) → lookup (same q) entries ≡ index_from k names q
