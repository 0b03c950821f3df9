-- Names by their numbers, as a table has them.
use Rattle.std.specs.{Prelude.ℕ, Prelude.◌≡◌, Prelude.List, Prelude.length, Prelude.Option, Prelude.Some, Prelude.None, Option.is_some, Map.lookup}
use Rattle.kp_net.specs.Names.{same, among}
use Rattle.kp_vlog.specs.Scope.{place_of}

-- the numbers of names, and how many names have been added
pub record Numbered : Type 0 where
  pub entries : List (List ℕ × ℕ)
  pub count : ℕ

abbrev pub number_or : ℕ → Option ℕ → ℕ
number_or n None = n
number_or n (Some k) = k

-- the number of a name; for another name, how many have been added
abbrev pub place_by : Numbered → List ℕ → ℕ
place_by t n = number_or t.count (lookup (same n) t.entries)

-- the table numbers these names, each by its first index
pub record AreNumbered (t : Numbered) (ks : List (List ℕ)) : Type 0 where
  pub count : t.count ≡ length ks
  pub known : (n : List ℕ) → is_some (lookup (same n) t.entries) ≡ among ks n
  pub places : (n : List ℕ) → place_by t n ≡ place_of ks n
