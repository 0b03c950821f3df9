-- Lists of names that have the same names, in some order.
use Rattle.std.specs.Prelude.{ℕ, ◌≡◌, ◌||◌, List, [], ◌∷◌}
use Rattle.kp_net.specs.Names.{same, among}
use Rattle.kp_vlog.specs.{Occurrences.Occurrence, Rules.Driven, Rules.drives}

pub record Alike (xs ys : List (List ℕ)) : Type 0 where
  pub same_names : (n : List ℕ) → among xs n ≡ among ys n

-- the names of the second list are those of the first, and this one
pub record Adds (xs ys : List (List ℕ)) (name : List ℕ) : Type 0 where
  pub names : (n : List ℕ) → among ys n ≡ (same n name || among xs n)

-- names that are driven, each in some order
pub record AlikeDriven (d e : Driven) : Type 0 where
  pub given : Alike d.given e.given
  pub started : Alike d.started e.started
  pub filled : Alike d.filled e.filled
  pub reset : Alike d.reset e.reset
  pub updated : Alike d.updated e.updated
  pub written : Alike d.written e.written

-- what these names drive, together with what is driven after them
abbrev pub all_by : List Occurrence → Driven → Driven
all_by [] d = d
all_by (o ∷ os) d = drives (all_by os d) o.role o.named.name
