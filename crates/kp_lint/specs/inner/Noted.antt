-- A table of names, and the facts that are looked up in tables.
use Rattle.std.specs.Prelude.{ℕ, List, [], ◌∷◌, Option, Bool, true, is_some}
use Rattle.kp_lint.specs.{Lints.Facts, Tables.value_of, Tables.with_first, Used.Names}
use Rattle.kp_lint.specs.declared.facts.Facts as stored

-- what each name has after these are noted
abbrev pub noted : (List ℕ → Option Bool) → Names → List ℕ → Option Bool
noted values [] = values
noted values (name ∷ names) = noted (with_first values name true) names

-- whether a table has a name
abbrev pub has : List (List ℕ × Bool) → List ℕ → Bool
has table name = is_some (value_of table name)

abbrev pub facts_in : stored.Facts → Facts
facts_in t = record { used = has t.used.entries; first = value_of t.pipes.entries }
