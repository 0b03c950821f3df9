-- The words of the first n cycles.
use Rattle.std.specs.Prelude.{ℕ, zero, suc, List, [], ◌∷◌, ◌++◌}

abbrev pub words_to : (ℕ → ℕ) → ℕ → List ℕ
words_to word zero = []
words_to word (suc n) = words_to word n ++ word n ∷ []
