-- The inputs of the first cycles, as lists.
use Rattle.std.specs.Prelude.{ℕ, zero, suc, List, [], ◌∷◌, ◌++◌}
use Rattle.kp_bits.specs.Word.{Word}

-- the stall words of the first n cycles
abbrev pub words_to : (ℕ → ℕ) → ℕ → List ℕ
words_to word zero = []
words_to word (suc n) = words_to word n ++ word n ∷ []

-- the input vectors of the first n cycles, in one list
abbrev pub rows_to : (ℕ → List Word) → ℕ → List Word
rows_to row zero = []
rows_to row (suc n) = rows_to row n ++ row n
