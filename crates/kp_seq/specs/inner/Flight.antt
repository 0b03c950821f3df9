-- The results of an instruction in flight, as words and marks.
use Rattle.std.specs.Prelude.{ℕ, List, [], ◌∷◌, Option, Bool}
use Rattle.kp_seq.specs.Recorded.{where_true}

-- the results: these words, where they are set
abbrev pub where_set : List Bool → List ℕ → List (Option ℕ)
where_set [] ws = []
where_set (b ∷ bs) [] = where_true b 0 ∷ where_set bs []
where_set (b ∷ bs) (w ∷ ws) = where_true b w ∷ where_set bs ws
