-- The input pattern as it is stored: for each sample its width, and each entry of the inputs section for it as a
-- value with its cycles.
use Rattle.std.specs.{Prelude.ℕ, Prelude.◌^◌, Prelude.◌<◌, Prelude.◌≤◌, Prelude.List, Prelude.[], Prelude.◌∷◌, Prelude.if◌then◌else◌, Prelude.map, List.All}
use Rattle.kp_bits.specs.Word.{Word, word}
use Rattle.kp_image.specs.{declared.inputs.Given.Given, Cycles.is_in}

-- the value after these entries, given the one before: the last entry for the cycle counts
abbrev pub given_over : List Given → (cycle before : ℕ) → ℕ
given_over [] cycle v = v
given_over (g ∷ gs) cycle v = given_over gs cycle (if is_in g.cycles cycle then g.value else v)

-- the external values of a sample: words of one width
pub record Fed : Type 0 where
  pub width : ℕ
  pub givens : List Given

-- the value in a cycle
abbrev pub word_fed : Fed → ℕ → Word
word_fed f cycle = word f.width (given_over f.givens cycle 0)

-- the input vector of a cycle
abbrev pub row_in : List Fed → ℕ → List Word
row_in feeds cycle = map (λ f. word_fed f cycle) feeds

-- its value fits the width, and its step isn't 0
abbrev pub FitsFeed : ℕ → Given → Type 0
FitsFeed width g = (g.value < 2 ^ width) × (0 < g.cycles.step)

abbrev pub IsFed : Fed → Type 0
IsFed f = (1 ≤ f.width) × (f.width ≤ 64) × All (FitsFeed f.width) f.givens
