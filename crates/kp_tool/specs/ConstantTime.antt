-- WHAT AN INSTRUCTION'S TIME DEPENDS ON, in a machine without guesses and samples: not on values, but for what they decide here.
use Rattle.std.specs.Prelude.{◌≡◌, ℕ, ◌<◌, List, [], ◌∷◌}
use Rattle.kp_pipeline.specs.Machine.{Machine, State, Tree, Done, Ask, Guess}
use Rattle.kp_pipeline.specs.Sequential.{instruction_before, is_written, seq}
use Rattle.kp_pipeline.specs.Timeline.{no_samples, setting_stage}

-- the targets and addresses that a stage reads, one read after another: an omitted read isn't among them
abbrev pub reads_of : State → Tree → List (ℕ × ℕ)
reads_of s (Done puts sets aims) = []
reads_of s (Ask t a rest) = (t, a) ∷ reads_of s (rest (s t a))
reads_of s (Guess t guess rest) = reads_of s (rest (s t 0))

-- those of instruction i in stage k, in the run of the sequential machine from s
abbrev pub reads_in : Machine → State → ℕ → ℕ → List (ℕ × ℕ)
reads_in m s i k = reads_of (seq m s no_samples i) (m.body k (λ x. 0) (instruction_before m s no_samples i k).pipes)

-- Instruction i has the same record in the runs from s and from z: in each stage the reads (by their conditions) with their addresses, which results are
-- written, and where, and the stage that sets each result.
pub record HasSameRecord (m : Machine) (s z : State) (i : ℕ) : Type 0 where
  pub reads : (k : ℕ) → k < m.stages → reads_in m s i k ≡ reads_in m z i k
  pub writes : (t a : ℕ) → is_written m (instruction_before m s no_samples i m.stages) t a ≡ is_written m (instruction_before m z no_samples i m.stages) t a
  pub sets : (t : ℕ) → setting_stage m (seq m s no_samples i) t ≡ setting_stage m (seq m z no_samples i) t
