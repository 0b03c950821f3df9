use Rattle.std.specs.List.{AllByRecursion}
use Rattle.std.proofs.Common.{◌≡◌, ℕ, suc, ◌+◌, ◌<◌, ◌≤◌, true, false}
use Rattle.kp_pipeline.specs.{Machine.Machine, Sequential.PendingGuess, Sequential.instruction_before, Sequential.seq}
use Rattle.kp_pipeline.specs.{Pipeline.Inputs, Pipeline.PipelineState, Pipeline.stage_zero, Pipeline.ue, Rows.one_if, Claims.StandsBefore}
use Rattle.kp_pipeline.proofs.Agreement.{IsRight}

-- every pending guess of stage j is right
abbrev pub RightAt : Machine → (ℕ → ℕ → ℕ) → (ℕ → ℕ → ℕ) → PipelineState → (ℕ → ℕ) → ℕ → Type 0
RightAt m s given st count j = (st.stage j).full ≡ true → AllByRecursion (IsRight (seq m s given (count j))) (st.stage j).pending

-- a pending guess of stage k equals its register's own value, if no stage between is full
abbrev pub IsNear : Machine → PipelineState → ℕ → PendingGuess → Type 0
IsNear m st k p = ((j : ℕ) → k < j → j ≤ m.write_stage p.register → (st.stage j).full ≡ false) → p.value ≡ st.visible p.register 0

-- an invariant of the positions of instructions and guesses, with no sequential value in it. `count k` is the number
-- of the instruction in stage k, or of the next to come there
pub record Shape (m : Machine) (st : PipelineState) (count : ℕ → ℕ) : Type 0 where
  -- (a) a stage has the next number after the one above it, if that is full, else the same
  pub chain : (k : ℕ) → suc k < m.stages → count k ≡ count (suc k) + one_if (st.stage (suc k)).full
  -- (c) with nothing full up to the write stage, a pending guess is the register's own value
  pub near : (k : ℕ) → k < m.stages → (st.stage k).full ≡ true → AllByRecursion (IsNear m st k) (st.stage k).pending
  -- (d) a pending guess is before the write stage
  pub between : (k : ℕ) → k < m.stages → AllByRecursion (StandsBefore m k) (st.stage k).pending
  -- stage 0 is as at the start
  pub first : st.stage 0 ≡ stage_zero

-- and of the values. `updates k` is the number of updates of stage k
pub record Inv (m : Machine) (s given : ℕ → ℕ → ℕ) (st : PipelineState) (count updates : ℕ → ℕ) : Type 0 where
  pub shape : Shape m st count
  pub open shape use *
  -- (b) with all guesses from stage k up right, what stage k holds is its instruction of the sequential machine, pipes and
  -- results
  pub held : (k : ℕ) → k < m.stages → (st.stage k).full ≡ true → ((j : ℕ) → k ≤ j → j < m.stages → RightAt m s given st count j)
      → (st.stage k).instruction ≡ instruction_before m s given (count k) k
  -- (e) the visible values are those of the sequential machine, each at the count of its write stage
  pub visible : (t a : ℕ) → m.has_result t ≡ true → st.visible t a ≡ seq m s given (count (m.write_stage t)) t a
  pub fixed : (t a : ℕ) → m.has_result t ≡ false → st.visible t a ≡ s t a
  -- (f) from W - 1 up the count is the number of updates
  pub passes : (k : ℕ) → k < m.stages → m.last_guessed ≤ k + 1 → count k ≡ updates k

-- the rows that instructions take are those of the cycles in which they leave
abbrev pub Met : Machine → (ℕ → ℕ → ℕ) → PipelineState → Inputs → (ℕ → ℕ) → Type 0
Met m given st i count = (x : ℕ) → m.sample_stage x < m.stages → ue m st i (m.sample_stage x) ≡ true → given (count (m.sample_stage x)) x ≡ i.samples x
