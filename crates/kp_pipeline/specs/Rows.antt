use Rattle.std.specs.Prelude.{ℕ, zero, suc, ◌+◌, ◌-◌, min, Bool, true, false, cond, ◌&&◌, eqb, leb, List, [], ◌∷◌}
use Rattle.kp_pipeline.specs.{Machine.Machine, Pipeline.PipelineState, Pipeline.Inputs, Pipeline.back, Pipeline.ue, Pipeline.cycle, Pipeline.pipeline_start}
use Rattle.kp_pipeline.specs.Machine.{State, Samples}

-- THE OUTPUTS OF A RUN: a row for each cycle, and the counts that are computed from rows alone.

-- the n bits of a test at the numbers from k on
abbrev pub bits : (ℕ → Bool) → ℕ → ℕ → List Bool
bits f zero k = []
bits f (suc n) k = f k ∷ bits f n (suc k)

-- bit k of a list of bits, false past its end
abbrev pub bit : List Bool → ℕ → Bool
bit [] k = false
bit (b ∷ bs) zero = b
bit (b ∷ bs) (suc k) = bit bs k

-- A row: the full bits and the update enables of the stages, stage 0 first, and `back`.
pub record Row : Type 0 where
  pub full : List Bool
  pub ue : List Bool
  pub back : ℕ

abbrev pub row : Machine → PipelineState → Inputs → Row
row m st inputs = record { full = bits (λ k. (st.stage k).full) m.stages 0; ue = bits (ue m st inputs) m.stages 0; back = back m st inputs }

-- The state after the first T cycles.
abbrev pub state_after : Machine → PipelineState → List Inputs → ℕ → PipelineState
state_after m st ins zero = st
state_after m st [] (suc T) = st
state_after m st (i ∷ ins) (suc T) = state_after m (cycle m st i) ins T

abbrev pub rows_from : Machine → PipelineState → List Inputs → List Row
rows_from m st [] = []
rows_from m st (i ∷ ins) = row m st i ∷ rows_from m (cycle m st i) ins

-- A trace: its rows, and the visible values after the first T cycles, by T, target and address.
pub record Trace : Type 0 where
  pub rows : List Row
  pub visible : (cycles : ℕ) → State

-- The run of the pipeline over a list of inputs, from the start state and hints.
abbrev pub pipe : Machine → State → (ℕ → ℕ) → List Inputs → Trace
pipe m s hints ins = record {
  rows = rows_from m (pipeline_start s hints) ins;
  visible = λ T. (state_after m (pipeline_start s hints) ins T).visible;
}

abbrev pub one_if : Bool → ℕ
one_if true = 1
one_if false = 0

-- How many of the first T rows update stage k.
abbrev pub passed : List Row → (stage cycles : ℕ) → ℕ
passed rows k zero = 0
passed [] k (suc T) = 0
passed (r ∷ rows) k (suc T) = one_if (bit r.ue k) + passed rows k T

-- THE SCHEDULING FUNCTION: the number of the instruction in each stage, or of the next to come there, computed from
-- rows. An instruction that enters stage 0 gets a new number; one that moves on keeps its number.
abbrev pub count_moved : (ℕ → ℕ) → ℕ → ℕ
count_moved count zero = suc (count 0)
count_moved count (suc k) = count k

-- The counts after a cycle of n stages. The stages below `back` return to the number of the stage that rolls back.
abbrev pub count_after : ℕ → Row → (ℕ → ℕ) → ℕ → ℕ
count_after n r count k =
    cond (leb (min r.back n) k) (cond (bit r.ue k) (count_moved count k) (count k)) (count (min r.back n - 1))

abbrev pub counts_from : ℕ → (ℕ → ℕ) → List Row → (cycles stage : ℕ) → ℕ
counts_from n count rows zero = count
counts_from n count [] (suc T) = count
counts_from n count (r ∷ rows) (suc T) = counts_from n (count_after n r count) rows T

-- The counts after the first T rows, by stage.
abbrev pub counts : ℕ → List Row → (cycles stage : ℕ) → ℕ
counts n rows T = counts_from n (λ k. 0) rows T

-- THE SAMPLE VALUES THAT INSTRUCTIONS TAKE: instruction i takes a sample's value in the cycle in which it leaves the
-- sample's stage, or 0 if there is no such cycle. `updates` counts the update enables of earlier cycles, by stage.
abbrev pub taken_from : Machine → (ℕ → ℕ) → List Inputs → List Row → Samples
taken_from m updates [] rows i x = 0
taken_from m updates (j ∷ ins) [] i x = 0
taken_from m updates (j ∷ ins) (r ∷ rows) i x =
    cond (bit r.ue (m.sample_stage x) && eqb (updates (m.sample_stage x)) i) (j.samples x)
    (taken_from m (λ k. one_if (bit r.ue k) + updates k) ins rows i x)

-- The value of sample x that instruction i takes in a run with these inputs and rows.
abbrev pub taken : Machine → List Inputs → List Row → Samples
taken m ins rows = taken_from m (λ k. 0) ins rows
