-- PIPES THAT NO STAGE USES after some stage.
use Rattle.std.specs.Prelude.{◌≡◌, ℕ, suc, ◌≤◌, Bool, true, cond}
use Rattle.kp_pipeline.specs.{Machine.Machine, Pipeline.StageState, Pipeline.PipelineState}

-- The pipes of stage k, with 0 for each that isn't alive there.
abbrev pub trim : (ℕ → ℕ → Bool) → ℕ → (ℕ → ℕ) → ℕ → ℕ
trim alive k p x = cond (alive x k) (p x) 0

abbrev pub trimmed_stage : (ℕ → ℕ → Bool) → ℕ → StageState → StageState
trimmed_stage alive k s = record {
  full = s.full;
  instruction = record { pipes = trim alive k s.instruction.pipes; results = s.instruction.results };
  pending = s.pending;
}

abbrev pub trimmed : (ℕ → ℕ → Bool) → PipelineState → PipelineState
trimmed alive st = record { visible = st.visible; hints = st.hints; stage = λ k. trimmed_stage alive k (st.stage k) }

-- A pipe is alive from the first stage to the last that uses it: no other pipe affects what a stage does, nor, up to
-- its write stage, whether and where a result writes.
pub record Alive (m : Machine) (alive : ℕ → ℕ → Bool) : Type 0 where
  pub earlier : (x k : ℕ) → alive x (suc k) ≡ true → alive x k ≡ true
  pub body : (k : ℕ) (q p : ℕ → ℕ) → m.body k q (trim alive k p) ≡ m.body k q p
  pub enabled : (t k : ℕ) (p : ℕ → ℕ) → m.has_result t ≡ true → k ≤ m.write_stage t → m.enabled t (trim alive k p) ≡ m.enabled t p
  pub address : (t k : ℕ) (p : ℕ → ℕ) → m.has_result t ≡ true → k ≤ m.write_stage t → m.address t (trim alive k p) ≡ m.address t p
