use Rattle.std.specs.Prelude.{ℕ, zero, suc, ◌-◌, Bool, true, false, cond, not, ◌&&◌, ◌||◌, eqb, leb, List, [], ◌∷◌, ◌++◌, Option, Some, None, unwrap_or}
use Rattle.std.specs.List.{filter}
use Rattle.kp_pipeline.specs.Machine.{Machine, State}
use Rattle.kp_pipeline.specs.Sequential.{Instruction, PendingGuess, StageOutcome, run, after_stage, fresh_instruction, is_written, intends}

-- THE PIPELINED MACHINE: its state, and one cycle.

-- The contents of a stage: its full bit, the instruction, and the pending guesses. A result's valid bit is 1 if the
-- instruction has a value for it, and a guess's pending bit is 1 if the guess is in the list.
pub record StageState : Type 0 where
  pub full : Bool
  pub instruction : Instruction
  pub pending : List PendingGuess

pub record PipelineState : Type 0 where
  -- the visible registers and files: by target and address
  pub visible : State
  pub hints : ℕ → ℕ
  pub stage : ℕ → StageState

-- The external inputs of a cycle: the stall word (bit k stalls stage k) and a value for each sample.
pub record Inputs : Type 0 where
  pub ext : ℕ → Bool
  pub samples : ℕ → ℕ

-- What a stage sees of the stages above it: the truth of each read, if it is available, and whether the next stage stalls.
pub record FromAbove : Type 0 where
  pub truth : ℕ → ℕ → Option ℕ
  pub stall : Bool

-- FORWARDING (BYPASS). Stage k is a candidate for a read of target t in a stage below it: it isn't past the write stage.
abbrev pub is_candidate : Machine → ℕ → ℕ → Bool
is_candidate m k t = m.has_result t && leb k (m.write_stage t)

-- The intent of the result of t is known in stage k.
abbrev pub intent_known : Machine → ℕ → ℕ → Bool
intent_known m k t = leb (m.known_from t) k

-- It hits at address a if it is full, and its intent isn't known yet, or is to write there.
abbrev pub hits : Machine → PipelineState → (stage target address : ℕ) → Bool
hits m st k t a =
    (st.stage k).full && (not (intent_known m k t) || intends m (st.stage k).instruction t a)

abbrev pub candidate_hits : Machine → PipelineState → (stage target address : ℕ) → Bool
candidate_hits m st k t a = is_candidate m k t && hits m st k t a

-- The value that a hit forwards, if it is available. A stored valid result is always forwarded; a fresh one, set in
-- this cycle, only if the stage isn't stalled; and so is the 0 of a result that isn't set by its write stage.
--   intent known → stored result → stalled → set now → in the write stage
abbrev pub ok_value : Bool → Option ℕ → Bool → Option ℕ → Bool → Option ℕ
ok_value false stored stalled fresh last = None
ok_value true (Some v) stalled fresh last = Some v
ok_value true None true fresh last = None
ok_value true None false (Some v) last = Some v
ok_value true None false None true = Some 0
ok_value true None false None false = None

-- What stage k does and whether it stalls, given what it sees of the stages above.
abbrev pub outcome_given : Machine → PipelineState → Inputs → ℕ → FromAbove → StageOutcome
outcome_given m st inputs k up = run up.truth st.hints (m.body k inputs.samples (st.stage k).instruction.pipes)

abbrev pub stall_given : Machine → PipelineState → Inputs → ℕ → FromAbove → Bool
stall_given m st inputs k up = (st.stage k).full && ((outcome_given m st inputs k up).hazard || (inputs.ext k || up.stall))

-- What stage k passes down to the stages below it: its own value if it hits, else what it sees itself. So a read
-- takes the nearest hit.
abbrev pub pass_down : Machine → PipelineState → Inputs → ℕ → FromAbove → FromAbove
pass_down m st inputs k up = record {
  truth = λ t a.
      cond (candidate_hits m st k t a)
      (ok_value (intent_known m k t) ((st.stage k).instruction.results t) (stall_given m st inputs k up)
      ((outcome_given m st inputs k up).sets t) (eqb k (m.write_stage t)))
      (up.truth t a);
  stall = stall_given m st inputs k up;
}

-- What the d stages from k on pass down. Above the last stage there is the visible state, and no stall.
unfoldable pub from_stages : Machine → PipelineState → Inputs → ℕ → ℕ → FromAbove
from_stages m st inputs zero k = record { truth = λ t a. Some (st.visible t a); stall = false }
from_stages m st inputs (suc d) k = pass_down m st inputs k (from_stages m st inputs d (suc k))

-- What stage k sees: `(above ..).truth t a` is the truth of a read of t at a in stage k.
unfoldable pub above : Machine → PipelineState → Inputs → ℕ → FromAbove
above m st inputs k = from_stages m st inputs (m.stages - suc k) (suc k)

-- THE STALL ENGINE. What stage k does in this cycle.
unfoldable pub outcome : Machine → PipelineState → Inputs → ℕ → StageOutcome
outcome m st inputs k = outcome_given m st inputs k (above m st inputs k)

-- Stage k stalls if it is full and has a data hazard, is stalled by the environment, or the next stage stalls.
unfoldable pub stall : Machine → PipelineState → Inputs → ℕ → Bool
stall m st inputs k = stall_given m st inputs k (above m st inputs k)

-- The value that stage k forwards for target t if it is the nearest hit.
abbrev pub forwarded : Machine → PipelineState → Inputs → ℕ → ℕ → Option ℕ
forwarded m st inputs k t =
    ok_value (intent_known m k t) ((st.stage k).instruction.results t) (stall m st inputs k)
    ((outcome m st inputs k).sets t) (eqb k (m.write_stage t))

-- ROLLBACK. A pending guess is compared with its truth, if it is available. (It was made in an earlier stage, and has
-- not yet reached the write stage of its register: a law says so.)
abbrev pub differs : Option ℕ → ℕ → Bool
differs None v = false
differs (Some u) v = not (eqb u v)

abbrev pub some_differs : (ℕ → ℕ → Option ℕ) → List PendingGuess → Bool
some_differs truth [] = false
some_differs truth (p ∷ ps) = differs (truth p.register 0) p.value || some_differs truth ps

abbrev pub mismatches : Machine → PipelineState → Inputs → ℕ → Bool
mismatches m st inputs k = (st.stage k).full && some_differs (above m st inputs k).truth (st.stage k).pending

-- One more than the greatest number below n that passes, or 0.
abbrev pub greatest : (ℕ → Bool) → ℕ → ℕ
greatest p zero = 0
greatest p (suc k) = cond (p k) (suc k) (greatest p k)

-- One more than the greatest stage that mismatches, or 0: the stages below `back` are squashed.
unfoldable pub back : Machine → PipelineState → Inputs → ℕ
back m st inputs = greatest (mismatches m st inputs) m.stages

-- The update enable of stage k: it is full, it doesn't stall, and no stage from k on mismatches.
unfoldable pub ue : Machine → PipelineState → Inputs → ℕ → Bool
ue m st inputs k = (st.stage k).full && (not (stall m st inputs k) && leb (back m st inputs) k)

-- Stage 0 is always full, with a fresh instruction.
abbrev pub stage_zero : StageState
stage_zero = record { full = true; instruction = fresh_instruction; pending = [] }

abbrev pub empty_stage : StageState
empty_stage = record { full = false; instruction = fresh_instruction; pending = [] }

-- Stage k+1 after the cycle. It is full if it isn't squashed and either stage k moves into it or it stalls. Under the
-- update enable of stage k it latches what that stage computed; a guess isn't carried into its register's write
-- stage.
unfoldable pub next_stage : Machine → PipelineState → Inputs → ℕ → StageState
next_stage m st inputs zero = stage_zero
next_stage m st inputs (suc k) = record {
  full = leb (back m st inputs) (suc k) && (ue m st inputs k || stall m st inputs (suc k));
  instruction =
      cond (ue m st inputs k) (after_stage (st.stage k).instruction (outcome m st inputs k)) (st.stage (suc k)).instruction;
  pending =
      cond (ue m st inputs k)
      (filter (λ p. not (eqb (m.write_stage p.register) (suc k))) ((outcome m st inputs k).guesses ++ (st.stage k).pending))
      (st.stage (suc k)).pending;
}

-- A target latches its result under the update enable of its write stage: the stored one, else the one set now, else 0.
unfoldable pub next_visible : Machine → PipelineState → Inputs → State
next_visible m st inputs t a =
    cond (ue m st inputs (m.write_stage t) && is_written m (st.stage (m.write_stage t)).instruction t a)
    (unwrap_or ((after_stage (st.stage (m.write_stage t)).instruction (outcome m st inputs (m.write_stage t))).results t) 0)
    (st.visible t a)

-- A hint latches the value aimed at it under the update enable of the stage that aims it.
unfoldable pub next_hints : Machine → PipelineState → Inputs → ℕ → ℕ
next_hints m st inputs h =
    cond (ue m st inputs (m.hint_stage h)) (unwrap_or ((outcome m st inputs (m.hint_stage h)).aims h) (st.hints h)) (st.hints h)

-- ONE CYCLE.
abbrev pub cycle : Machine → PipelineState → Inputs → PipelineState
cycle m st inputs = record { visible = next_visible m st inputs; hints = next_hints m st inputs; stage = next_stage m st inputs }

abbrev pub start_stage : ℕ → StageState
start_stage zero = stage_zero
start_stage (suc k) = empty_stage

-- The pipeline at cycle 0: the visible state and the hints have their start values, and only stage 0 is full.
abbrev pub pipeline_start : State → (ℕ → ℕ) → PipelineState
pipeline_start s hints = record { visible = s; hints = hints; stage = start_stage }
