use Rattle.std.specs.Prelude.{ℕ, zero, suc, ◌-◌, ◌<◌, Bool, true, false, cond, not, ◌&&◌, ◌||◌, eqb, ltb, List, [], ◌∷◌, Option, Some, None, is_some, unwrap_or}
use Rattle.kp_pipeline.specs.{Machine.Machine, Sequential.before_stage, Sequential.instruction_before, Sequential.is_written, Sequential.run, Sequential.seq}
use Rattle.kp_pipeline.specs.{Pipeline.Inputs, Pipeline.intent_known, Pipeline.is_candidate, Rows.Row, Rows.bits}
use Rattle.kp_pipeline.specs.Timeline.{HasNoGuess, ReadyAbove, first_stage, next_number, some_unmet}
use Rattle.kp_pipeline.specs.Machine.{Holds, Samples, State}

-- THE TIMELINE OF ANY MACHINE, with guesses and samples. As that of a machine without them, it is computed from
-- instruction numbers and values of the sequential machine alone: which instruction each stage holds, and which
-- stages wait for data. A guessed read never waits. `given i x` is the value of sample x that instruction i takes:
-- the sample's value in the cycle in which it leaves the sample's stage. While it is in that stage, it uses the
-- values of the present cycle.

-- The setting stage of a result in the instruction on s with the sample values q: that of its first enabled set, or
-- the write stage.
unfoldable pub setting_stage : Machine → State → (ℕ → ℕ) → ℕ → ℕ
setting_stage m s q t = first_stage (λ k. is_some ((before_stage m s q (suc k)).results t)) m.stages 0 (m.write_stage t)

-- Stage k may write target t at address a: its intent isn't known there, or its instruction writes it.
abbrev pub may_write : Machine → State → Samples → ℕ → Option ℕ → (target address : ℕ) → Bool
may_write m s given k None t a = false
may_write m s given k (Some i) t a = not (intent_known m k t) || is_written m (instruction_before m s given i m.stages) t a

-- It is ready: its intent is known, and the result was set before stage k, or is set in it and the stage isn't blocked.
abbrev pub is_ready : Machine → State → Samples → ℕ → Option ℕ → Bool → ℕ → Bool
is_ready m s given k None blocked t = false
is_ready m s given k (Some i) blocked t =
    intent_known m k t
    && (ltb (setting_stage m (seq m s given i) (given i) t) k || (eqb (setting_stage m (seq m s given i) (given i) t) k && not blocked))

-- Stage k waits: the nearest stage above that may write what it reads isn't ready. A guessed read waits for nothing.
abbrev pub waits_given : Machine → State → Samples → Inputs → Option ℕ → ℕ → ReadyAbove → Bool
waits_given m s given inputs None k up = false
waits_given m s given inputs (Some i) k up =
    some_unmet up.ready (seq m s given i) (m.body k inputs.samples (instruction_before m s given i k).pipes)

-- It is blocked if it holds an instruction and waits, is stalled by the environment, or the next stage is blocked.
abbrev pub blocked_given : Machine → State → Samples → Holds → Inputs → ℕ → ReadyAbove → Bool
blocked_given m s given hold inputs k up =
    is_some (hold k) && (waits_given m s given inputs (hold k) k up || (inputs.ext k || up.blocked))

abbrev pub ready_below : Machine → State → Samples → Holds → Inputs → ℕ → ReadyAbove → ReadyAbove
ready_below m s given hold inputs k up = record {
  ready = λ t a.
      cond (is_candidate m k t && may_write m s given k (hold k) t a)
      (is_ready m s given k (hold k) (blocked_given m s given hold inputs k up) t)
      (up.ready t a);
  blocked = blocked_given m s given hold inputs k up;
}

-- What the d stages from k on pass down. Above the last stage each read is met, and nothing is blocked.
unfoldable pub ready_from : Machine → State → Samples → Holds → Inputs → ℕ → ℕ → ReadyAbove
ready_from m s given hold inputs zero k = record { ready = λ t a. true; blocked = false }
ready_from m s given hold inputs (suc d) k = ready_below m s given hold inputs k (ready_from m s given hold inputs d (suc k))

-- What stage k sees, whether it waits, and whether it is blocked.
unfoldable pub ready_above : Machine → State → Samples → Holds → Inputs → ℕ → ReadyAbove
ready_above m s given hold inputs k = ready_from m s given hold inputs (m.stages - suc k) (suc k)

unfoldable pub waits : Machine → State → Samples → Holds → Inputs → ℕ → Bool
waits m s given hold inputs k = waits_given m s given inputs (hold k) k (ready_above m s given hold inputs k)

unfoldable pub blocked : Machine → State → Samples → Holds → Inputs → ℕ → Bool
blocked m s given hold inputs k = blocked_given m s given hold inputs k (ready_above m s given hold inputs k)

-- A stage that holds an instruction and isn't blocked moves it on.
unfoldable pub moves_on : Machine → State → Samples → Holds → Inputs → ℕ → Bool
moves_on m s given hold inputs k = is_some (hold k) && not (blocked m s given hold inputs k)

-- What the stages hold after the cycle. Stage 0 then takes the next number.
unfoldable pub next_hold : Machine → State → Samples → Holds → Inputs → ℕ → Option ℕ
next_hold m s given hold inputs zero = cond (moves_on m s given hold inputs 0) (next_number (hold 0)) (hold 0)
next_hold m s given hold inputs (suc k) =
    cond (moves_on m s given hold inputs k) (hold k) (cond (blocked m s given hold inputs (suc k)) (hold (suc k)) None)

-- The value that the instruction in stage k aims at a hint, if it aims one, given the present hints.
abbrev pub aim_given : Machine → State → Samples → Inputs → (ℕ → ℕ) → Option ℕ → (stage hint : ℕ) → Option ℕ
aim_given m s given inputs hints None k x = None
aim_given m s given inputs hints (Some i) k x =
    (run (λ t a. Some (seq m s given i t a)) hints (m.body k inputs.samples (instruction_before m s given i k).pipes)).aims x

-- The hints after the cycle: a hint takes the value that is aimed at it as the instruction moves on.
unfoldable pub hints_after : Machine → State → Samples → Holds → Inputs → (ℕ → ℕ) → ℕ → ℕ
hints_after m s given hold inputs hints x =
    cond (moves_on m s given hold inputs (m.hint_stage x))
    (unwrap_or (aim_given m s given inputs hints (hold (m.hint_stage x)) (m.hint_stage x) x) (hints x))
    (hints x)

-- A row of the timeline: `full` if a stage holds an instruction, the update enable if it moves it on, and no rollback.
abbrev pub timeline_row : Machine → State → Samples → Holds → Inputs → Row
timeline_row m s given hold inputs =
    record { full = bits (λ k. is_some (hold k)) m.stages 0; ue = bits (moves_on m s given hold inputs) m.stages 0; back = 0 }

-- The rows of the timeline of a run in which the instructions have the sample values `given`.
abbrev pub timeline_rows : Machine → State → Samples → Holds → List Inputs → List Row
timeline_rows m s given hold [] = []
timeline_rows m s given hold (i ∷ ins) = timeline_row m s given hold i ∷ timeline_rows m s given (next_hold m s given hold i) ins

-- THE SAME WITHOUT LOOKAHEAD: sample values are recorded as they are taken. `took i x` is the value of sample x that
-- instruction i took, or 0 if it took none yet. In a cycle, the instruction in the sample's stage uses its present
-- value.
abbrev pub is_held : Option ℕ → ℕ → Bool
is_held None i = false
is_held (Some j) i = eqb j i

abbrev pub taken_now : Machine → Samples → Holds → Inputs → Samples
taken_now m took hold inputs i x = cond (is_held (hold (m.sample_stage x)) i) (inputs.samples x) (took i x)

-- After the cycle the instructions that left the sample's stage have taken it.
abbrev pub next_taken : Machine → State → Samples → Holds → Inputs → Samples
next_taken m s took hold inputs i x =
    cond (moves_on m s (taken_now m took hold inputs) hold inputs (m.sample_stage x) && is_held (hold (m.sample_stage x)) i)
    (inputs.samples x) (took i x)

abbrev pub timeline_rows_taking : Machine → State → Samples → Holds → List Inputs → List Row
timeline_rows_taking m s took hold [] = []
timeline_rows_taking m s took hold (i ∷ ins) =
    timeline_row m s (taken_now m took hold i) hold i
    ∷ timeline_rows_taking m s (next_taken m s took hold i) (next_hold m s (taken_now m took hold i) hold i) ins

-- No stage has a guessed read.
abbrev pub IsWithoutGuess : Machine → Type 0
IsWithoutGuess m = (k : ℕ) (q p : ℕ → ℕ) → k < m.stages → HasNoGuess (m.body k q p)
