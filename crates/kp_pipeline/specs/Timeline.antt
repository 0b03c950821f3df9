use Rattle.std.specs.Prelude.{ℕ, zero, suc, ◌-◌, ◌<◌, ◌≤◌, Bool, true, false, cond, not, ◌&&◌, ◌||◌, eqb, ltb, List, [], ◌∷◌, Option, Some, None, is_some}
use Rattle.kp_pipeline.specs.Machine.{Tree, Done, Ask, Guess, Machine, Holds, State, Samples}
use Rattle.kp_pipeline.specs.Sequential.{before_stage, instruction_before, is_written, seq}
use Rattle.kp_pipeline.specs.{Pipeline.Inputs, Pipeline.intent_known, Pipeline.is_candidate, Rows.Row, Rows.bits}

-- THE TIMELINE of a machine without guesses and samples: which instruction each stage holds, computed from
-- instruction numbers and values of the sequential machine alone. It has no valid bits and no carried values. `hold
-- k` is the number of the instruction in stage k, or None.

abbrev pub no_samples : Samples
no_samples i x = 0

-- The first of n stages from k on that passes, or d.
abbrev pub first_stage : (ℕ → Bool) → (count from otherwise : ℕ) → ℕ
first_stage p zero k d = d
first_stage p (suc n) k d = cond (p k) k (first_stage p n (suc k) d)

-- The setting stage of a result in the instruction on s: that of its first enabled set, or the write stage.
unfoldable pub setting_stage : Machine → State → ℕ → ℕ
setting_stage m s t = first_stage (λ k. is_some ((before_stage m s (λ x. 0) (suc k)).results t)) m.stages 0 (m.write_stage t)

-- What a stage sees of the stages above it: whether a read would be met, and whether the next stage is blocked.
pub record ReadyAbove : Type 0 where
  pub ready : ℕ → ℕ → Bool
  pub blocked : Bool

-- Some read of the instruction on s isn't met.
abbrev pub some_unmet : (ℕ → ℕ → Bool) → State → Tree → Bool
some_unmet ready s (Done puts sets aims) = false
some_unmet ready s (Ask t a rest) = not (ready t a) || some_unmet ready s (rest (s t a))
some_unmet ready s (Guess t guess rest) = some_unmet ready s (rest (s t 0))

-- Stage k may write target t at address a: its intent isn't known there, or its instruction writes it.
abbrev pub may_write : Machine → State → ℕ → Option ℕ → (target address : ℕ) → Bool
may_write m s k None t a = false
may_write m s k (Some i) t a = not (intent_known m k t) || is_written m (instruction_before m s no_samples i m.stages) t a

-- It is ready: its intent is known, and the result was set before stage k, or is set in it and the stage isn't blocked.
abbrev pub is_ready : Machine → State → ℕ → Option ℕ → Bool → ℕ → Bool
is_ready m s k None blocked t = false
is_ready m s k (Some i) blocked t =
    intent_known m k t
    && (ltb (setting_stage m (seq m s no_samples i) t) k || (eqb (setting_stage m (seq m s no_samples i) t) k && not blocked))

-- Stage k waits: the nearest stage above that may write what it reads isn't ready.
abbrev pub waits_given : Machine → State → Option ℕ → ℕ → ReadyAbove → Bool
waits_given m s None k up = false
waits_given m s (Some i) k up =
    some_unmet up.ready (seq m s no_samples i) (m.body k (λ x. 0) (instruction_before m s no_samples i k).pipes)

-- It is blocked if it holds an instruction and waits, is stalled by the environment, or the next stage is blocked.
abbrev pub blocked_given : Machine → State → Holds → Inputs → ℕ → ReadyAbove → Bool
blocked_given m s hold inputs k up = is_some (hold k) && (waits_given m s (hold k) k up || (inputs.ext k || up.blocked))

abbrev pub ready_below : Machine → State → Holds → Inputs → ℕ → ReadyAbove → ReadyAbove
ready_below m s hold inputs k up = record {
  ready = λ t a.
      cond (is_candidate m k t && may_write m s k (hold k) t a)
      (is_ready m s k (hold k) (blocked_given m s hold inputs k up) t)
      (up.ready t a);
  blocked = blocked_given m s hold inputs k up;
}

-- What the d stages from k on pass down. Above the last stage each read is met, and nothing is blocked.
unfoldable pub ready_from : Machine → State → Holds → Inputs → ℕ → ℕ → ReadyAbove
ready_from m s hold inputs zero k = record { ready = λ t a. true; blocked = false }
ready_from m s hold inputs (suc d) k = ready_below m s hold inputs k (ready_from m s hold inputs d (suc k))

-- What stage k sees, whether it waits, and whether it is blocked.
unfoldable pub ready_above : Machine → State → Holds → Inputs → ℕ → ReadyAbove
ready_above m s hold inputs k = ready_from m s hold inputs (m.stages - suc k) (suc k)

unfoldable pub waits : Machine → State → Holds → Inputs → ℕ → Bool
waits m s hold inputs k = waits_given m s (hold k) k (ready_above m s hold inputs k)

unfoldable pub blocked : Machine → State → Holds → Inputs → ℕ → Bool
blocked m s hold inputs k = blocked_given m s hold inputs k (ready_above m s hold inputs k)

-- A stage that holds an instruction and isn't blocked moves it on.
unfoldable pub moves_on : Machine → State → Holds → Inputs → ℕ → Bool
moves_on m s hold inputs k = is_some (hold k) && not (blocked m s hold inputs k)

abbrev pub next_number : Option ℕ → Option ℕ
next_number None = None
next_number (Some i) = Some (suc i)

-- What the stages hold after the cycle. Stage 0 then takes the next number.
unfoldable pub next_hold : Machine → State → Holds → Inputs → ℕ → Option ℕ
next_hold m s hold inputs zero = cond (moves_on m s hold inputs 0) (next_number (hold 0)) (hold 0)
next_hold m s hold inputs (suc k) =
    cond (moves_on m s hold inputs k) (hold k) (cond (blocked m s hold inputs (suc k)) (hold (suc k)) None)

-- At cycle 0 stage 0 holds instruction 0, and no other stage holds any.
abbrev pub start_hold : ℕ → Option ℕ
start_hold zero = Some 0
start_hold (suc k) = None

-- The rows of the timeline: `full` if a stage holds an instruction, the update enable if it moves it on.
abbrev pub timeline_rows : Machine → State → Holds → List Inputs → List Row
timeline_rows m s hold [] = []
timeline_rows m s hold (i ∷ ins) =
    record { full = bits (λ k. is_some (hold k)) m.stages 0; ue = bits (moves_on m s hold i) m.stages 0; back = 0 }
    ∷ timeline_rows m s (next_hold m s hold i) ins

-- A machine without guesses, and without samples: no stage has a sample.
abbrev pub HasNoGuess : Tree → Type 0
HasNoGuess (Done puts sets aims) = Unit {0}
HasNoGuess (Ask t a rest) = (v : ℕ) → HasNoGuess (rest v)
HasNoGuess (Guess t guess rest) = ⊥

abbrev pub HasNoGuessOrSample : Machine → Type 0
HasNoGuessOrSample m = ((k : ℕ) (q p : ℕ → ℕ) → k < m.stages → HasNoGuess (m.body k q p)) × ((x : ℕ) → m.stages ≤ m.sample_stage x)
