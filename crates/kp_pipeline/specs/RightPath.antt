use Rattle.std.specs.Prelude.{◌≡◌, ℕ, suc, ◌<◌, ◌≤◌, Bool, true, false, cond, not, ◌&&◌, ◌||◌, eqb, List, [], ◌∷◌, Option, Some, None}
use Rattle.std.specs.List.{AllByRecursion}
use Rattle.kp_pipeline.specs.Machine.{Tree, Done, Ask, Guess, Machine, Holds, Samples, State}
use Rattle.kp_pipeline.specs.Sequential.{PendingGuess, instruction_before, seq}
use Rattle.kp_pipeline.specs.Pipeline.{Inputs, PipelineState, cycle, outcome, pipeline_start, ue}
use Rattle.kp_pipeline.specs.Rows.{Row, bit, count_after, row}
use Rattle.kp_pipeline.specs.SpeculativeTimeline.{hints_after, moves_on, next_hold, ready_above, waits}

-- THE RIGHT (CORRECT) PATH: the stages from which upward no guess is wrong. What they do is determined by the sequential machine.

-- A guess is right if it is the register's value in the sequential state before the instruction.
abbrev pub IsRightIn : State → PendingGuess → Type 0
IsRightIn s p = p.value ≡ s p.register 0

-- The guesses that a stage makes in this cycle are right, up to the first read that isn't met: if a guessed read has
-- no value yet, the guess from the present hints is the register's value.
abbrev pub MakesRightGuesses : (ℕ → ℕ → Bool) → (ℕ → ℕ) → State → Tree → Type 0
MakesRightGuesses ready hints s (Done puts sets aims) = Unit {0}
MakesRightGuesses ready hints s (Ask t a rest) = ready t a ≡ true → MakesRightGuesses ready hints s (rest (s t a))
MakesRightGuesses ready hints s (Guess t guess rest) =
    (ready t 0 ≡ false → guess hints ≡ s t 0) × MakesRightGuesses ready hints s (rest (s t 0))

-- A moment of a run: the pipeline's state, and by stage the number of the instruction in it, or of the next to come there.
pub record Moment : Type 0 where
  pub state : PipelineState
  pub count : ℕ → ℕ

abbrev pub first_moment : State → (ℕ → ℕ) → Moment
first_moment s hints = record { state = pipeline_start s hints; count = λ k. 0 }

-- The moment after a cycle: the counts are those of the rows.
abbrev pub next_moment : Machine → Moment → Inputs → Moment
next_moment m now i = record { state = cycle m now.state i; count = count_after m.stages (row m now.state i) now.count }

-- The number of the instruction that stage k holds, if it holds one.
abbrev pub held : Moment → ℕ → Option ℕ
held now k = cond (now.state.stage k).full (Some (now.count k)) None

-- The pending guesses of stage k are right, if it is full.
abbrev pub HasRightGuesses : Machine → State → Samples → Moment → ℕ → Type 0
HasRightGuesses m s given now k =
    (now.state.stage k).full ≡ true → AllByRecursion (IsRightIn (seq m s given (now.count k))) (now.state.stage k).pending

-- And so are the guesses that it makes in this cycle.
abbrev pub GuessesRight : Machine → State → Samples → Moment → Inputs → ℕ → Type 0
GuessesRight m s given now inputs k =
    (now.state.stage k).full ≡ true
    → MakesRightGuesses (ready_above m s given (held now) inputs k).ready now.state.hints (seq m s given (now.count k))
    (m.body k inputs.samples (instruction_before m s given (now.count k) k).pipes)

-- The right path reaches down to stage k: from there up no guess is wrong.
abbrev pub IsRightFrom : Machine → State → Samples → Moment → Inputs → ℕ → Type 0
IsRightFrom m s given now inputs k =
    (j : ℕ) → k ≤ j → j < m.stages → HasRightGuesses m s given now j × GuessesRight m s given now inputs j

-- A weaker condition, without the guesses that a stage makes while it waits: from stage k up the pending guesses are
-- right, and so are those that a stage carries along as it moves on.
abbrev pub KeepsRightFrom : Machine → State → Samples → Moment → Inputs → ℕ → Type 0
KeepsRightFrom m s given now inputs k =
    (j : ℕ) → k ≤ j → j < m.stages
    → HasRightGuesses m s given now j
    × (ue m now.state inputs j ≡ true → AllByRecursion (IsRightIn (seq m s given (now.count j))) (outcome m now.state inputs j).guesses)

-- A guess is found wrong in this cycle: its register can be read, and has another value.
abbrev pub some_shows_wrong : (ℕ → ℕ → Bool) → State → List PendingGuess → Bool
some_shows_wrong ready s [] = false
some_shows_wrong ready s (p ∷ ps) = (ready p.register 0 && not (eqb (s p.register 0) p.value)) || some_shows_wrong ready s ps

abbrev pub shows_wrong : Machine → State → Samples → Moment → Inputs → ℕ → Bool
shows_wrong m s given now inputs k =
    some_shows_wrong (ready_above m s given (held now) inputs k).ready (seq m s given (now.count k)) (now.state.stage k).pending

-- Some read of the instruction on s can't be had yet, guessed reads included.
abbrev pub some_missing : (ℕ → ℕ → Bool) → State → Tree → Bool
some_missing ready s (Done puts sets aims) = false
some_missing ready s (Ask t a rest) = not (ready t a) || some_missing ready s (rest (s t a))
some_missing ready s (Guess t guess rest) = not (ready t 0) || some_missing ready s (rest (s t 0))

-- Stage k would wait in this cycle if it guessed nothing.
abbrev pub waits_unguessed : Machine → State → Samples → Moment → Inputs → ℕ → Bool
waits_unguessed m s given now inputs k =
    some_missing (ready_above m s given (held now) inputs k).ready (seq m s given (now.count k))
    (m.body k inputs.samples (instruction_before m s given (now.count k) k).pipes)

-- WHAT A CYCLE WAITS FOR, and nothing more. Here `r` is the row.
pub record WaitsWhereItMust (m : Machine) (s : State) (given : Samples) (now : Moment) (i : Inputs) (r : Row) : Type 0 where
  -- On the right path a stage moves on exactly where the timeline, in which a guessed read never waits, moves it on,
  -- and it isn't squashed. Correct guesses cost nothing, and nothing in lower stages affects it.
  pub moves : (k : ℕ) → k < m.stages → IsRightFrom m s given now i k → bit r.ue k ≡ moves_on m s given (held now) i k
  pub stays : (k : ℕ) → k < m.stages → IsRightFrom m s given now i k → r.back ≤ k
  -- It has a data hazard exactly where the timeline waits: the nearest older writer can't forward the value in this cycle.
  pub hazards : (k : ℕ) → k < m.stages → IsRightFrom m s given now i k → bit r.full k ≡ true
      → (outcome m now.state i k).hazard ≡ waits m s given (held now) i k
  -- Whatever it guesses while it waits, it never moves on before it does in the timeline, unless it carries a wrong
  -- guess along: a wrong guess that isn't carried along can cost a cycle, and gains none.
  pub never_early : (k : ℕ) → k < m.stages → KeepsRightFrom m s given now i k → bit r.ue k ≡ true
      → moves_on m s given (held now) i k ≡ true
  -- And it costs no more than guessing nothing would: a stage whose pending guesses are right, below stages on the right
  -- path, has no data hazard in a cycle in which it wouldn't wait without guesses, whatever it would guess.
  pub bounded : (k : ℕ) → k < m.stages → IsRightFrom m s given now i (suc k) → HasRightGuesses m s given now k → bit r.full k ≡ true
      → waits_unguessed m s given now i k ≡ false → (outcome m now.state i k).hazard ≡ false
  -- What moved on or stayed there has right guesses after the cycle too: only a new wrong guess leaves the right path.
  pub moved : (k : ℕ) → suc k < m.stages → IsRightFrom m s given now i k → HasRightGuesses m s given (next_moment m now i) (suc k)
  pub kept : (k : ℕ) → k < m.stages → IsRightFrom m s given now i k → bit r.full k ≡ true → bit r.ue k ≡ false
      → HasRightGuesses m s given (next_moment m now i) k
  -- If the right path ends above stage k, nothing above stage k is squashed. Stage k is squashed in the first cycle
  -- in which one of its guesses is found wrong, and in no other
  pub ends : (k : ℕ) → k < m.stages → IsRightFrom m s given now i (suc k) → r.back ≤ suc k
  pub found : (k : ℕ) → k < m.stages → IsRightFrom m s given now i (suc k) → bit r.full k ≡ true
      → shows_wrong m s given now i k ≡ true → r.back ≡ suc k
  pub only : (k : ℕ) → k < m.stages → IsRightFrom m s given now i (suc k) → r.back ≡ suc k → shows_wrong m s given now i k ≡ true
  -- and after that all guesses are right again: stage 0 restarts with the instruction of stage k, the stages up to k
  -- are empty, and no pending guess is wrong in any stage.
  pub begins : (k : ℕ) → k < m.stages → r.back ≡ suc k → (next_moment m now i).count 0 ≡ now.count k
  pub empty : (k j : ℕ) → r.back ≡ suc k → suc j ≤ k → ((next_moment m now i).state.stage (suc j)).full ≡ false
  pub right : (k : ℕ) → k < m.stages → IsRightFrom m s given now i (suc k) → r.back ≡ suc k
      → (j : ℕ) → j < m.stages → HasRightGuesses m s given (next_moment m now i) j

-- In each cycle of the run from this moment on, with these rows.
abbrev pub WaitsOnlyWhereItMust : Machine → State → Samples → Moment → List Inputs → List Row → Type 0
WaitsOnlyWhereItMust m s given now [] rows = Unit {0}
WaitsOnlyWhereItMust m s given now (i ∷ ins) [] = ⊥
WaitsOnlyWhereItMust m s given now (i ∷ ins) (r ∷ rows) =
    WaitsWhereItMust m s given now i r × WaitsOnlyWhereItMust m s given (next_moment m now i) ins rows

-- In none of these cycles is a wrong guess made. Stage k holds instruction n of the timeline, which carries the hints
-- along too: so this speaks of the machine, its inputs and the samples that instructions take, and of no pipeline.
abbrev pub NoWrongGuess : Machine → State → Samples → (ℕ → ℕ) → Holds → List Inputs → Type 0
NoWrongGuess m s given hints hold [] = Unit {0}
NoWrongGuess m s given hints hold (i ∷ ins) =
    ((k n : ℕ) → k < m.stages → hold k ≡ Some n
    → MakesRightGuesses (ready_above m s given hold i k).ready hints (seq m s given n)
    (m.body k i.samples (instruction_before m s given n k).pipes))
    × NoWrongGuess m s given (hints_after m s given hold i hints) (next_hold m s given hold i) ins
