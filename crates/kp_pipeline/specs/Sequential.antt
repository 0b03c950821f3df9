use Rattle.std.specs.Prelude.{ℕ, zero, suc, Bool, true, false, cond, ◌&&◌, eqb, List, [], ◌∷◌, Option, Some, None, unwrap_or}
use Rattle.kp_pipeline.specs.Machine.{Machine, Tree, Done, Ask, Guess, Samples, State}

-- THE SEQUENTIAL MACHINE, and the interpreter of stages that it shares with the pipeline.

-- An instruction in flight: the values of its pipes, 0 before the put, and its results as far as they are set.
pub record Instruction : Type 0 where
  pub pipes : ℕ → ℕ
  pub results : ℕ → Option ℕ

-- A pending guess: the guessed register and the predicted value.
pub record PendingGuess : Type 0 where
  pub register : ℕ
  pub value : ℕ

-- The outcome of a stage: whether a read had a data hazard, the puts and sets, the guesses that were made, the aims.
pub record StageOutcome : Type 0 where
  pub hazard : Bool
  pub puts : ℕ → Option ℕ
  pub sets : ℕ → Option ℕ
  pub guesses : List PendingGuess
  pub aims : ℕ → Option ℕ

-- the first of two optional values that exists
abbrev pub first_value : Option ℕ → Option ℕ → Option ℕ
first_value None later = later
first_value (Some v) later = Some v

-- A read continues with its value. Without one it reads 0, and that is a data hazard.
abbrev pub after_read : Option ℕ → (ℕ → StageOutcome) → StageOutcome
after_read (Some v) go = go v
after_read None go = record (go 0) { hazard = true }

-- A guessed read without a value continues with the guess, which becomes pending.
abbrev pub after_guess : Option ℕ → (register guess : ℕ) → (ℕ → StageOutcome) → StageOutcome
after_guess (Some v) t guess go = go v
after_guess None t guess go = record (go guess) { guesses = record { register = t; value = guess } ∷ (go guess).guesses }

-- The run of a stage. `view` returns the value of a target at an address, if it is available.
abbrev pub run : (ℕ → ℕ → Option ℕ) → (ℕ → ℕ) → Tree → StageOutcome
run view hints (Done puts sets aims) = record { hazard = false; puts = puts; sets = sets; guesses = []; aims = aims hints }
run view hints (Ask t a rest) = after_read (view t a) (λ v. run view hints (rest v))
run view hints (Guess t guess rest) = after_guess (view t 0) t (guess hints) (λ v. run view hints (rest v))

-- The instruction after a stage: pipes that were put have their value, and the first enabled set of a result takes effect.
abbrev pub after_stage : Instruction → StageOutcome → Instruction
after_stage c r = record { pipes = λ p. unwrap_or (r.puts p) (c.pipes p); results = λ t. first_value (c.results t) (r.sets t) }

-- The instruction as it enters stage 0.
abbrev pub fresh_instruction : Instruction
fresh_instruction = record { pipes = λ p. 0; results = λ t. None }

-- The instruction on the state s with the sample values q, before stage k. Each read, guessed or not, sees s, the
-- state before the instruction.
unfoldable pub before_stage : Machine → State → (ℕ → ℕ) → ℕ → Instruction
before_stage m s q zero = fresh_instruction
before_stage m s q (suc k) =
    after_stage (before_stage m s q k) (run (λ t a. Some (s t a)) (λ h. 0) (m.body k q (before_stage m s q k).pipes))

-- The intent of an instruction's result, given its pipes: it is enabled, and its address is a.
abbrev pub intends : Machine → Instruction → ℕ → ℕ → Bool
intends m c t a = m.enabled t c.pipes && eqb (m.address t c.pipes) a

-- Such an instruction writes target t at address a.
abbrev pub is_written : Machine → Instruction → ℕ → ℕ → Bool
is_written m c t a = m.has_result t && intends m c t a

-- The state after one instruction: what it writes has its result, or 0 if no set was enabled, and all else is unchanged.
abbrev pub exec : Machine → State → (ℕ → ℕ) → State
exec m s q t a =
    cond (is_written m (before_stage m s q m.stages) t a) (unwrap_or ((before_stage m s q m.stages).results t) 0) (s t a)

-- The state after i instructions from s, where instruction j has the sample values `given j`.
unfoldable pub seq : Machine → State → Samples → ℕ → State
seq m s given zero = s
seq m s given (suc i) = exec m (seq m s given i) (given i)

-- Instruction i of that run, before stage k.
abbrev pub instruction_before : Machine → State → Samples → ℕ → ℕ → Instruction
instruction_before m s given i k = before_stage m (seq m s given i) (given i) k
