use Rattle.std.specs.Prelude.{ℕ, Bool, Option}

-- THE ABSTRACT MACHINE: a prepared sequential machine whose expressions are functions of their values. Targets
-- (visible registers and files), pipes, samples and hints are numbered, and values are natural numbers. A register is
-- read and written at address 0. A target has at most one result, so a result has the number of its target.

-- The state that is visible: the value of each target at each address.
abbrev pub State : Type 0
State = ℕ → ℕ → ℕ

-- The values of the samples: by instruction, and by sample.
abbrev pub Samples : Type 0
Samples = ℕ → ℕ → ℕ

-- The contents of the stages: which instruction each one holds, if any.
abbrev pub Holds : Type 0
Holds = ℕ → Option ℕ

-- What one stage does: it reads, one read after another, and ends with its effects. What follows a read depends on
-- the value that was read. A read whose condition is false is omitted.
pub data Tree : Type 0 where
  -- the pipes that are put, the results whose set is enabled, and the values aimed at the hints, given the present hints
  Done : (ℕ → Option ℕ) → (ℕ → Option ℕ) → ((ℕ → ℕ) → ℕ → Option ℕ) → Tree
  -- a read of a target at an address
  Ask : ℕ → ℕ → (ℕ → Tree) → Tree
  -- a guessed read of a register, and the guess, given the present hints
  Guess : ℕ → ((ℕ → ℕ) → ℕ) → (ℕ → Tree) → Tree

pub record Machine : Type 0 where
  -- the number of stages, n
  pub stages : ℕ
  -- what a stage does, given the values of the samples and of the pipes
  pub body : ℕ → (ℕ → ℕ) → (ℕ → ℕ) → Tree
  -- the stage that uses a sample
  pub sample_stage : ℕ → ℕ
  -- the stage that aims a hint
  pub hint_stage : ℕ → ℕ
  -- whether a target has a result
  pub has_result : ℕ → Bool
  -- the write stage of a target's result
  pub write_stage : ℕ → ℕ
  -- the first stage in which its intent (does it write, and where) is known: after the puts of its enable and address pipe
  pub known_from : ℕ → ℕ
  -- the intent, given the values of the pipes: whether the result is enabled, and at which address it writes
  pub enabled : ℕ → (ℕ → ℕ) → Bool
  pub address : ℕ → (ℕ → ℕ) → ℕ
  -- the largest write stage of a guessed register, or 0: a wrong guess is found before it
  pub last_guessed : ℕ
