use Rattle.std.specs.Prelude.{◌≡◌, ℕ, zero, suc, ◌+◌, Bool, true, false, cond, eqb, leb, List, [], ◌∷◌, length, Option, Some, None}
use Rattle.kp_pipeline.specs.{Machine.Tree, Machine.Done, Machine.Ask, Machine.Guess, Machine.Machine, Pipeline.Inputs, Rows.Row, Rows.pipe, Rows.counts}
use Rattle.kp_pipeline.specs.Accepted.{Accepted}
use Rattle.kp_pipeline.specs.Machine.{State}

-- SMALL MACHINES with their runs worked out by hand. Values have no width here.

-- Nothing is put, set or aimed; or only the value v, under number x.
abbrev pub nothing : ℕ → Option ℕ
nothing x = None

abbrev pub only : (argument value other : ℕ) → Option ℕ
only x v y = cond (eqb y x) (Some v) None

-- One value for target 0, and another for all others.
abbrev pub by_target : {A : Type 0} → A → A → ℕ → A
by_target first other zero = first
by_target first other (suc t) = other

abbrev pub no_aims : (ℕ → ℕ) → ℕ → Option ℕ
no_aims hints h = None

-- The end of a stage with these puts and sets, and the stage that does nothing.
abbrev pub ends : (ℕ → Option ℕ) → (ℕ → Option ℕ) → Tree
ends puts sets = Done puts sets no_aims

abbrev pub idle : Tree
idle = ends nothing nothing

-- Inputs: no stall, a stall of one stage, the same value for every sample.
abbrev pub quiet : Inputs
quiet = record { ext = λ k. false; samples = λ x. 0 }

abbrev pub stalled : ℕ → Inputs
stalled k = record { ext = eqb k; samples = λ x. 0 }

abbrev pub sampled : ℕ → Inputs
sampled v = record { ext = λ k. false; samples = λ x. v }

abbrev pub quiets : ℕ → List Inputs
quiets zero = []
quiets (suc n) = quiet ∷ quiets n

-- A row of three, four or five stages, from digits.
abbrev pub digit : ℕ → Bool
digit zero = false
digit (suc n) = true

abbrev pub row3 : (a b c d e f back : ℕ) → Row
row3 a b c d e f back =
    record { full = digit a ∷ digit b ∷ digit c ∷ []; ue = digit d ∷ digit e ∷ digit f ∷ []; back = back }

abbrev pub row4 : (a b c d e f g h back : ℕ) → Row
row4 a b c d e f g h back =
    record { full = digit a ∷ digit b ∷ digit c ∷ digit d ∷ []; ue = digit e ∷ digit f ∷ digit g ∷ digit h ∷ []; back = back }

-- The number of the instruction in each of the n stages from k on, after T rows.
abbrev pub counted : ℕ → List Row → (cycles count from : ℕ) → List ℕ
counted n rows T zero k = []
counted n rows T (suc d) k = counts n rows T k ∷ counted n rows T d (suc k)

-- An accepted machine whose run has these rows, and these counts after them.
pub record RunsAs (m : Machine) (s : State) (hints : ℕ → ℕ) (ins : List Inputs) (rows : List Row) (numbers : List ℕ)
    : Type 0 where
  pub accepted : Accepted m
  pub shown : (pipe m s hints ins).rows ≡ rows
  pub numbered : counted m.stages rows (length rows) m.stages 0 ≡ numbers

-- LATE3: three stages. Stage 0 reads X and puts it; stage 2 sets X to that value plus one, and writes it.
abbrev pub late3_body : ℕ → (ℕ → ℕ) → Tree
late3_body zero p = Ask 0 0 (λ x. ends (only 0 x) nothing)
late3_body (suc zero) p = idle
late3_body (suc (suc k)) p = ends nothing (only 0 (p 0 + 1))

abbrev pub late3 : Machine
late3 = record {
  stages = 3;
  body = λ k q. late3_body k;
  sample_stage = λ x. 3;
  hint_stage = λ h. 0;
  has_result = λ t. eqb t 0;
  write_stage = λ t. 2;
  known_from = λ t. 0;
  enabled = λ t p. true;
  address = λ t p. 0;
  last_guessed = 0;
}

abbrev pub late3_rows : List Row
late3_rows =
    row3 1 0 0 1 0 0 0
    ∷ row3 1 1 0 0 1 0 0
    ∷ row3 1 0 1 1 0 1 0
    ∷ row3 1 1 0 0 1 0 0
    ∷ row3 1 0 1 1 0 1 0
    ∷ []

-- The same with stage 2 stalled in cycle 2: a fresh result of a stalled stage isn't forwarded.
abbrev pub late3_stalls : List Inputs
late3_stalls = quiet ∷ quiet ∷ stalled 2 ∷ quiet ∷ quiet ∷ []

abbrev pub late3_stalled_rows : List Row
late3_stalled_rows =
    row3 1 0 0 1 0 0 0
    ∷ row3 1 1 0 0 1 0 0
    ∷ row3 1 0 1 0 0 0 0
    ∷ row3 1 0 1 1 0 1 0
    ∷ row3 1 1 0 0 1 0 0
    ∷ []

-- NEAR: a file F, target 0, of which word 1 is read, incremented in stage 1 and written in stage 3. With all stages
-- full, two of them hold results for the word, and the nearest is forwarded. Pipe 0 is the address, pipe 1 the value.
abbrev pub near_body : ℕ → (ℕ → ℕ) → Tree
near_body zero p = Ask 0 1 (λ v. ends (λ x. cond (eqb x 0) (Some 1) (only 1 v x)) nothing)
near_body (suc zero) p = ends nothing (only 0 (p 1 + 1))
near_body (suc (suc k)) p = idle

abbrev pub near : Machine
near = record {
  stages = 4;
  body = λ k q. near_body k;
  sample_stage = λ x. 4;
  hint_stage = λ h. 0;
  has_result = λ t. eqb t 0;
  write_stage = λ t. 3;
  known_from = λ t. 1;
  enabled = λ t p. true;
  address = λ t p. p 0;
  last_guessed = 0;
}

abbrev pub near_start : State
near_start t a = cond (eqb a 1) 10 0

abbrev pub near_rows : List Row
near_rows =
    row4 1 0 0 0 1 0 0 0 0
    ∷ row4 1 1 0 0 1 1 0 0 0
    ∷ row4 1 1 1 0 1 1 1 0 0
    ∷ row4 1 1 1 1 1 1 1 1 0
    ∷ row4 1 1 1 1 1 1 1 1 0
    ∷ row4 1 1 1 1 1 1 1 1 0
    ∷ row4 1 1 1 1 1 1 1 1 0
    ∷ []

-- UNK4: X has an enable pipe, number 0, that is put in stage 1, as 0. Until then the intent is unknown: a hit without a value.
abbrev pub unk4_body : ℕ → (ℕ → ℕ) → Tree
unk4_body zero p = Ask 0 0 (λ x. ends nothing (only 0 (x + 1)))
unk4_body (suc zero) p = ends (only 0 0) nothing
unk4_body (suc (suc k)) p = idle

abbrev pub unk4 : Machine
unk4 = record {
  stages = 4;
  body = λ k q. unk4_body k;
  sample_stage = λ x. 4;
  hint_stage = λ h. 0;
  has_result = λ t. eqb t 0;
  write_stage = λ t. 3;
  known_from = λ t. 2;
  enabled = λ t p. eqb (p 0) 1;
  address = λ t p. 0;
  last_guessed = 0;
}

abbrev pub unk4_rows : List Row
unk4_rows =
    row4 1 0 0 0 1 0 0 0 0
    ∷ row4 1 1 0 0 0 1 0 0 0
    ∷ row4 1 0 1 0 1 0 1 0 0
    ∷ row4 1 1 0 1 0 1 0 1 0
    ∷ row4 1 0 1 0 1 0 1 0 0
    ∷ []

-- GHW4: the same unknown writer, but X is guessed as 9, and Y, target 1, is set from it. The writer turns out not to write,
-- so the guess is compared with X's own value, 5, and the stages 0 and 1 are squashed.
abbrev pub ghw4_body : ℕ → (ℕ → ℕ) → Tree
ghw4_body zero p = Guess 0 (λ h. 9) (λ x. ends nothing (λ t. Some x))
ghw4_body (suc zero) p = ends (only 0 0) nothing
ghw4_body (suc (suc k)) p = idle

abbrev pub ghw4 : Machine
ghw4 = record {
  stages = 4;
  body = λ k q. ghw4_body k;
  sample_stage = λ x. 4;
  hint_stage = λ h. 0;
  has_result = λ t. leb t 1;
  write_stage = λ t. 3;
  known_from = by_target 2 0;
  enabled = λ t p. by_target (eqb (p 0) 1) true t;
  address = λ t p. 0;
  last_guessed = 3;
}

abbrev pub ghw4_start : State
ghw4_start t a = by_target 5 0 t

abbrev pub ghw4_rows : List Row
ghw4_rows =
    row4 1 0 0 0 1 0 0 0 0
    ∷ row4 1 1 0 0 1 1 0 0 0
    ∷ row4 1 1 1 0 0 0 1 0 2
    ∷ row4 1 0 0 1 1 0 0 1 0
    ∷ []

-- HINT3: X is guessed from hint 0, which stage 0 aims at the value read plus two, one too high: the second
-- instruction is squashed in the cycle in which the first writes.
abbrev pub hint3_body : ℕ → (ℕ → ℕ) → Tree
hint3_body zero p = Guess 0 (λ h. h 0) (λ x. Done (only 0 x) nothing (λ h. only 0 (x + 2)))
hint3_body (suc zero) p = idle
hint3_body (suc (suc k)) p = ends nothing (only 0 (p 0 + 1))

abbrev pub hint3 : Machine
hint3 = record late3 { body = λ k q. hint3_body k; last_guessed = 2 }

abbrev pub hint3_rows : List Row
hint3_rows =
    row3 1 0 0 1 0 0 0
    ∷ row3 1 1 0 1 1 0 0
    ∷ row3 1 1 1 0 0 1 2
    ∷ []

-- SMP3: stage 1 sets X to a sample, stage 2 writes it. With stage 1 stalled in cycle 1 the first instruction takes
-- the sample of cycle 2.
abbrev pub smp3_body : ℕ → (ℕ → ℕ) → (ℕ → ℕ) → Tree
smp3_body (suc zero) q p = ends nothing (only 0 (q 0))
smp3_body _ q p = idle

abbrev pub smp3 : Machine
smp3 = record late3 { body = smp3_body; sample_stage = λ x. 1 }

abbrev pub smp3_inputs : List Inputs
smp3_inputs = quiet ∷ record { ext = eqb 1; samples = λ x. 5 } ∷ sampled 7 ∷ quiet ∷ []

abbrev pub smp3_rows : List Row
smp3_rows =
    row3 1 0 0 1 0 0 0
    ∷ row3 1 1 0 0 0 0 0
    ∷ row3 1 1 0 1 1 0 0
    ∷ row3 1 1 1 1 1 1 0
    ∷ []

-- EARLY: it violates the window rule and no other. X is guessed as 7 in stage 0 and written in stage 4; Y, target 1,
-- is set from the guess and written in stage 2, before the guess is found wrong.
abbrev pub early_body : ℕ → (ℕ → ℕ) → Tree
early_body zero p = Guess 0 (λ h. 7) (λ x. ends (only 0 x) (only 1 x))
early_body (suc (suc (suc (suc k)))) p = ends nothing (only 0 (p 0 + 1))
early_body _ p = idle

abbrev pub early : Machine
early = record {
  stages = 5;
  body = λ k q. early_body k;
  sample_stage = λ x. 5;
  hint_stage = λ h. 0;
  has_result = λ t. leb t 1;
  write_stage = by_target 4 2;
  known_from = λ t. 0;
  enabled = λ t p. true;
  address = λ t p. 0;
  last_guessed = 4;
}

abbrev pub zeros : State
zeros t a = 0

abbrev pub ones : State
ones t a = 1

abbrev pub no_hints : ℕ → ℕ
no_hints h = 0
