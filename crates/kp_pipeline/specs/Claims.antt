use Rattle.std.specs.Prelude.{◌≡◌, ℕ, zero, suc, ◌+◌, ◌-◌, ◌*◌, ◌<◌, ◌≤◌, Bool, true, false, not, ◌&&◌, List, [], ◌∷◌, length}
use Rattle.kp_pipeline.specs.{Machine.Machine, Sequential.PendingGuess, Sequential.seq, Pipeline.Inputs}
use Rattle.kp_pipeline.specs.Rows.{Row, Trace, bit, passed, one_if, taken}
use Rattle.kp_pipeline.specs.Machine.{State}

-- CLAIMS ON TRACES.

-- LEGAL: after any number of cycles, each target that has a result has its value in the sequential machine after n
-- instructions, where n is the number of update enables of its write stage so far; and each other target has its
-- start value.
abbrev pub Legal : Machine → State → List Inputs → Trace → Type 0
Legal m s ins trace =
    (T : ℕ) → T ≤ length trace.rows → (t a : ℕ)
    → (m.has_result t ≡ true → trace.visible T t a ≡ seq m s (taken m ins trace.rows) (passed trace.rows (m.write_stage t) T) t a)
    × (m.has_result t ≡ false → trace.visible T t a ≡ s t a)

-- The stall word of n bits is 0.
abbrev pub is_stall_free : ℕ → (ℕ → Bool) → Bool
is_stall_free zero ext = true
is_stall_free (suc k) ext = not (ext k) && is_stall_free k ext

-- How many of the first T cycles are stall-free.
abbrev pub stall_free_cycles : ℕ → List Inputs → ℕ → ℕ
stall_free_cycles n ins zero = 0
stall_free_cycles n [] (suc T) = 0
stall_free_cycles n (i ∷ ins) (suc T) = one_if (is_stall_free n i.ext) + stall_free_cycles n ins T

-- Stage h is the highest full stage of n.
abbrev pub IsHighestFull : ℕ → (ℕ → Bool) → ℕ → Type 0
IsHighestFull n full h = (h < n) × (full h ≡ true) × ((j : ℕ) → h < j → j < n → full j ≡ false)

-- There is a row for each cycle, and in each stall-free one the highest full stage updates.
abbrev pub HighestUpdates : ℕ → List Inputs → List Row → Type 0
HighestUpdates n [] [] = Unit {0}
HighestUpdates n [] (r ∷ rows) = ⊥
HighestUpdates n (i ∷ ins) [] = ⊥
HighestUpdates n (i ∷ ins) (r ∷ rows) =
    ((h : ℕ) → is_stall_free n i.ext ≡ true → IsHighestFull n (bit r.full) h → bit r.ue h ≡ true) × HighestUpdates n ins rows

-- MOVES: in addition, any n stall-free cycles retire an instruction. Between the cycles T and U there are at most n -
-- 1 more stall-free cycles than n times the number of instructions that leave the last stage.
abbrev pub Moves : Machine → List Inputs → Trace → Type 0
Moves m ins trace =
    HighestUpdates m.stages ins trace.rows
    × ((T U : ℕ) → T ≤ U → U ≤ length trace.rows
    → stall_free_cycles m.stages ins U - stall_free_cycles m.stages ins T
    ≤ m.stages * (passed trace.rows (m.stages - 1) U - passed trace.rows (m.stages - 1) T) + (m.stages - 1))

-- In no row is the highest full stage squashed.
abbrev pub HighestStays : ℕ → List Row → Type 0
HighestStays n [] = Unit {0}
HighestStays n (r ∷ rows) = ((h : ℕ) → IsHighestFull n (bit r.full) h → r.back ≤ h) × HighestStays n rows

-- A guess that is pending in stage k is before the write stage of its register, which has a result.
abbrev pub StandsBefore : Machine → ℕ → PendingGuess → Type 0
StandsBefore m k p = (m.has_result p.register ≡ true) × (k < m.write_stage p.register) × (m.write_stage p.register ≤ m.last_guessed)
