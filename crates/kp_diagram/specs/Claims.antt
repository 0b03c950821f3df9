use Rattle.std.specs.Prelude.{◌≡◌, ℕ, zero, suc, ◌+◌, ◌-◌, ◌<◌, ◌≤◌, Bool, true, false, List, [], ◌∷◌, ◌⊎◌, Option, Some, None}
use Rattle.std.specs.List.{AllByRecursion}
use Rattle.kp_pipeline.specs.Machine.{Machine}
use Rattle.kp_pipeline.specs.Pipeline.{Inputs, PipelineState, above, back, outcome, stall, ue}
use Rattle.kp_pipeline.specs.Rows.{Row, bit, counts, one_if, state_after}
use Rattle.kp_diagram.specs.Diagram.{Account, Cell, Fetch, Loss, Filling, DataHazard, WrongGuess, Outside, Mark, Moves, WaitsForValue, WaitsForStage, Held, Squashed}

-- CLAIMS ON DIAGRAMS.

-- The stall words of a list of inputs.
abbrev pub stalls_of : List Inputs → ℕ → ℕ → Bool
stalls_of [] T k = false
stalls_of (i ∷ ins) zero k = i.ext k
stalls_of (i ∷ ins) (suc T) k = stalls_of ins T k

-- The inputs of cycle T; no stall past the end.
abbrev pub input_at : List Inputs → ℕ → Inputs
input_at [] T = record { ext = λ k. false; samples = λ x. 0 }
input_at (i ∷ ins) zero = i
input_at (i ∷ ins) (suc T) = input_at ins T

-- In cycle T stage k is full.
abbrev pub is_full : List Row → ℕ → ℕ → Bool
is_full [] T k = false
is_full (r ∷ rows) zero k = bit r.full k
is_full (r ∷ rows) (suc T) k = is_full rows T k

-- Some cell is in this cycle and stage.
abbrev pub HasCell : ℕ → ℕ → List Cell → Type 0
HasCell T k [] = ⊥
HasCell T k (c ∷ cells) = ((c.cycle ≡ T) × (c.stage ≡ k)) ⊎ HasCell T k cells

-- Some line of instruction i has a cell in this cycle and stage.
abbrev pub Shows : List Fetch → (instruction cycle stage : ℕ) → Type 0
Shows [] i T k = ⊥
Shows (f ∷ fetches) i T k = ((f.number ≡ i) × HasCell T k f.cells) ⊎ Shows fetches i T k

-- In cycle T stage k of n is full and has instruction i.
abbrev pub Holds : ℕ → List Row → (instruction cycle stage : ℕ) → Type 0
Holds n rows i T k = (k < n) × (is_full rows T k ≡ true) × (counts n rows T k ≡ i)

-- The reason for a mark, in the machine's own terms: the parts of the stall are a stall from outside, one of the next stage,
-- and a data hazard.
abbrev pub IsReason : Machine → PipelineState → Inputs → ℕ → Mark → Type 0
IsReason m st i k Moves = ue m st i k ≡ true
IsReason m st i k Squashed = k < back m st i
IsReason m st i k Held = (back m st i ≤ k) × (stall m st i k ≡ true) × (i.ext k ≡ true)
IsReason m st i k WaitsForStage =
    (back m st i ≤ k) × (stall m st i k ≡ true) × (i.ext k ≡ false) × ((above m st i k).stall ≡ true)
IsReason m st i k WaitsForValue =
    (back m st i ≤ k) × (stall m st i k ≡ true) × (i.ext k ≡ false) × ((above m st i k).stall ≡ false)
    × ((outcome m st i k).hazard ≡ true)

-- The mark of each cell has its reason in the state and the inputs of its cycle, in a run from a state.
abbrev pub HasReasons : Machine → PipelineState → List Inputs → List Fetch → Type 0
HasReasons m st ins fetches =
    AllByRecursion (λ f. AllByRecursion (λ c. IsReason m (state_after m st ins c.cycle) (input_at ins c.cycle) c.stage c.mark) f.cells) fetches

abbrev pub numbers_from : ℕ → ℕ → List ℕ
numbers_from i zero = []
numbers_from i (suc count) = i ∷ numbers_from (suc i) count

abbrev pub cycles_of : Account → ℕ
cycles_of a = a.retired + a.filling + a.hazards + a.guesses + a.outside

-- Stage k is empty in cycle T of a run from a state.
abbrev pub IsEmpty : Machine → PipelineState → List Inputs → ℕ → ℕ → Type 0
IsEmpty m st ins T k = ((state_after m st ins T).stage k).full ≡ false

-- THE CAUSE of an empty stage k in cycle T, or of the wait of an instruction there. In a cycle up to T, and as many stages below k as it is
-- cycles before T, an instruction has the reason of this mark (`since`, `reason`). The bubble that it leaves moves up, one stage a cycle, and is
-- in stage k in cycle T: each stage that it comes to is empty (`empty`), and none of them is squashed before (`kept`).
pub record IsCausedBy (m : Machine) (st : PipelineState) (ins : List Inputs) (T k : ℕ) (mark : Mark) : Type 0 where
  pub cycle : ℕ
  pub stage : ℕ
  pub below : stage ≤ k
  pub since : cycle + k ≡ T + stage
  pub reason : IsReason m (state_after m st ins cycle) (input_at ins cycle) stage mark
  pub empty : (d : ℕ) → 0 < d → d + stage ≤ k → IsEmpty m st ins (cycle + d) (stage + d)
  pub kept : (d : ℕ) → 0 < d → d + stage < k → back m (state_after m st ins (cycle + d)) (input_at ins (cycle + d)) ≤ stage + d

-- The pipeline fills: the bubble was there at the start.
pub record IsFilling (m : Machine) (st : PipelineState) (ins : List Inputs) (T k : ℕ) : Type 0 where
  pub early : T < k
  pub empty : (U : ℕ) → U ≤ T → IsEmpty m st ins U (U + (k - T))

abbrev pub IsLostTo : Machine → PipelineState → List Inputs → ℕ → ℕ → Loss → Type 0
IsLostTo m st ins T k Filling = IsFilling m st ins T k
IsLostTo m st ins T k DataHazard = IsCausedBy m st ins T k WaitsForValue
IsLostTo m st ins T k WrongGuess = IsCausedBy m st ins T k Squashed
IsLostTo m st ins T k Outside = IsCausedBy m st ins T k Held

-- In cycle T the last stage updates, or the cycle is lost to the cause of its bubble or its wait.
abbrev pub IsSpentFor : Machine → PipelineState → List Inputs → ℕ → ℕ → Option Loss → Type 0
IsSpentFor m st ins T last None = ue m (state_after m st ins T) (input_at ins T) last ≡ true
IsSpentFor m st ins T last (Some loss) = IsLostTo m st ins T last loss

abbrev pub is_loss : Option Loss → Option Loss → Bool
is_loss None None = true
is_loss (Some Filling) (Some Filling) = true
is_loss (Some DataHazard) (Some DataHazard) = true
is_loss (Some WrongGuess) (Some WrongGuess) = true
is_loss (Some Outside) (Some Outside) = true
is_loss _ _ = false

-- how many of these cycles were spent for this
abbrev pub count_of : Option Loss → List (Option Loss) → ℕ
count_of o [] = 0
count_of o (p ∷ cycles) = one_if (is_loss o p) + count_of o cycles

-- The account counts, of each kind, the cycles that were spent for it.
pub record Counts (a : Account) (cycles : List (Option Loss)) : Type 0 where
  pub retired : a.retired ≡ count_of None cycles
  pub filling : a.filling ≡ count_of (Some Filling) cycles
  pub hazards : a.hazards ≡ count_of (Some DataHazard) cycles
  pub guesses : a.guesses ≡ count_of (Some WrongGuess) cycles
  pub outside : a.outside ≡ count_of (Some Outside) cycles
