use Rattle.std.specs.Prelude.{◌≡◌, ℕ, zero, suc, ◌<◌, Bool, true, false, cond, ◌∷◌, [], List, Option}
use Rattle.kp_pipeline.specs.Machine.{Machine}
use Rattle.kp_pipeline.specs.Pipeline.{PipelineState, Inputs, hits, candidate_hits, forwarded, mismatches}

-- DEFINITIONS WITHOUT RECURSION over the stages, alongside the recursive ones.

-- Stage j is the nearest hit of a read of target t at address a in stage k: the lowest stage above k that is a
-- candidate and hits.
abbrev pub IsNearestHit : Machine → PipelineState → (reader target address writer : ℕ) → Type 0
IsNearestHit m st k t a j =
    (k < j) × (j < m.stages) × (candidate_hits m st j t a ≡ true) × ((i : ℕ) → k < i → i < j → candidate_hits m st i t a ≡ false)

abbrev pub HasNoHit : Machine → PipelineState → (reader target address : ℕ) → Type 0
HasNoHit m st k t a = (j : ℕ) → k < j → j < m.stages → candidate_hits m st j t a ≡ false

-- Stage r is the greatest stage that mismatches.
abbrev pub IsGreatestMismatch : Machine → PipelineState → Inputs → ℕ → Type 0
IsGreatestMismatch m st inputs r =
    (r < m.stages) × (mismatches m st inputs r ≡ true) × ((j : ℕ) → r < j → j < m.stages → mismatches m st inputs j ≡ false)

-- The same as a list, as a netlist selects: an entry for each candidate, the nearest first.
pub record Candidate : Type 0 where
  pub hit : Bool
  pub value : Option ℕ

-- the value of the first entry that hits, or `none` if none hits
abbrev pub select : List Candidate → Option ℕ → Option ℕ
select [] none = none
select (c ∷ cs) none = cond c.hit c.value (select cs none)

-- The d stages after stage k.
abbrev pub candidates : Machine → PipelineState → Inputs → (target address count stage : ℕ) → List Candidate
candidates m st inputs t a zero k = []
candidates m st inputs t a (suc d) k =
    record { hit = hits m st (suc k) t a; value = forwarded m st inputs (suc k) t } ∷ candidates m st inputs t a d (suc k)
