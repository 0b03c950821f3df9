-- The occupant of a stage, and what is reported of it.
use Rattle.std.proofs.Common.{◌≡◌, ◌∙◌, ℕ, zero, suc, ◌<◌, List, [], ◌∷◌, length, get_or, refl, ap, sym, arith, ◌≤◌}
use Rattle.std.proofs.lemmas.List.{get_or_default, get_or_past, length-map}
use Rattle.kp_stalls.specs.{declared.occupants.Stage.Stage, Occupants.Report, Occupants.at, Occupants.occupants_of, Occupants.no_stage}

pub stage_at : (reports : ℕ → Report) (stages : List Stage) (j : ℕ) → (at (occupants_of reports stages) j).stage ≡ get_or stages j no_stage
stage_at reports [] j = refl
stage_at reports (s ∷ stages) zero = refl
stage_at reports (s ∷ stages) (suc j) = stage_at reports stages j

pub report_at : (reports : ℕ → Report) (stages : List Stage) (j : ℕ) (d : Stage) → j < length stages → (at (occupants_of reports stages) j).report ≡ reports (get_or stages j d).number
report_at reports [] j d b = absurd (omega (arith, b))
report_at reports (s ∷ stages) zero d b = refl
report_at reports (s ∷ stages) (suc j) d b = report_at reports stages j d (omega (arith, b))

pub count_at : (reports : ℕ → Report) (stages : List Stage) → length (occupants_of reports stages) ≡ length stages
count_at reports stages = length-map stages (λ (s : Stage). record { stage = s; report = reports s.number })

-- the same as the code looks them up
pub stage_there : (reports : ℕ → Report) (stages : List Stage) (j : ℕ) (d : Stage) → j < length stages → get_or stages j d ≡ (at (occupants_of reports stages) j).stage
stage_there reports stages j d b = get_or_default stages j d no_stage b ∙ sym (stage_at reports stages j)

pub stage_past : (reports : ℕ → Report) (stages : List Stage) (j : ℕ) → length stages ≤ j → no_stage ≡ (at (occupants_of reports stages) j).stage
stage_past reports stages j b = sym (stage_at reports stages j ∙ get_or_past stages j no_stage b)

pub as_many : (reports : ℕ → Report) (stages : List Stage) (j : ℕ) → j < length (occupants_of reports stages) → j < length stages
as_many reports stages j b = let e = count_at reports stages in omega (arith, e, b)

pub report_by : (reports : ℕ → Report) (stages : List Stage) (j n : ℕ) → j < length (occupants_of reports stages) → n ≡ (at (occupants_of reports stages) j).stage.number
    → reports n ≡ (at (occupants_of reports stages) j).report
report_by reports stages j n b e =
    ap reports (e ∙ ap (λ (s : Stage). s.number) (stage_at reports stages j)) ∙ sym (report_at reports stages j no_stage (as_many reports stages j b))
