-- What the lines of a run say, cycle by cycle.
use Rattle.std.proofs.Common.{◌≡◌, ◌∙◌, ℕ, zero, suc, ◌+◌, ◌<◌, ◌≤◌, List, [], ◌∷◌, length, get_or, Option, Some, None, Bool, true, false, cond, refl, ap, sym, subst, arith}
use Rattle.std.{proofs.lemmas.List.Elements.All-append, proofs.lemmas.List.Elements.All-cons, proofs.lemmas.List.Elements.All-nil, specs.List.All}
use Rattle.kp_ast.specs.declared.tree.Job.{Job}
use Rattle.kp_pipeline.specs.{Machine.Machine, Pipeline.Inputs, Rows.Row, Rows.bit, Rows.count_after, Rows.row, Rows.rows_from}
use Rattle.kp_pipeline.{specs.RightPath.Moment, specs.RightPath.held, specs.RightPath.next_moment, proofs.Lists.bit-at}
use Rattle.kp_machine.specs.Machine.{inputs_at, inputs_from}
use Rattle.kp_sites.specs.Sites.{Sited}
use Rattle.kp_stalls.specs.declared.{cause.Cause.Cause, cause.Line.Line, occupants.Stage.Stage}
use Rattle.kp_stalls.specs.Occupants.{Report, Seen, at, occupants_of, no_stage}
use Rattle.kp_stalls.specs.{Causes.cause_at, Causes.line_of, Causes.lines_down, Claims.ShowsMoment, Claims.moment_at}
use Rattle.kp_stalls.{specs.Cycles.lines_from, specs.Cycles.stage_of, specs.Cycles.stages_from, proofs.OccupantFacts.stage_at}

-- THE STAGES of a cycle.
stage_from : (f : ℕ → Stage) (d k j : ℕ) → j < d → get_or (stages_from f d k) j no_stage ≡ f (k + j)
stage_from f zero k j b = absurd (omega (arith, b))
stage_from f (suc d) k zero b = let e : k ≡ k + 0 = omega arith in ap f e
stage_from f (suc d) k (suc j) b =
    let e : suc k + j ≡ k + suc j = omega arith in stage_from f d (suc k) j (omega (arith, b)) ∙ ap f e

stage_zero : (f : ℕ → Stage) (d j : ℕ) → j < d → get_or (stages_from f d 0) j no_stage ≡ f j
stage_zero f d j b = let e : 0 + j ≡ j = omega arith in stage_from f d 0 j b ∙ ap f e

many_from : (f : ℕ → Stage) (d k : ℕ) → length (stages_from f d k) ≡ d
many_from f zero k = refl
many_from f (suc d) k = ap (λ (n : ℕ). suc n) (many_from f d (suc k))

-- a cause is that of a full stage
full_if : (b : Bool) (x : Option Cause) (c : Cause) → cond b x None ≡ Some c → b ≡ true
full_if true x c e = refl
full_if false x c e = cc

-- what a line says of a moment, with these inputs
pub record IsRecorded (m : Machine) (s : Sited) (reports : ℕ → Report) (now : Moment) (i : Inputs) (l : Line) : Type 0 where
  pub stages : List Stage
  pub shows : ShowsMoment m now (row m now.state i) stages
  pub below : l.stage < m.stages
  pub there : held now l.stage ≡ Some l.number
  pub cause : cause_at s (occupants_of reports stages) l.stage ≡ Some l.cause

module _ (m : Machine) (s : Sited) (same : s.stages ≡ m.stages) (reports : ℕ → Report) where
  module _ (ext : ℕ → Bool) (settled : ℕ → ℕ → Bool) (now : Moment) (i : Inputs) (rows : List Row) (T : ℕ) where
    abbrev r : Row
    r = row m now.state i

    abbrev seen : ℕ → Stage
    seen = stage_of s.stages ext settled now.count r rows

    abbrev stages : List Stage
    stages = stages_from seen s.stages 0

    abbrev occupants : List Seen
    occupants = occupants_of reports stages

    seen_at : (j : ℕ) → j < m.stages → get_or stages j no_stage ≡ seen j
    seen_at j b = stage_zero seen s.stages j (omega (arith, b, same))

    full_at : (j : ℕ) → j < m.stages → bit r.full j ≡ (now.state.stage j).full
    full_at j b = bit-at (λ k. (now.state.stage k).full) m.stages j b

    shown : ShowsMoment m now r stages
    shown = record {
      row = full_at;
      full = λ j b. ap (λ (x : Stage). x.full) (seen_at j b);
      moves = λ j b. ap (λ (x : Stage). x.moves) (seen_at j b);
      number = λ j b. ap (λ (x : Stage). x.number) (seen_at j b);
      count = many_from seen s.stages 0 ∙ same;
    }

    in_crew : (k : ℕ) → k < m.stages → (at occupants k).stage ≡ seen k
    in_crew k b = stage_at reports stages k ∙ seen_at k b

    abbrev IsHere : Line → Type 0
    IsHere l = (l.cycle ≡ T) × IsRecorded m s reports now i l

    one_line : (k : ℕ) → k < m.stages → (c : Option Cause) → cause_at s occupants k ≡ c → All IsHere (line_of T occupants k c)
    one_line k b None e = All-nil IsHere
    one_line k b (Some cause) e =
        let full = full_if (at occupants k).stage.full _ cause e in
        let is_full : (now.state.stage k).full ≡ true = sym (full_at k b) ∙ sym (ap (λ (x : Stage). x.full) (in_crew k b)) ∙ full in
        let number : (at occupants k).stage.number ≡ now.count k = ap (λ (x : Stage). x.number) (in_crew k b) in
        let recorded : IsRecorded m s reports now i (record { cycle = T; number = (at occupants k).stage.number; stage = k; cause = cause }) = record {
          stages = stages;
          shows = shown;
          below = b;
          there = (λ p. cond (is_full p) (Some (now.count k)) None) ∙ ap (λ (x : ℕ). Some x) (sym number);
          cause = e;
        } in
        All-cons IsHere _ [] (refl, recorded) (All-nil IsHere)

    lines_here : (k : ℕ) → k ≤ m.stages → All IsHere (lines_down s T occupants k)
    lines_here zero b = All-nil IsHere
    lines_here (suc k) b =
        All-append IsHere (line_of T occupants k (cause_at s occupants k)) (lines_down s T occupants k)
        (one_line k (omega (arith, b)) (cause_at s occupants k) refl) (lines_here k (omega (arith, b)))

    pub lines_now : All IsHere (lines_down s T occupants s.stages)
    lines_now = lines_here s.stages (omega (arith, same))

  -- THE CYCLES of a run.
  pub record IsReportedIn (T : ℕ) (now : Moment) (ins : List Inputs) (l : Line) : Type 0 where
    pub d : ℕ
    pub i : Inputs
    pub within : d < length ins
    pub input : i ≡ get_or ins d i
    pub cycle : l.cycle ≡ T + d
    pub recorded : IsRecorded m s reports (moment_at m now ins d) i l

  module _ (ext : ℕ → ℕ → Bool) (settled : ℕ → ℕ → ℕ → Bool) where
    pub all_reported : (ins : List Inputs) (now : Moment) (T : ℕ) → All (IsReportedIn T now ins) (lines_from s ext settled reports T now.count (rows_from m now.state ins))
    all_reported [] now T = All-nil (IsReportedIn T now [])
    all_reported (i ∷ ins) now T =
        let next = next_moment m now i in
        let rest = rows_from m next.state ins in
        let above = all_reported ins next (suc T) in
        let here = lines_now (ext T) (settled T) now i rest T in
        All-append (IsReportedIn T now (i ∷ ins)) (lines_down s T (occupants (ext T) (settled T) now i rest T) s.stages)
        (lines_from s ext settled reports (suc T) (count_after s.stages (row m now.state i) now.count) rest)
        (λ k d b. first_cycle i ins now T _ (here k d b))
        (subst (λ (n : ℕ). All (IsReportedIn T now (i ∷ ins)) (lines_from s ext settled reports (suc T) (count_after n (row m now.state i) now.count) rest)) (sym same)
        (λ k d b. later_cycle i ins now T _ (above k d b)))
      where
        first_cycle : (i : Inputs) (ins : List Inputs) (now : Moment) (T : ℕ) (l : Line) → (l.cycle ≡ T) × IsRecorded m s reports now i l → IsReportedIn T now (i ∷ ins) l
        first_cycle i ins now T l (e, recorded) = record {
          d = 0;
          i = i;
          within = omega arith;
          input = refl;
          cycle = omega (arith, e);
          recorded = recorded;
        }

        later_cycle : (i : Inputs) (ins : List Inputs) (now : Moment) (T : ℕ) (l : Line) → IsReportedIn (suc T) (next_moment m now i) ins l → IsReportedIn T now (i ∷ ins) l
        later_cycle i ins now T l p = record {
          d = suc p.d;
          i = p.i;
          within = (let b = p.within in omega (arith, b));
          input = p.input;
          cycle = (let e = p.cycle in omega (arith, e));
          recorded = p.recorded;
        }

-- THE ROW of a cycle, and the inputs of a job.
pub row_at : (m : Machine) (ins : List Inputs) (now : Moment) (T : ℕ) (i : Inputs) (x : Row) → T < length ins → i ≡ get_or ins T i
    → get_or (rows_from m now.state ins) T x ≡ row m (moment_at m now ins T).state i
row_at m [] now T i x b e = absurd (omega (arith, b))
row_at m (j ∷ ins) now zero i x b e = ap (row m now.state) (sym e)
row_at m (j ∷ ins) now (suc T) i x b e = row_at m ins (next_moment m now j) T i x (omega (arith, b)) e

pub input_at : (job : Job) (c n T : ℕ) (x : Inputs) → T < n → get_or (inputs_from job c n) T x ≡ inputs_at job (c + T)
input_at job c zero T x b = absurd (omega (arith, b))
input_at job c (suc n) zero x b = let e : c ≡ c + 0 = omega arith in ap (inputs_at job) e
input_at job c (suc n) (suc T) x b =
    let e : suc c + T ≡ c + suc T = omega arith in input_at job (suc c) n T x (omega (arith, b)) ∙ ap (inputs_at job) e

pub many_inputs : (job : Job) (c n : ℕ) → length (inputs_from job c n) ≡ n
many_inputs job c zero = refl
many_inputs job c (suc n) = ap (λ (k : ℕ). suc k) (many_inputs job (suc c) n)
