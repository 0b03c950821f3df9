-- The steps of the loops over stages and cycles.
use Rattle.std.proofs.Common.{◌≡◌, ◌∙◌, ℕ, zero, suc, ◌+◌, ◌-◌, ◌<◌, ◌≤◌, List, [], ◌∷◌, ◌++◌, Bool, nat_lt, drop, length, get_or, refl, ap, sym, arith, append_assoc}
use Rattle.std.proofs.lemmas.List.{append-nil, drop_more}
use Rattle.kp_base.specs.declared.row.Row as masks
use Rattle.kp_pipeline.{specs.Rows.Row, specs.Rows.count_after, proofs.Lists.bit-at}
use Rattle.kp_sched.specs.Rows.{bit_of, row_seen, rows_seen}
use Rattle.kp_sites.specs.Sites.{Sited}
use Rattle.kp_stalls.specs.declared.{occupants.Stage.Stage, cause.Line.Line, fate.Fate.Fate, fate.Fate.TheVariants.Open}
use Rattle.kp_stalls.specs.{Occupants.Report, Occupants.Seen, Occupants.occupants_of, Causes.lines_down}
use Rattle.kp_stalls.specs.Cycles.{fate_in, lines_from, stage_of, stages_from}
use Rattle.kp_stalls_run.specs.inner.Running.{stage_now}

-- ONE STAGE MORE.
pub stage_more : (f : ℕ → Stage) (n k : ℕ) (xs ys : List Stage) (x : Stage) → k < n → ys ≡ xs ++ x ∷ [] → x ≡ f k
    → ys ++ stages_from f (n - (k + 1)) (k + 1) ≡ xs ++ stages_from f (n - k) k
stage_more f n k xs ys x b added e =
    let one : n - k ≡ suc (n - suc k) = omega (arith, b) in
    let next : k + 1 ≡ suc k = omega arith in
    ap (λ zs. zs ++ stages_from f (n - (k + 1)) (k + 1)) added
    ∙ append_assoc xs (x ∷ []) (stages_from f (n - (k + 1)) (k + 1))
    ∙ (λ i. xs ++ e i ∷ stages_from f (n - next i) (next i))
    ∙ ap (λ d. xs ++ stages_from f d k) (sym one)

pub stages_end : (f : ℕ → Stage) (n k : ℕ) (xs all : List Stage) → n ≤ k → xs ++ stages_from f (n - k) k ≡ all → xs ≡ all
stages_end f n k xs all b e =
    let none : n - k ≡ 0 = omega (arith, b) in
    sym (ap (λ d. xs ++ stages_from f d k) none ∙ append-nil xs) ∙ e

-- WHAT THE STAGES SHOW, with their instructions.
occupants_same : (f g : ℕ → Report) (h e : ℕ → Stage) (d k : ℕ) → ((j : ℕ) → k ≤ j → j < k + d → (h j ≡ e j) × (f (h j).number ≡ g (e j).number))
    → occupants_of f (stages_from h d k) ≡ occupants_of g (stages_from e d k)
occupants_same f g h e zero k same = refl
occupants_same f g h e (suc d) k same =
    let here = same k (omega arith) (omega arith) in
    let above = occupants_same f g h e d (suc k) (λ j l b. same j (omega (arith, l)) (omega (arith, b))) in
    λ i. record { stage = here.0 i; report = here.1 i } ∷ above i

module _ (n word : ℕ) (settled : ℕ → ℕ → Bool) (numbers : List ℕ) (fates : List Fate) (r : masks.Row) (rows : List Row) (count : ℕ → ℕ)
    (counted : (k : ℕ) → k < n → get_or numbers k 0 ≡ count k)
    (fated : (k : ℕ) → k < n → get_or fates k Open ≡ fate_in n (row_seen n r ∷ rows) k) where
  shown : (k : ℕ) → k < n → stage_now word settled numbers fates r k ≡ stage_of n (bit_of word) settled count (row_seen n r) rows k
  shown k b =
      let full = sym (bit-at (bit_of r.full) n k b) in
      let moves = sym (bit-at (bit_of r.ue) n k b) in
      let number = counted k b in
      let fate = fated k b in
      λ i. record {
        full = full i;
        moves = moves i;
        squashed = nat_lt k r.back;
        held = bit_of word k;
        fate = fate i;
        settled = settled k (number i);
        number = number i;
      }

  pub occupants_shown : (f g : ℕ → Report) → ((k : ℕ) → k < n → f (count k) ≡ g (count k))
      → occupants_of f (stages_from (stage_now word settled numbers fates r) n 0) ≡ occupants_of g (stages_from (stage_of n (bit_of word) settled count (row_seen n r) rows) n 0)
  occupants_shown f g report =
      occupants_same f g (stage_now word settled numbers fates r) (stage_of n (bit_of word) settled count (row_seen n r) rows) n 0
      (λ k l b. let below : k < n = omega (arith, b) in (shown k below, ap f (counted k below) ∙ report k below))

-- ONE CYCLE MORE.
pub cycle_more : (s : Sited) (ext : ℕ → ℕ → Bool) (settled : ℕ → ℕ → ℕ → Bool) (reports : ℕ → Report) (T : ℕ) (count next : ℕ → ℕ) (r : Row) (rows : List Row)
    (occupants : List Seen) (before after all : List Line) → next ≡ count_after s.stages r count
    → after ≡ before ++ lines_down s T occupants s.stages
    → occupants ≡ occupants_of reports (stages_from (stage_of s.stages (ext T) (settled T) count r rows) s.stages 0)
    → before ++ lines_from s ext settled reports T count (r ∷ rows) ≡ all
    → after ++ lines_from s ext settled reports (T + 1) next rows ≡ all
cycle_more s ext settled reports T count next r rows occupants before after all counted added is h =
    let one : T + 1 ≡ suc T = omega arith in
    let here = lines_down s T (occupants_of reports (stages_from (stage_of s.stages (ext T) (settled T) count r rows) s.stages 0)) s.stages in
    (λ i. (added ∙ ap (λ c. before ++ lines_down s T c s.stages) is) i ++ lines_from s ext settled reports (one i) (counted i) rows)
    ∙ append_assoc before here (lines_from s ext settled reports (suc T) (count_after s.stages r count) rows)
    ∙ h

-- the rows from cycle T on
pub rows_at : (n : ℕ) (rows : List masks.Row) (T : ℕ) (d : masks.Row) → T < length rows → rows_seen n (drop T rows) ≡ row_seen n (get_or rows T d) ∷ rows_seen n (drop (T + 1) rows)
rows_at n rows T d b = ap (rows_seen n) (drop_more rows T d b)

-- The lines are the same for the same stalls from outside.
pub lines_same : (s : Sited) (e f : ℕ → ℕ → Bool) (settled : ℕ → ℕ → ℕ → Bool) (reports : ℕ → Report) (T : ℕ) (count : ℕ → ℕ) (rows : List Row)
    → ((U : ℕ) → U < length rows → e (T + U) ≡ f (T + U)) → lines_from s e settled reports T count rows ≡ lines_from s f settled reports T count rows
lines_same s e f settled reports T count [] same = refl
lines_same s e f settled reports T count (r ∷ rows) same =
    let z : T + 0 ≡ T = omega arith in
    let here : e T ≡ f T = rw z at (same 0 (omega arith)) in
    let later = lines_same s e f settled reports (suc T) (count_after s.stages r count) rows
    (λ U b. let w : T + suc U ≡ suc T + U = omega arith in rw w at (same (suc U) (omega (arith, b)))) in
    λ i. lines_down s T (occupants_of reports (stages_from (stage_of s.stages (here i) (settled T) count r rows) s.stages 0)) s.stages ++ later i
