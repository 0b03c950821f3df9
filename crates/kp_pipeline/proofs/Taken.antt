use Rattle.std.proofs.Common.{◌≡◌, ℕ, suc, ◌+◌, ◌<◌, ◌≤◌, true, cond, ◌&&◌, eqb, eq-eqb, List, [], ◌∷◌, ◌++◌, length, refl, ap, sym, ◌∙◌, ⊎_elim, arith}
use Rattle.std.proofs.lemmas.Bool.{cases_Bool, cond-true, cond-false, and_from, and_left, and_right, ne_eqb}
use Rattle.kp_pipeline.specs.{Machine.Machine, Pipeline.Inputs, Pipeline.PipelineState, Pipeline.cycle}
use Rattle.kp_pipeline.specs.Rows.{Row, bit, one_if, passed, row, rows_from, state_after, taken, taken_from}

-- THE SAMPLE VALUES THAT INSTRUCTIONS TAKE: laws of lists of rows, independent of any machine.

-- An instruction that hasn't left the sample's stage by the end of a cycle takes nothing in it.
pub taken-skips : (m : Machine) (updates : ℕ → ℕ) (j : Inputs) (js : List Inputs) (r : Row) (rs : List Row) (i x : ℕ)
    → one_if (bit r.ue (m.sample_stage x)) + updates (m.sample_stage x) ≤ i
    → taken_from m updates (j ∷ js) (r ∷ rs) i x ≡ taken_from m (λ k. one_if (bit r.ue k) + updates k) js rs i x
taken-skips m updates j js r rs i x b =
    cond-false (bit r.ue (m.sample_stage x) && eqb (updates (m.sample_stage x)) i) _ _
    (⊎_elim
    (λ (u : bit r.ue (m.sample_stage x) ≡ true).
    let z : one_if (bit r.ue (m.sample_stage x)) ≡ 1 = ap one_if u in
    and_right (bit r.ue (m.sample_stage x)) _ (ne_eqb (updates (m.sample_stage x)) i (λ e. absurd (omega arith))))
    (λ u. and_left (bit r.ue (m.sample_stage x)) _ u) (cases_Bool (bit r.ue (m.sample_stage x))))

-- One that left it before takes nothing any more.
taken-past : (m : Machine) (updates : ℕ → ℕ) (js : List Inputs) (rs : List Row) (i x : ℕ) → i < updates (m.sample_stage x)
    → taken_from m updates js rs i x ≡ 0
taken-past m updates [] rs i x b = refl
taken-past m updates (j ∷ js) [] i x b = refl
taken-past m updates (j ∷ js) (r ∷ rs) i x b =
    cond-false (bit r.ue (m.sample_stage x) && eqb (updates (m.sample_stage x)) i) _ _ (and_right (bit r.ue (m.sample_stage x)) _ (ne_eqb (updates (m.sample_stage x)) i (λ e. absurd (omega arith))))
    ∙ taken-past m (λ k. one_if (bit r.ue k) + updates k) js rs i x (omega arith)

-- What a run fixes, a longer run takes alike.
pub taken-longer : (m : Machine) (updates : ℕ → ℕ) (is js : List Inputs) (rs qs : List Row) → length is ≡ length rs → (i x : ℕ)
    → i < updates (m.sample_stage x) + passed rs (m.sample_stage x) (length rs)
    → taken_from m updates (is ++ js) (rs ++ qs) i x ≡ taken_from m updates is rs i x
taken-longer m updates [] js [] qs e i x b = taken-past m updates js qs i x (let z : updates (m.sample_stage x) + 0 ≡ updates (m.sample_stage x) = omega arith in omega arith)
taken-longer m updates [] js (r ∷ rs) qs e i x b = absurd (omega arith)
taken-longer m updates (j ∷ is) js [] qs e i x b = absurd (omega arith)
taken-longer m updates (j ∷ is) js (r ∷ rs) qs e i x b =
    ap (λ (n : ℕ). cond (bit r.ue (m.sample_stage x) && eqb (updates (m.sample_stage x)) i) (j.samples x) n)
    (taken-longer m (λ k. one_if (bit r.ue k) + updates k) is js rs qs (omega arith) i x (omega arith))

-- The instruction that leaves the sample's stage in a cycle takes the input of that cycle.
pub taken-here : (m : Machine) (updates : ℕ → ℕ) (is js : List Inputs) (rs qs : List Row) (j : Inputs) (r : Row) (i x : ℕ)
    → length is ≡ length rs → bit r.ue (m.sample_stage x) ≡ true
    → i ≡ updates (m.sample_stage x) + passed rs (m.sample_stage x) (length rs)
    → taken_from m updates (is ++ j ∷ js) (rs ++ r ∷ qs) i x ≡ j.samples x
taken-here m updates [] js [] qs j r i x e u n =
    cond-true (bit r.ue (m.sample_stage x) && eqb (updates (m.sample_stage x)) i) _ _
    (and_from (bit r.ue (m.sample_stage x)) _ u (eq-eqb (updates (m.sample_stage x)) i (let z : updates (m.sample_stage x) + 0 ≡ updates (m.sample_stage x) = omega arith in omega arith)))
taken-here m updates [] js (p ∷ rs) qs j r i x e u n = absurd (omega arith)
taken-here m updates (h ∷ is) js [] qs j r i x e u n = absurd (omega arith)
taken-here m updates (h ∷ is) js (p ∷ rs) qs j r i x e u n =
    taken-skips m updates h (is ++ j ∷ js) p (rs ++ r ∷ qs) i x (omega arith)
    ∙ taken-here m (λ k. one_if (bit p.ue k) + updates k) is js rs qs j r i x (omega arith) u (omega arith)

-- An instruction that hasn't left the sample's stage by the end of the run takes 0.
pub taken-never : (m : Machine) (updates : ℕ → ℕ) (is : List Inputs) (rs : List Row) (i x : ℕ) → length is ≡ length rs
    → updates (m.sample_stage x) + passed rs (m.sample_stage x) (length rs) ≤ i
    → taken_from m updates is rs i x ≡ 0
taken-never m updates [] rs i x e b = refl
taken-never m updates (j ∷ is) [] i x e b = refl
taken-never m updates (j ∷ is) (r ∷ rs) i x e b =
    taken-skips m updates j is r rs i x (omega arith) ∙ taken-never m (λ k. one_if (bit r.ue k) + updates k) is rs i x (omega arith) (omega arith)

-- There is a row for each cycle, and the rows of a shorter run are a prefix of those of a longer one.
pub rows-length : (m : Machine) (st : PipelineState) (ins : List Inputs) → length (rows_from m st ins) ≡ length ins
rows-length m st [] = refl
rows-length m st (i ∷ ins) = ap suc (rows-length m (cycle m st i) ins)

pub rows-longer : (m : Machine) (st : PipelineState) (ins more : List Inputs)
    → rows_from m st (ins ++ more) ≡ rows_from m st ins ++ rows_from m (state_after m st ins (length ins)) more
rows-longer m st [] more = refl
rows-longer m st (i ∷ ins) more = ap (λ (rows : List Row). row m st i ∷ rows) (rows-longer m (cycle m st i) ins more)

-- So what instructions take in a run of the pipeline agrees with a longer run.
pub taken-of_run : (m : Machine) (st : PipelineState) (ins more : List Inputs) (i x : ℕ)
    → i < passed (rows_from m st ins) (m.sample_stage x) (length ins)
    → taken m (ins ++ more) (rows_from m st (ins ++ more)) i x ≡ taken m ins (rows_from m st ins) i x
taken-of_run m st ins more i x b =
    ap (λ (rows : List Row). taken m (ins ++ more) rows i x) (rows-longer m st ins more)
    ∙ taken-longer m (λ k. 0) ins more (rows_from m st ins) (rows_from m (state_after m st ins (length ins)) more) (sym (rows-length m st ins)) i x
    (rw (rows-length m st ins) (omega arith))
