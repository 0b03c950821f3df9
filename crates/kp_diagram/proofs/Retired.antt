use Rattle.std.proofs.Common.{◌≡◌, ℕ, zero, suc, ◌+◌, ◌-◌, ◌<◌, ◌≤◌, Bool, true, false, cond, not, ◌&&◌, ◌||◌, eqb, List, [], ◌∷◌, length, Option, Some, None, refl, sym, ap, ap₂, ◌∙◌, ⊎_elim, arith, eq-eqb}
use Rattle.std.specs.List.{AllByRecursion}
use Rattle.std.proofs.lemmas.Bool.{cases_Bool, cases_lt, both_ways, false≢true, false_from_ne_true, ne_eqb, cond-true, cond-false, and_from, and_left, and_right, or_left}
use Rattle.kp_pipeline.specs.{Machine.Machine, Sequential.PendingGuess}
use Rattle.kp_pipeline.specs.Pipeline.{Inputs, PipelineState, above, back, cycle, next_stage, pipeline_start, some_differs, stall, ue}
use Rattle.kp_pipeline.specs.{Rows.bit, Rows.count_after, Rows.one_if, Rows.passed, Rows.pipe, Rows.row, Rows.rows_from, Accepted.Accepted, Claims.StandsBefore}
use Rattle.kp_pipeline.proofs.{Lists.bit-at, Cycle.stall-is, Cycle.ue-parts}
use Rattle.kp_pipeline.proofs.Movement.{count-moved, count-one, count-stays, kept-below, kept-full, next-moved, next-none, next-swept, next_count}
use Rattle.kp_pipeline.proofs.{Invariant.Shape, NextState.back-mismatch, Pending.shape-kept, Pending.shape-start, Counts.AgreeBelow, Counts.counts-row}
use Rattle.kp_diagram.specs.Diagram.{cells_from, diagram, does_move, fetches_from, fetches_next, mark, next_place, retired_numbers, retires}
use Rattle.kp_diagram.specs.Claims.{numbers_from}
use Rattle.kp_diagram.proofs.Steps.{by-fate, fetches-moved, fetches-none, fetches-swept, moves-mark, place-moves, place-stays, place-swept}
use Rattle.kp_diagram.proofs.Cells.{cells-none, first-full}

-- RETIRED INSTRUCTIONS have the numbers 0, 1, 2 and so on, in the order of the lines.

-- The numbers of those that retire, of the stages below k, the highest first, and what comes after them.
abbrev pub standing : (ℕ → Bool) → (ℕ → ℕ) → (ℕ → Bool) → List ℕ → ℕ → List ℕ
standing full count leaves after zero = after
standing full count leaves after (suc k) =
    cond (full k && leaves k) (count k ∷ standing full count leaves after k) (standing full count leaves after k)

standing-none : (full : ℕ → Bool) (count : ℕ → ℕ) (leaves : ℕ → Bool) (after : List ℕ) → ((k : ℕ) → leaves k ≡ false) → (n : ℕ)
    → standing full count leaves after n ≡ after
standing-none full count leaves after h zero = refl
standing-none full count leaves after h (suc k) =
    cond-false (full k && leaves k) _ _ (and_right (full k) (leaves k) (h k)) ∙ standing-none full count leaves after h k

-- the last stage isn't squashed
below-top : (m : Machine) (acc : Accepted m) (view : ℕ → ℕ → Option ℕ) (r : ℕ) (xs : List PendingGuess) → some_differs view xs ≡ true
    → AllByRecursion (StandsBefore m r) xs → suc r < m.stages
below-top m acc view r [] e h = absurd (false≢true e)
below-top m acc view r (x ∷ xs) e h =
    let a : r < m.write_stage x.register = h.0.1 in
    let b : m.write_stage x.register < m.stages = acc.writes x.register h.0.0 in
    omega arith

pub back-top : (m : Machine) (acc : Accepted m) (st : PipelineState) (i : Inputs) (d : ℕ → ℕ) → Shape m st d → back m st i < m.stages
back-top m acc st i d shape =
    ⊎_elim (λ (q : 0 < back m st i). some (back m st i - 1) (omega arith))
    (λ (q : back m st i ≤ 0). let x = acc.some_stages in omega arith) (cases_lt 0 (back m st i))
  where
    some : (r : ℕ) → back m st i ≡ suc r → back m st i < m.stages
    some r e =
        let p = back-mismatch m st i r e in
        let x = below-top m acc (above m st i r).truth r (st.stage r).pending p.1 (shape.between r p.2) in
        omega arith

module _ (m : Machine) (acc : Accepted m) (ext : ℕ → ℕ → Bool) where
  -- Does the instruction in stage k retire?
  abbrev pub leaves : PipelineState → List Inputs → ℕ → ℕ → Bool
  leaves st ins T k = retires m.stages (cells_from m.stages ext T (rows_from m st ins) (Some k))

  abbrev leaves_from : PipelineState → List Inputs → ℕ → Option ℕ → Bool
  leaves_from st ins T place = retires m.stages (cells_from m.stages ext T (rows_from m st ins) place)

  leaves-none : (st : PipelineState) (ins : List Inputs) (T : ℕ) (place : Option ℕ) → place ≡ None → leaves_from st ins T place ≡ false
  leaves-none st ins T place p = rw (p, cells-none m.stages ext T (rows_from m st ins)) refl

  module _ (st : PipelineState) (i : Inputs) (ins : List Inputs) (T : ℕ) where
    -- what the first cell says, and the rest
    leaves-rest : (k : ℕ) → (eqb (suc k) m.stages && does_move (mark (ext T) (row m st i) k)) ≡ false
        → leaves st (i ∷ ins) T k ≡ leaves_from (cycle m st i) ins (suc T) (next_place m.stages (row m st i) k)
    leaves-rest k e = ap (λ (b : Bool). b || leaves_from (cycle m st i) ins (suc T) (next_place m.stages (row m st i) k)) e

    leaves-resting : (k : ℕ) → k < m.stages → ue m st i k ≡ false
        → leaves st (i ∷ ins) T k ≡ leaves_from (cycle m st i) ins (suc T) (next_place m.stages (row m st i) k)
    leaves-resting k b u = leaves-rest k (and_right (eqb (suc k) m.stages) _ (moves-mark m st i (ext T) k b ∙ u))

    leaves-swept : (k : ℕ) → k < m.stages → k < back m st i → ue m st i k ≡ false → leaves st (i ∷ ins) T k ≡ false
    leaves-swept k b q u =
        leaves-resting k b u ∙ leaves-none (cycle m st i) ins (suc T) (next_place m.stages (row m st i) k) (place-swept m st i k q)

    leaves-waits : (k : ℕ) → k < m.stages → back m st i ≤ k → ue m st i k ≡ false
        → leaves st (i ∷ ins) T k ≡ leaves (cycle m st i) ins (suc T) k
    leaves-waits k b q u =
        leaves-resting k b u ∙ ap (λ (p : Option ℕ). leaves_from (cycle m st i) ins (suc T) p) (place-stays m st i k b q u)

    leaves-moves : (k : ℕ) → suc k < m.stages → ue m st i k ≡ true
        → leaves st (i ∷ ins) T k ≡ leaves (cycle m st i) ins (suc T) (suc k)
    leaves-moves k b u =
        leaves-rest k (and_left (eqb (suc k) m.stages) _ (ne_eqb (suc k) m.stages (λ e. absurd (omega arith))))
        ∙ ap (λ (p : Option ℕ). leaves_from (cycle m st i) ins (suc T) p) (place-moves m st i k b u)

    leaves-last : (k : ℕ) → suc k ≡ m.stages → ue m st i k ≡ true → leaves st (i ∷ ins) T k ≡ true
    leaves-last k b u =
        or_left (eqb (suc k) m.stages && does_move (mark (ext T) (row m st i) k)) _
        (and_from (eqb (suc k) m.stages) _ (eq-eqb (suc k) m.stages b) (moves-mark m st i (ext T) k (omega arith) ∙ u))

    module _ (d : ℕ → ℕ) (shape : Shape m st d) (after : List ℕ) where
      -- the instructions that stand in the stages below k before the cycle, and after it without a new one
      abbrev before : ℕ → List ℕ
      before k = standing (λ j. (st.stage j).full) d (leaves st (i ∷ ins) T) after k

      abbrev pub is_old : ℕ → Bool
      is_old zero = not (fetches_next (row m st i))
      is_old (suc k) = (next_stage m st i (suc k)).full

      abbrev pub behind : ℕ → List ℕ
      behind k = standing is_old (next_count m st i d) (leaves (cycle m st i) ins (suc T)) after k

      -- something moves into stage k
      abbrev came : ℕ → Bool
      came zero = false
      came (suc k) = ue m st i k

      abbrev Step : ℕ → Type 0
      Step k = before k ≡ cond (came k) (behind (suc k)) (behind k)

      not-old : (k : ℕ) → is_old k ≡ false → behind (suc k) ≡ behind k
      not-old k o = cond-false (is_old k && leaves (cycle m st i) ins (suc T) k) _ _ (and_left (is_old k) _ o)

      one-stage : 1 ≤ m.stages
      one-stage = acc.some_stages

      -- where the instruction of stage k moves on, the stages below it have theirs moved up to k
      mover : (k : ℕ) → k < m.stages → ue m st i k ≡ true → Step k → before k ≡ behind (suc k)
      mover zero b u h = h ∙ sym (not-old 0 (ap not (fetches-moved m st i one-stage u)))
      mover (suc k) b u h = ⊎_elim
          (λ v. h ∙ cond-true (ue m st i k) _ _ v)
          (λ v. h ∙ cond-false (ue m st i k) _ _ v ∙ sym (not-old (suc k) (next-none m st i k v (ue-parts m st i (suc k) u).1)))
          (cases_Bool (ue m st i k))

      -- nothing moves into a squashed stage, nor into one that waits
      no-came-swept : (k : ℕ) → k < back m st i → came k ≡ false
      no-came-swept zero q = refl
      no-came-swept (suc k) q = false_from_ne_true (ue m st i k) (λ u. let x = (ue-parts m st i k u).2 in absurd (omega arith))

      no-came-waits : (k : ℕ) → k < m.stages → stall m st i k ≡ true → came k ≡ false
      no-came-waits zero b s = refl
      no-came-waits (suc k) b s = kept-below m st i k b s

      uncame : (k : ℕ) → came k ≡ false → Step k → before k ≡ behind k
      uncame k c h = h ∙ cond-false (came k) _ _ c

      old-swept : (k : ℕ) → k < back m st i → is_old k ≡ false
      old-swept zero q = ap not (fetches-swept m st i q)
      old-swept (suc k) q = next-swept m st i k q

      old-waits : (k : ℕ) → k < m.stages → back m st i ≤ k → stall m st i k ≡ true → ue m st i k ≡ false → is_old k ≡ true
      old-waits zero b q s u = ap not (fetches-none m st i one-stage q u)
      old-waits (suc k) b q s u = kept-full m st i (suc k) q s

      empty-here : (k : ℕ) → (st.stage k).full ≡ false → Step k → before k ≡ behind (suc k)
      empty-here zero f h = absurd (both_ways (st.stage 0).full f (first-full m st d shape))
      empty-here (suc k) f h = ⊎_elim
          (λ v. h ∙ cond-true (ue m st i k) _ _ v)
          (λ v. h ∙ cond-false (ue m st i k) _ _ v ∙ sym (not-old (suc k) (next-none m st i k v (stall-is m st i (suc k) ∙ and_left (st.stage (suc k)).full _ f))))
          (cases_Bool (ue m st i k))

      -- a stage that doesn't move its instruction on
      keeps : (k : ℕ) → k < m.stages → ue m st i k ≡ false → Step k → before (suc k) ≡ behind (suc k)
      keeps k b v h = by-fate m st i k
          (λ q u. cond-false ((st.stage k).full && leaves st (i ∷ ins) T k) _ _ (and_right (st.stage k).full _ (leaves-swept k b q u))
          ∙ uncame k (no-came-swept k q) h ∙ sym (not-old k (old-swept k q)))
          (λ u. absurd (both_ways (ue m st i k) v u))
          (λ f s q u. same (f ∙ sym (old-waits k b q s u)) (leaves-waits k b q u) (sym (count-stays m st i d k q u)) (uncame k (no-came-waits k b s) h))
          (λ f q u. cond-false ((st.stage k).full && leaves st (i ∷ ins) T k) _ _ (and_left (st.stage k).full _ f) ∙ empty-here k f h)
        where
          same : (st.stage k).full ≡ is_old k → leaves st (i ∷ ins) T k ≡ leaves (cycle m st i) ins (suc T) k
              → d k ≡ next_count m st i d k → before k ≡ behind k → before (suc k) ≡ behind (suc k)
          same f l n r =
              ap₂ (λ (x : Bool) (y : List ℕ). cond x (d k ∷ y) y) (ap₂ (λ (x y : Bool). x && y) f l) r
              ∙ ap (λ (x : ℕ). cond (is_old k && leaves (cycle m st i) ins (suc T) k) (x ∷ behind k) (behind k)) n

      moved-up : (k : ℕ) → suc k < m.stages → ue m st i k ≡ true → before k ≡ behind (suc k) → before (suc k) ≡ behind (suc (suc k))
      moved-up k b u r =
          ap₂ (λ (x : Bool) (y : List ℕ). cond x (d k ∷ y) y)
          (ap₂ (λ (x y : Bool). x && y) ((ue-parts m st i k u).0 ∙ sym (next-moved m st i k u)) (leaves-moves k b u)) r
          ∙ ap (λ (x : ℕ). cond (is_old (suc k) && leaves (cycle m st i) ins (suc T) (suc k)) (x ∷ behind (suc k)) (behind (suc k)))
          (sym (count-moved m st i d shape.chain k b u))

      step : (k : ℕ) → k < m.stages → Step k
      step zero b = refl
      step (suc k) b =
          let h = step k (omega arith) in
          ⊎_elim
          (λ u. moved-up k b u (mover k (omega arith) u h) ∙ sym (cond-true (ue m st i k) (behind (suc (suc k))) (behind (suc k)) u))
          (λ u. keeps k (omega arith) u h ∙ sym (cond-false (ue m st i k) (behind (suc (suc k))) (behind (suc k)) u))
          (cases_Bool (ue m st i k))

      -- all stages: the last one retires its instruction, or nothing does
      pub top-moves : (last : ℕ) → suc last ≡ m.stages → ue m st i last ≡ true → before (suc last) ≡ d last ∷ behind (suc last)
      top-moves last e u =
          cond-true ((st.stage last).full && leaves st (i ∷ ins) T last) _ _
          (and_from (st.stage last).full _ (ue-parts m st i last u).0 (leaves-last last e u))
          ∙ ap (λ (x : List ℕ). d last ∷ x) (mover last (omega arith) u (step last (omega arith)))

      pub top-rests : (last : ℕ) → suc last ≡ m.stages → ue m st i last ≡ false → before (suc last) ≡ behind (suc last)
      top-rests last e u = keeps last (omega arith) u (step last (omega arith))

  -- the numbers of those that enter after the first cycle and retire
  abbrev pub entering : PipelineState → (ℕ → ℕ) → List Inputs → ℕ → List ℕ
  entering st c [] T = []
  entering st c (i ∷ ins) T =
      retired_numbers m.stages (fetches_from m.stages ext (suc T) (count_after m.stages (row m st i) c) (fetches_next (row m st i)) (rows_from m (cycle m st i) ins))

  -- one that enters is in stage 0
  entered : (enters : Bool) (st : PipelineState) (c : ℕ → ℕ) (ins : List Inputs) (T : ℕ)
      → retired_numbers m.stages (fetches_from m.stages ext T c enters (rows_from m st ins))
      ≡ cond enters (cond (leaves st ins T 0) (c 0 ∷ entering st c ins T) (entering st c ins T)) (entering st c ins T)
  entered true st c [] T = refl
  entered false st c [] T = refl
  entered true st c (i ∷ ins) T = refl
  entered false st c (i ∷ ins) T = refl

  module _ (st : PipelineState) (i : Inputs) (ins : List Inputs) (T : ℕ) (c d : ℕ → ℕ) (shape : Shape m st d) (same : AgreeBelow m.stages c d) where
    -- with a new one in stage 0, those after the cycle are those in the stages then
    abbrev c' : ℕ → ℕ
    c' = count_after m.stages (row m st i) c

    abbrev standing_next : ℕ → List ℕ
    standing_next k =
        standing (λ j. (next_stage m st i j).full) (next_count m st i d) (leaves (cycle m st i) ins (suc T)) (entering (cycle m st i) c' ins (suc T)) k

    abbrev behind_all : ℕ → List ℕ
    behind_all k = behind st i ins T d shape (entering st c (i ∷ ins) T) k

    first-after : (next_stage m st i 0).full ≡ true
    first-after = first-full m (cycle m st i) (next_count m st i d) (shape-kept m acc st i d shape)

    with-new-first : (enters : Bool) → fetches_next (row m st i) ≡ enters → behind_all 1 ≡ standing_next 1
    with-new-first true e =
        cond-false (not (fetches_next (row m st i)) && leaves (cycle m st i) ins (suc T) 0) _ _ (and_left (not (fetches_next (row m st i))) _ (ap not e))
        ∙ entered (fetches_next (row m st i)) (cycle m st i) c' ins (suc T) ∙ cond-true (fetches_next (row m st i)) _ _ e
        ∙ ap (λ (x : ℕ). cond (leaves (cycle m st i) ins (suc T) 0) (x ∷ entering (cycle m st i) c' ins (suc T)) (entering (cycle m st i) c' ins (suc T))) (counts-row m st i c d same 0 acc.some_stages)
        ∙ ap (λ (b : Bool). cond (b && leaves (cycle m st i) ins (suc T) 0) (next_count m st i d 0 ∷ entering (cycle m st i) c' ins (suc T)) (entering (cycle m st i) c' ins (suc T))) (sym first-after)
    with-new-first false e =
        ap₂ (λ (b : Bool) (y : List ℕ). cond (b && leaves (cycle m st i) ins (suc T) 0) (next_count m st i d 0 ∷ y) y)
        (ap not e ∙ sym first-after)
        (entered (fetches_next (row m st i)) (cycle m st i) c' ins (suc T) ∙ cond-false (fetches_next (row m st i)) _ _ e)

    pub with-new : (k : ℕ) → behind_all (suc k) ≡ standing_next (suc k)
    with-new zero = with-new-first (fetches_next (row m st i)) refl
    with-new (suc k) =
        ap (λ (y : List ℕ). cond ((next_stage m st i (suc k)).full && leaves (cycle m st i) ins (suc T) (suc k)) (next_count m st i d (suc k) ∷ y) y) (with-new k)

  -- THE INDUCTION over the cycles.
  pub in-order : (last : ℕ) → suc last ≡ m.stages → (ins : List Inputs) (st : PipelineState) (T : ℕ) (c d : ℕ → ℕ)
      → Shape m st d → AgreeBelow m.stages c d
      → standing (λ j. (st.stage j).full) d (leaves st ins T) (entering st c ins T) (suc last)
      ≡ numbers_from (d last) (passed (rows_from m st ins) last (length (rows_from m st ins)))
  in-order last e [] st T c d shape same = standing-none (λ j. (st.stage j).full) d (leaves st [] T) [] (λ k. refl) (suc last)
  in-order last e (i ∷ ins) st T c d shape same =
      let ih = in-order last e ins (cycle m st i) (suc T) (count_after m.stages (row m st i) c) (next_count m st i d) (shape-kept m acc st i d shape) (counts-row m st i c d same) in
      let new = with-new st i ins T c d shape same last in
      let bound = back-top m acc st i d shape in
      let bits = bit-at (ue m st i) m.stages last (omega arith) in
      ⊎_elim
      (λ u.
      let more : one_if (bit (row m st i).ue last) ≡ 1 = ap one_if (bits ∙ u) in
      let total : one_if (bit (row m st i).ue last) + passed (rows_from m (cycle m st i) ins) last (length (rows_from m (cycle m st i) ins)) ≡ suc (passed (rows_from m (cycle m st i) ins) last (length (rows_from m (cycle m st i) ins))) = omega arith in
      let one : next_count m st i d last ≡ suc (d last) = count-one m st i d shape.chain last (omega arith) u in
      top-moves st i ins T d shape (entering st c (i ∷ ins) T) last e u
      ∙ ap (λ (x : List ℕ). d last ∷ x) (new ∙ ih ∙ ap (λ (x : ℕ). numbers_from x (passed (rows_from m (cycle m st i) ins) last (length (rows_from m (cycle m st i) ins)))) one)
      ∙ ap (λ (x : ℕ). numbers_from (d last) x) (sym total))
      (λ u.
      let none : one_if (bit (row m st i).ue last) ≡ 0 = ap one_if (bits ∙ u) in
      let total : one_if (bit (row m st i).ue last) + passed (rows_from m (cycle m st i) ins) last (length (rows_from m (cycle m st i) ins)) ≡ passed (rows_from m (cycle m st i) ins) last (length (rows_from m (cycle m st i) ins)) = omega arith in
      let kept : next_count m st i d last ≡ d last = count-stays m st i d last (omega arith) u in
      top-rests st i ins T d shape (entering st c (i ∷ ins) T) last e u
      ∙ new ∙ ih
      ∙ ap₂ (λ (x y : ℕ). numbers_from x y) kept (sym total))
      (cases_Bool (ue m st i last))

  -- At the start only stage 0 is full.
  start-standing : (count : ℕ → ℕ) (gone : ℕ → Bool) (s : ℕ → ℕ → ℕ) (hints : ℕ → ℕ) (after : List ℕ) (k : ℕ)
      → standing (λ j. ((pipeline_start s hints).stage j).full) count gone after (suc k) ≡ cond (gone 0) (count 0 ∷ after) after
  start-standing count gone s hints after zero = refl
  start-standing count gone s hints after (suc k) = start-standing count gone s hints after k

  pub retired-in_order : (s : ℕ → ℕ → ℕ) (hints : ℕ → ℕ) (ins : List Inputs) (last : ℕ) → suc last ≡ m.stages
      → retired_numbers m.stages (diagram m.stages ext (pipe m s hints ins).rows)
      ≡ numbers_from 0 (passed (pipe m s hints ins).rows last (length (pipe m s hints ins).rows))
  retired-in_order s hints ins last e =
      entered true (pipeline_start s hints) (λ k. 0) ins 0
      ∙ sym (start-standing (λ k. 0) (leaves (pipeline_start s hints) ins 0) s hints (entering (pipeline_start s hints) (λ k. 0) ins 0) last)
      ∙ in-order last e ins (pipeline_start s hints) 0 (λ k. 0) (λ k. 0) (shape-start m s hints) (λ k b. refl)
