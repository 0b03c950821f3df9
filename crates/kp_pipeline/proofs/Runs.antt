use Rattle.std.proofs.Common.{◌≡◌, ℕ, zero, suc, ◌+◌, ◌-◌, ◌<◌, ◌≤◌, Bool, true, false, cond, List, [], ◌∷◌, Option, Some, None, refl, sym, ap, ap₂, ◌∙◌, subst, ⊎_elim, arith}
use Rattle.std.specs.List.{AllByRecursion}
use Rattle.std.proofs.lemmas.Bool.{cases_Bool, cases_lt, and_from, both_ways}
use Rattle.kp_pipeline.specs.Pipeline.{Inputs, PipelineState, above, back, cycle, mismatches, next_stage, outcome, pipeline_start, some_differs, stall, start_stage, ue}
use Rattle.kp_pipeline.specs.RightPath.{HasRightGuesses, IsRightFrom, IsRightIn, KeepsRightFrom, MakesRightGuesses, Moment, NoWrongGuess, WaitsOnlyWhereItMust, WaitsWhereItMust, first_moment, held, shows_wrong, some_missing, some_shows_wrong, waits_unguessed}
use Rattle.kp_pipeline.proofs.Seeing.{Kept, RightHere, calm-at, end-calm, end-had, end-wrong, hints-kept, hold-kept, moves-at, never-early, right-kept, row-here, still-right, wait-at}
use Rattle.kp_pipeline.specs.{Machine.Machine, Sequential.instruction_before, Sequential.seq}
use Rattle.kp_pipeline.specs.{Rows.Row, Rows.bit, Rows.count_after, Rows.one_if, Rows.pipe, Rows.row, Rows.rows_from, Rows.taken, Accepted.Accepted}
use Rattle.kp_pipeline.specs.{Timeline.start_hold, SpeculativeTimeline.next_hold, SpeculativeTimeline.ready_above, SpeculativeTimeline.timeline_rows}
use Rattle.kp_pipeline.proofs.{Lists.bit-at, Pending.start-near, Cycle.greatest-above, Cycle.ue-from, Cycle.ue-parts}
use Rattle.kp_pipeline.proofs.Movement.{count-swept, kept-below, next-swept, next_count}
use Rattle.kp_pipeline.proofs.{Invariant.Inv, Invariant.Met, Invariant.RightAt, NextState.back-mismatch, Counts.AgreeBelow, Counts.counts-row}
use Rattle.kp_pipeline.proofs.Legality.{TakesAhead, inv-kept, inv-start, takes_ahead-kept, takes_ahead-met}

-- ONE CYCLE, with the counts of the rows: they are those of the invariant in the stages that there are.
module _ (m : Machine) (acc : Accepted m) (s given : ℕ → ℕ → ℕ) (st : PipelineState) (i : Inputs) (c d updates : ℕ → ℕ) (inv : Inv m s given st d updates) (met : Met m given st i d) (agree : AgreeBelow m.stages c d) where
  abbrev now : Moment
  now = record { state = st; count = c }

  tie : (k : ℕ) → k < m.stages → held (record { state = st; count = c }) k ≡ cond (st.stage k).full (Some (d k)) None
  tie k b = ap (λ (n : ℕ). cond (st.stage k).full (Some n) None) (agree k b)

  right-here : (low : ℕ) → IsRightFrom m s given (record { state = st; count = c }) i low → (j : ℕ) → low ≤ j → j < m.stages
      → RightHere m acc s given st i d updates inv met (held (record { state = st; count = c })) tie j
  right-here low path j a b =
      let p = path j a b in (
        (λ f. subst (λ (n : ℕ). AllByRecursion (IsRightIn (seq m s given n)) (st.stage j).pending) (agree j b) (p.0 f)),
        (λ f. subst (λ (n : ℕ). MakesRightGuesses (ready_above m s given (held (record { state = st; count = c })) i j).ready st.hints (seq m s given n) (m.body j i.samples (instruction_before m s given n j).pipes)) (agree j b) (p.1 f)),
      )

  kept-here : (low : ℕ) → KeepsRightFrom m s given (record { state = st; count = c }) i low → (j : ℕ) → low ≤ j → j < m.stages
      → Kept m acc s given st i d updates inv met (held (record { state = st; count = c })) tie j
  kept-here low keeps j a b =
      let p = keeps j a b in (
        (λ f. subst (λ (n : ℕ). AllByRecursion (IsRightIn (seq m s given n)) (st.stage j).pending) (agree j b) (p.0 f)),
        (λ u. subst (λ (n : ℕ). AllByRecursion (IsRightIn (seq m s given n)) (outcome m st i j).guesses) (agree j b) (p.1 u)),
      )

  full-here : (k : ℕ) → k < m.stages → bit (row m st i).full k ≡ true → (st.stage k).full ≡ true
  full-here k b f = sym (bit-at (λ j. (st.stage j).full) m.stages k b) ∙ f

  ue-here : (k : ℕ) → k < m.stages → bit (row m st i).ue k ≡ ue m st i k
  ue-here k b = bit-at (ue m st i) m.stages k b

  -- right guesses by the counts of the invariant are right by those of the rows
  right-next : (k : ℕ) → k < m.stages → RightAt m s given (cycle m st i) (next_count m st i d) k
      → HasRightGuesses m s given (record { state = cycle m st i; count = count_after m.stages (row m st i) c }) k
  right-next k b r f =
      subst (λ (n : ℕ). AllByRecursion (IsRightIn (seq m s given n)) (next_stage m st i k).pending) (sym (counts-row m st i c d agree k b)) (r f)

  right-zero : RightAt m s given (cycle m st i) (next_count m st i d) 0
  unfolding next_stage
  right-zero f = tt

  goes : (k : ℕ) → (low : ℕ) → low ≤ k → k < m.stages → IsRightFrom m s given (record { state = st; count = c }) i low → back m st i ≤ k
  goes k low a b path = calm-at m acc s given st i d updates inv met (held (record { state = st; count = c })) tie low (right-here low path) k a b

  stayed : (k : ℕ) → k < m.stages → IsRightFrom m s given (record { state = st; count = c }) i k → bit (row m st i).full k ≡ true → bit (row m st i).ue k ≡ false
      → RightAt m s given (cycle m st i) (next_count m st i d) k
  stayed zero b path f u = right-zero
  stayed (suc k) b path f u =
      right-kept m acc s given st i d updates inv met (held (record { state = st; count = c })) tie (suc k) (right-here (suc k) path) k b
      (λ v. absurd (both_ways (ue m st i k) (kept-below m st i k b held-up) v)) (λ _ _. omega arith)
    where
      held-up : stall m st i (suc k) ≡ true
      held-up =
          ⊎_elim (λ q. q)
          (λ q. absurd (both_ways (ue m st i (suc k)) (sym (ue-here (suc k) b) ∙ u) (ue-from m st i (suc k) (full-here (suc k) b f) q (goes (suc k) (suc k) (omega arith) b path))))
          (cases_Bool (stall m st i (suc k)))

  module _ (k : ℕ) (b : k < m.stages) (path : IsRightFrom m s given (record { state = st; count = c }) i (suc k)) where
    end-back : back m st i ≤ suc k
    end-back = end-calm m acc s given st i d updates inv met (held (record { state = st; count = c })) tie (suc k) (right-here (suc k) path) k b (omega arith)

    end-shows : some_differs (above m st i k).truth (st.stage k).pending ≡ shows_wrong m s given (record { state = st; count = c }) i k
    end-shows =
        end-wrong m acc s given st i d updates inv met (held (record { state = st; count = c })) tie (suc k) (right-here (suc k) path) k b (omega arith)
        ∙ ap (λ (n : ℕ). some_shows_wrong (ready_above m s given (held (record { state = st; count = c })) i k).ready (seq m s given n) (st.stage k).pending) (sym (agree k b))

    end-bounded : HasRightGuesses m s given (record { state = st; count = c }) k → (st.stage k).full ≡ true
        → waits_unguessed m s given (record { state = st; count = c }) i k ≡ false → (outcome m st i k).hazard ≡ false
    end-bounded r f n =
        end-had m acc s given st i d updates inv met (held (record { state = st; count = c })) tie (suc k) (right-here (suc k) path) k b (omega arith) f
        (λ g. subst (λ (n : ℕ). AllByRecursion (IsRightIn (seq m s given n)) (st.stage k).pending) (agree k b) (r g))
        (subst (λ (n : ℕ). some_missing (ready_above m s given (held (record { state = st; count = c })) i k).ready (seq m s given n) (m.body k i.samples (instruction_before m s given n k).pipes) ≡ false) (agree k b) n)

    end-only : back m st i ≡ suc k → shows_wrong m s given (record { state = st; count = c }) i k ≡ true
    end-only e = sym end-shows ∙ (back-mismatch m st i k e).1

    end-found : (st.stage k).full ≡ true → shows_wrong m s given (record { state = st; count = c }) i k ≡ true → back m st i ≡ suc k
    unfolding back
    end-found f w =
        ⊎_elim
        (λ (j : back m st i < suc k).
        absurd (both_ways (mismatches m st i k) (greatest-above (mismatches m st i) m.stages k (omega arith) b) (and_from (st.stage k).full _ f (end-shows ∙ w))))
        (λ (j : suc k ≤ back m st i). let x = end-back in omega arith) (cases_lt (back m st i) (suc k))

    end-right : back m st i ≡ suc k → (j : ℕ) → j < m.stages → RightAt m s given (cycle m st i) (next_count m st i d) j
    end-right e zero a = right-zero
    end-right e (suc j) a =
        right-kept m acc s given st i d updates inv met (held (record { state = st; count = c })) tie (suc k) (right-here (suc k) path) j a
        (λ u. let x = (ue-parts m st i j u).2 in omega arith) (λ _ x. omega arith)

  begins : (k : ℕ) → k < m.stages → back m st i ≡ suc k → count_after m.stages (row m st i) c 0 ≡ c k
  begins k b e =
      let j : back m st i - 1 ≡ k = omega arith in
      counts-row m st i c d agree 0 (omega arith) ∙ count-swept m st i d 0 (omega arith) ∙ ap d j ∙ sym (agree k b)

  pub waits-here : WaitsWhereItMust m s given (record { state = st; count = c }) i (row m st i)
  waits-here = record {
    moves = λ k b path. ue-here k b ∙ moves-at m acc s given st i d updates inv met (held (record { state = st; count = c })) tie k (right-here k path) k (omega arith) b;
    stays = λ k b path. goes k k (omega arith) b path;
    hazards = λ k b path f. wait-at m acc s given st i d updates inv met (held (record { state = st; count = c })) tie k (right-here k path) k (omega arith) b (full-here k b f);
    never_early = λ k b keeps u. never-early m acc s given st i d updates inv met (held (record { state = st; count = c })) tie k (kept-here k keeps) k (omega arith) b (sym (ue-here k b) ∙ u);
    bounded = λ k b path r f n. end-bounded k b path r (full-here k b f) n;
    moved = λ k b path. right-next (suc k) b (right-kept m acc s given st i d updates inv met (held (record { state = st; count = c })) tie k (right-here k path) k b (λ _. omega arith) (λ _ _. omega arith));
    kept = λ k b path f u. right-next k b (stayed k b path f u);
    ends = λ k b path. end-back k b path;
    found = λ k b path f w. end-found k b path (full-here k b f) w;
    only = λ k b path e. end-only k b path e;
    begins = λ k b e. begins k b e;
    empty = λ k j e b. next-swept m st i j (omega arith);
    right = λ k b path e j a. right-next j a (end-right k b path e j a);
  }

-- THE RUN.
waits-along : (m : Machine) (acc : Accepted m) (s given : ℕ → ℕ → ℕ) (ins : List Inputs) (st : PipelineState) (c d updates : ℕ → ℕ)
    → Inv m s given st d updates → TakesAhead m given st ins updates → AgreeBelow m.stages c d
    → WaitsOnlyWhereItMust m s given (record { state = st; count = c }) ins (rows_from m st ins)
waits-along m acc s given [] st c d updates inv ahead agree = tt
waits-along m acc s given (i ∷ is) st c d updates inv ahead agree =
    let met = takes_ahead-met m acc s given st i is d updates inv ahead in (
      waits-here m acc s given st i c d updates inv met agree,
      waits-along m acc s given is (cycle m st i) (count_after m.stages (row m st i) c) (next_count m st i d) (λ k. one_if (bit (row m st i).ue k) + updates k)
          (inv-kept m acc s given st i d updates inv met) (takes_ahead-kept m given st i is updates ahead) (counts-row m st i c d agree),
    )

-- The law.
pub waits-only : (m : Machine) (s : ℕ → ℕ → ℕ) (hints : ℕ → ℕ) (ins : List Inputs) → Accepted m
    → WaitsOnlyWhereItMust m s (taken m ins (pipe m s hints ins).rows) (first_moment s hints) ins (pipe m s hints ins).rows
waits-only m s hints ins acc =
    let given : ℕ → ℕ → ℕ = taken m ins (rows_from m (pipeline_start s hints) ins) in
    waits-along m acc s given ins (pipeline_start s hints) (λ k. 0) (λ k. 0) (λ k. 0) (inv-start m s given hints) (λ i x b. refl) (λ k b. refl)

-- AS LONG AS NO WRONG GUESS IS MADE the rows are those of the timeline.
pub rows-along : (m : Machine) (acc : Accepted m) (s given : ℕ → ℕ → ℕ) (ins : List Inputs) (st : PipelineState) (count updates : ℕ → ℕ)
    → Inv m s given st count updates → TakesAhead m given st ins updates
    → (hold : ℕ → Option ℕ) → ((k : ℕ) → k < m.stages → hold k ≡ cond (st.stage k).full (Some (count k)) None)
    → ((k : ℕ) → k < m.stages → RightAt m s given st count k)
    → NoWrongGuess m s given st.hints hold ins
    → rows_from m st ins ≡ timeline_rows m s given hold ins
rows-along m acc s given [] st count updates inv ahead hold tie pending none = refl
rows-along m acc s given (i ∷ is) st count updates inv ahead hold tie pending none =
    let met = takes_ahead-met m acc s given st i is count updates inv ahead in
    let right : (k : ℕ) → k < m.stages → RightHere m acc s given st i count updates inv met hold tie k
    = (λ k b. (pending k b, (λ f. none.0 k (count k) b (tie k b ∙ ap (λ (x : Bool). cond x (Some (count k)) None) f)))) in
    ap₂ (λ (x : Row) (y : List Row). x ∷ y) (row-here m acc s given st i count updates inv met hold tie right)
    (rows-along m acc s given is (cycle m st i) (next_count m st i count) (λ k. one_if (bit (row m st i).ue k) + updates k) (inv-kept m acc s given st i count updates inv met) (takes_ahead-kept m given st i is updates ahead)
    (next_hold m s given hold i) (hold-kept m acc s given st i count updates inv met hold tie right) (still-right m acc s given st i count updates inv met hold tie right)
    (subst (λ (h : ℕ → ℕ). NoWrongGuess m s given h (next_hold m s given hold i) is) (sym (hints-kept m acc s given st i count updates inv met hold tie right)) none.1))

pub start-tie : (k : ℕ) → start_hold k ≡ cond (start_stage k).full (Some 0) None
start-tie zero = refl
start-tie (suc k) = refl

-- The law.
pub rows-right : (m : Machine) (s : ℕ → ℕ → ℕ) (hints : ℕ → ℕ) (ins : List Inputs) → Accepted m
    → NoWrongGuess m s (taken m ins (pipe m s hints ins).rows) hints start_hold ins
    → (pipe m s hints ins).rows ≡ timeline_rows m s (taken m ins (pipe m s hints ins).rows) start_hold ins
rows-right m s hints ins acc none =
    let given : ℕ → ℕ → ℕ = taken m ins (rows_from m (pipeline_start s hints) ins) in
    rows-along m acc s given ins (pipeline_start s hints) (λ k. 0) (λ k. 0) (inv-start m s given hints) (λ i x b. refl) start_hold (λ k b. start-tie k)
    (λ k b f. start-near (λ _. IsRightIn (seq m s given 0)) k) none
