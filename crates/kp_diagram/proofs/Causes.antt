use Rattle.std.proofs.Common.{◌≡◌, ℕ, zero, suc, ◌+◌, ◌-◌, ◌<◌, ◌≤◌, Bool, true, false, cond, List, [], ◌∷◌, length, get_or, Option, Some, None, refl, sym, ap, ◌∙◌, subst, ⊎_elim, arith}
use Rattle.std.proofs.lemmas.Bool.{cases_Bool, cases_eq, both_ways, cond-true, cond-false, false_from_ne_true}
use Rattle.kp_pipeline.specs.Machine.{Machine}
use Rattle.kp_pipeline.specs.Pipeline.{Inputs, PipelineState, above, back, cycle, next_stage, pipeline_start, stall, ue}
use Rattle.kp_pipeline.specs.{Rows.Row, Rows.bit, Rows.pipe, Rows.row, Rows.rows_from, Rows.state_after, Accepted.Accepted}
use Rattle.kp_pipeline.proofs.{Cycle.stall-above, Cycle.stall-top, Movement.kept-full, Movement.next-moved, Pending.shape-start, Counts.shape-along}
use Rattle.kp_diagram.specs.Diagram.{Account, Loss, Filling, DataHazard, WrongGuess, Outside, Mark, WaitsForValue, Held, Squashed, account_from, and_cycle, is_squashed, loss_of_wait, losses_after, lost_to, spent, spent_from}
use Rattle.kp_diagram.specs.Claims.{Counts, IsCausedBy, IsEmpty, IsFilling, IsLostTo, IsReason, IsSpentFor, input_at, stalls_of}
use Rattle.kp_diagram.proofs.Steps.{by-fate, full-bit, hazard-left, not-swept, swept, ue-bit}
use Rattle.kp_diagram.proofs.{Cells.StallsFrom, Cells.first-full, Cells.stalls-here, Cells.stalls-next, Retired.back-top}

-- EACH CYCLE IS COUNTED UNDER ITS CAUSE.

-- the state after one cycle more
state-next : (m : Machine) (ins : List Inputs) (st : PipelineState) (T : ℕ) → T < length ins
    → state_after m st ins (suc T) ≡ cycle m (state_after m st ins T) (input_at ins T)
state-next m [] st T b = absurd (omega arith)
state-next m (i ∷ []) st zero b = refl
state-next m (i ∷ (j ∷ ins)) st zero b = refl
state-next m (i ∷ ins) st (suc T) b = state-next m ins (cycle m st i) T (omega arith)

-- the losses before cycle T
abbrev losses_along : Machine → PipelineState → List Inputs → (ℕ → Loss) → ℕ → ℕ → Loss
losses_along m st ins loss zero = loss
losses_along m st [] loss (suc T) = loss
losses_along m st (i ∷ ins) loss (suc T) = losses_along m (cycle m st i) ins (losses_after i.ext (row m st i) loss) T

losses-next : (m : Machine) (ins : List Inputs) (st : PipelineState) (loss : ℕ → Loss) (T : ℕ) → T < length ins
    → losses_along m st ins loss (suc T)
    ≡ losses_after (input_at ins T).ext (row m (state_after m st ins T) (input_at ins T)) (losses_along m st ins loss T)
losses-next m [] st loss T b = absurd (omega arith)
losses-next m (i ∷ []) st loss zero b = refl
losses-next m (i ∷ (j ∷ ins)) st loss zero b = refl
losses-next m (i ∷ ins) st loss (suc T) b =
    losses-next m ins (cycle m st i) (losses_after i.ext (row m st i) loss) T (omega arith)

-- the entry of a cycle
spent-at : (m : Machine) (ext : ℕ → ℕ → Bool) (last : ℕ) (ins : List Inputs) (st : PipelineState) (U : ℕ) (loss : ℕ → Loss) (T : ℕ)
    → StallsFrom ext U ins → T < length ins
    → get_or (spent_from last ext U loss (rows_from m st ins)) T None
    ≡ lost_to last (input_at ins T).ext (row m (state_after m st ins T) (input_at ins T)) (losses_along m st ins loss T)
spent-at m ext last [] st U loss T h b = absurd (omega arith)
spent-at m ext last (i ∷ ins) st U loss zero h b =
    ap (λ (e : ℕ → Bool). lost_to last e (row m st i) loss) (stalls-here ext U i ins h)
spent-at m ext last (i ∷ ins) st U loss (suc T) h b =
    spent-at m ext last ins (cycle m st i) (suc U) (losses_after (ext U) (row m st i) loss) T (stalls-next ext U i ins h) (omega arith)
    ∙ ap (λ (e : ℕ → Bool). lost_to last (input_at ins T).ext (row m (state_after m (cycle m st i) ins T) (input_at ins T))
    (losses_along m (cycle m st i) ins (losses_after e (row m st i) loss) T)) (stalls-here ext U i ins h)

-- WHAT A CYCLE MAKES of the losses.
after-swept : (m : Machine) (st : PipelineState) (i : Inputs) (loss : ℕ → Loss) (k : ℕ) → k < back m st i
    → losses_after i.ext (row m st i) loss (suc k) ≡ WrongGuess
after-swept m st i loss k q = cond-true (is_squashed (row m st i) k) _ _ (swept m st i k q)

after-waits : (m : Machine) (st : PipelineState) (i : Inputs) (loss : ℕ → Loss) (k : ℕ) → k < m.stages → back m st i ≤ k
    → (st.stage k).full ≡ true → losses_after i.ext (row m st i) loss (suc k) ≡ loss_of_wait i.ext k
after-waits m st i loss k b q f =
    cond-false (is_squashed (row m st i) k) _ _ (not-swept m st i k q)
    ∙ cond-true (bit (row m st i).full k) _ _ (full-bit m st i k b ∙ f)

after-empty : (m : Machine) (st : PipelineState) (i : Inputs) (loss : ℕ → Loss) (k : ℕ) → k < m.stages → back m st i ≤ k
    → (st.stage k).full ≡ false → losses_after i.ext (row m st i) loss (suc k) ≡ loss k
after-empty m st i loss k b q f =
    cond-false (is_squashed (row m st i) k) _ _ (not-swept m st i k q)
    ∙ cond-false (bit (row m st i).full k) _ _ (full-bit m st i k b ∙ f)

module _ (m : Machine) (acc : Accepted m) (s : ℕ → ℕ → ℕ) (hints : ℕ → ℕ) (ins : List Inputs) where
  abbrev start : PipelineState
  start = pipeline_start s hints

  abbrev at : ℕ → PipelineState
  at T = state_after m start ins T

  abbrev input : ℕ → Inputs
  input T = input_at ins T

  abbrev loss_at : ℕ → ℕ → Loss
  loss_at T k = losses_along m start ins (λ j. Filling) T k

  first : (T : ℕ) → ((at T).stage 0).full ≡ true
  first T =
      let x = shape-along m acc ins start (λ k. 0) (λ k. 0) (shape-start m s hints) (λ k b. refl) T in
      first-full m (at T) x.0 x.1.0

  -- a cause in the stage itself
  here : (T k : ℕ) (mark : Mark) → IsReason m (at T) (input T) k mark → IsCausedBy m start ins T k mark
  here T k mark r = record {
    cycle = T;
    stage = k;
    below = omega arith;
    since = refl;
    reason = r;
    empty = λ d p q. absurd (omega arith);
    kept = λ d p q. absurd (omega arith);
  }

  -- a cause in the stage below, in the cycle before
  below-here : (T k : ℕ) (mark : Mark) → IsReason m (at T) (input T) k mark → IsEmpty m start ins (suc T) (suc k)
      → IsCausedBy m start ins (suc T) (suc k) mark
  below-here T k mark r o = record {
    cycle = T;
    stage = k;
    below = omega arith;
    since = omega arith;
    reason = r;
    empty = λ d p q.
        let one : d ≡ 1 = omega arith in
        let a : T + 1 ≡ suc T = omega arith in
        let b : k + 1 ≡ suc k = omega arith in
        rw (one, a, b) o;
    kept = λ d p q. absurd (omega arith);
  }

  -- a bubble moves up
  moved-caused : (T k : ℕ) (mark : Mark) → back m (at T) (input T) ≤ k → IsEmpty m start ins (suc T) (suc k)
      → IsCausedBy m start ins T k mark → IsCausedBy m start ins (suc T) (suc k) mark
  moved-caused T k mark q o c =
      let low = c.below in
      let diagonal = c.since in
      record {
        cycle = c.cycle;
        stage = c.stage;
        below = omega arith;
        since = omega arith;
        reason = c.reason;
        empty = λ d p w. ⊎_elim
            (λ (e : d + c.stage ≡ suc k).
            let a : c.cycle + d ≡ suc T = omega arith in
            let b : c.stage + d ≡ suc k = omega arith in
            rw (a, b) o)
            (λ e. c.empty d p (omega arith))
            (cases_eq (d + c.stage) (suc k));
        kept = λ d p w. ⊎_elim
            (λ (e : d + c.stage ≡ k).
            let a : c.cycle + d ≡ T = omega arith in
            let b : c.stage + d ≡ k = omega arith in
            rw (a, b) q)
            (λ e. c.kept d p (omega arith))
            (cases_eq (d + c.stage) k);
      }

  moved-filling : (T k : ℕ) → IsEmpty m start ins (suc T) (suc k) → IsFilling m start ins T k → IsFilling m start ins (suc T) (suc k)
  moved-filling T k o f =
      let early = f.early in
      record {
        early = omega arith;
        empty = λ U w. ⊎_elim
            (λ (e : U ≡ suc T).
            let a : U + (suc k - suc T) ≡ suc k = omega arith in
            rw (a, e) o)
            (λ e.
            let a : U + (suc k - suc T) ≡ U + (k - T) = omega arith in
            rw a (f.empty U (omega arith)))
            (cases_eq U (suc T));
      }

  moved : (T k : ℕ) (l : Loss) → back m (at T) (input T) ≤ k → IsEmpty m start ins (suc T) (suc k)
      → IsLostTo m start ins T k l → IsLostTo m start ins (suc T) (suc k) l
  moved T k Filling q o f = moved-filling T k o f
  moved T k DataHazard q o c = moved-caused T k WaitsForValue q o c
  moved T k WrongGuess q o c = moved-caused T k Squashed q o c
  moved T k Outside q o c = moved-caused T k Held q o c

  -- an instruction that waits, but not for the stage ahead
  waits : (T k U j : ℕ) → ((mark : Mark) → IsReason m (at T) (input T) k mark → IsCausedBy m start ins U j mark)
      → back m (at T) (input T) ≤ k → stall m (at T) (input T) k ≡ true → (above m (at T) (input T) k).stall ≡ false
      → IsLostTo m start ins U j (loss_of_wait (input T).ext k)
  waits T k U j cause q w a = ⊎_elim
      (λ e. rw (cond-true ((input T).ext k) Outside DataHazard e) (cause Held (q, w, e)))
      (λ e. rw (cond-false ((input T).ext k) Outside DataHazard e) (cause WaitsForValue (q, w, e, a, hazard-left m (at T) (input T) k w e a)))
      (cases_Bool ((input T).ext k))

  -- the stage ahead doesn't stall where it is empty after the cycle
  free : (T k : ℕ) → suc k < m.stages → back m (at T) (input T) ≤ k → (next_stage m (at T) (input T) (suc k)).full ≡ false
      → (above m (at T) (input T) k).stall ≡ false
  free T k b q o =
      stall-above m (at T) (input T) k b
      ∙ false_from_ne_true (stall m (at T) (input T) (suc k)) (λ w. both_ways _ o (kept-full m (at T) (input T) (suc k) (omega arith) w))

  -- EACH EMPTY STAGE has the cause that the losses name.
  empties : (T k : ℕ) → T < length ins → k < m.stages → IsEmpty m start ins T k → IsLostTo m start ins T k (loss_at T k)
  empties T zero b n o = absurd (both_ways _ o (first T))
  empties zero (suc k) b n o = record {
    early = omega arith;
    empty = λ U w.
        let a : U ≡ 0 = omega arith in
        let e : 0 + (suc k - 0) ≡ suc k = omega arith in
        rw (a, e) refl;
  }
  empties (suc T) (suc k) b n o =
      let next : IsEmpty m start ins (suc T) (suc k) = o in
      let same = state-next m ins start T (omega arith) in
      let there : (next_stage m (at T) (input T) (suc k)).full ≡ false = ap (λ (x : PipelineState). (x.stage (suc k)).full) (sym same) ∙ o in
      let is = ap (λ (f : ℕ → Loss). f (suc k)) (losses-next m ins start (λ j. Filling) T (omega arith)) in
      subst (λ (l : Loss). IsLostTo m start ins (suc T) (suc k) l) (sym is)
      (by-fate m (at T) (input T) k
      (λ q u. rw (after-swept m (at T) (input T) (loss_at T) k q) (below-here T k Squashed q next))
      (λ u. absurd (both_ways _ there (next-moved m (at T) (input T) k u)))
      (λ f w q u. rw (after-waits m (at T) (input T) (loss_at T) k (omega arith) q f)
      (waits T k (suc T) (suc k) (λ mark r. below-here T k mark r next) q w (free T k n q there)))
      (λ f q u. rw (after-empty m (at T) (input T) (loss_at T) k (omega arith) q f)
      (moved T k (loss_at T k) q next (empties T k (omega arith) (omega arith) f))))

  last-spent : (last T : ℕ) → suc last ≡ m.stages → T < length ins
      → IsSpentFor m start ins T last (lost_to last (input T).ext (row m (at T) (input T)) (loss_at T))
  last-spent last T e b =
      let shape = shape-along m acc ins start (λ k. 0) (λ k. 0) (shape-start m s hints) (λ k w. refl) T in
      let top : back m (at T) (input T) < m.stages = back-top m acc (at T) (input T) shape.0 shape.1.0 in
      by-fate m (at T) (input T) last
      (λ q u. absurd (omega arith))
      (λ u. rw (goes u) u)
      (λ f w q u. rw (idle u ∙ ap (λ (l : Loss). Some l) (cond-true (bit (row m (at T) (input T)).full last) _ _ (full-bit m (at T) (input T) last (omega arith) ∙ f)))
      (waits T last T last (here T last) q w (stall-top m (at T) (input T) last (omega arith))))
      (λ f q u. rw (idle u ∙ ap (λ (l : Loss). Some l) (cond-false (bit (row m (at T) (input T)).full last) _ _ (full-bit m (at T) (input T) last (omega arith) ∙ f)))
      (empties T last b (omega arith) f))
    where
      goes : ue m (at T) (input T) last ≡ true → lost_to last (input T).ext (row m (at T) (input T)) (loss_at T) ≡ None
      goes u =
          cond-true (bit (row m (at T) (input T)).ue last) None
          (Some (cond (bit (row m (at T) (input T)).full last) (loss_of_wait (input T).ext last) (loss_at T last)))
          (ue-bit m (at T) (input T) last (omega arith) ∙ u)

      idle : ue m (at T) (input T) last ≡ false
          → lost_to last (input T).ext (row m (at T) (input T)) (loss_at T)
          ≡ Some (cond (bit (row m (at T) (input T)).full last) (loss_of_wait (input T).ext last) (loss_at T last))
      idle u =
          cond-false (bit (row m (at T) (input T)).ue last) None
          (Some (cond (bit (row m (at T) (input T)).full last) (loss_of_wait (input T).ext last) (loss_at T last))) (ue-bit m (at T) (input T) last (omega arith) ∙ u)

  pub causes : (last T : ℕ) → suc last ≡ m.stages → T < length ins
      → IsSpentFor m start ins T last (get_or (spent last (stalls_of ins) (pipe m s hints ins).rows) T None)
  causes last T e b =
      rw (spent-at m (stalls_of ins) last ins start 0 (λ k. Filling) T (λ t. let z : 0 + t ≡ t = omega arith in ap (λ (x : ℕ). stalls_of ins x) z) b)
      (last-spent last T e b)

-- THE ACCOUNT COUNTS the entries.
count-next : (o : Option Loss) (a : Account) (cycles : List (Option Loss)) → Counts a cycles → Counts (and_cycle o a) (o ∷ cycles)
count-next None a cycles c = record { retired = omega (arith, c.retired); filling = omega (arith, c.filling); hazards = omega (arith, c.hazards); guesses = omega (arith, c.guesses); outside = omega (arith, c.outside) }
count-next (Some Filling) a cycles c = record { retired = omega (arith, c.retired); filling = omega (arith, c.filling); hazards = omega (arith, c.hazards); guesses = omega (arith, c.guesses); outside = omega (arith, c.outside) }
count-next (Some _) a cycles c = record { retired = omega (arith, c.retired); filling = omega (arith, c.filling); hazards = omega (arith, c.hazards); guesses = omega (arith, c.guesses); outside = omega (arith, c.outside) }

pub counted : (last : ℕ) (ext : ℕ → ℕ → Bool) (T : ℕ) (loss : ℕ → Loss) (rows : List Row)
    → Counts (account_from last ext T loss rows) (spent_from last ext T loss rows)
counted last ext T loss [] = record { retired = refl; filling = refl; hazards = refl; guesses = refl; outside = refl }
counted last ext T loss (r ∷ rows) =
    count-next (lost_to last (ext T) r loss) (account_from last ext (suc T) (losses_after (ext T) r loss) rows)
    (spent_from last ext (suc T) (losses_after (ext T) r loss) rows) (counted last ext (suc T) (losses_after (ext T) r loss) rows)
