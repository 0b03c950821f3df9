use Rattle.std.proofs.Common.{◌≡◌, ℕ, zero, suc, ◌<◌, ◌≤◌, Bool, true, false, cond, leb, Some, None, refl, sym, ap, ◌∙◌, ⊎_elim, arith, le-leb}
use Rattle.std.proofs.lemmas.Bool.{cases_Bool, cases_lt, cond-true, cond-false, both_ways, lt-leb, and_from, and_left, and_right, or_left, or_right, or_from, not_from_true, not_from_false, false_from_ne_true}
use Rattle.kp_pipeline.specs.Machine.{Machine}
use Rattle.kp_pipeline.specs.Pipeline.{Inputs, PipelineState, above, back, outcome, stall, ue}
use Rattle.kp_pipeline.specs.Rows.{bit, bits, row}
use Rattle.kp_pipeline.proofs.{Lists.bit-at, Cycle.stall-above, Cycle.stall-is, Cycle.stall-top, Cycle.ue-from, Cycle.ue-parts}
use Rattle.kp_diagram.specs.Diagram.{Mark, Moves, WaitsForValue, WaitsForStage, Held, Squashed, does_move, fetches_next, is_squashed, is_waiting, mark, next_place}
use Rattle.kp_diagram.specs.Claims.{IsReason}

-- ONE CYCLE of a stage, as its row shows it.

-- past the end of a list of bits
pub bit-past : (f : ℕ → Bool) (n k j : ℕ) → n ≤ j → bit (bits f n k) j ≡ false
bit-past f zero k j b = refl
bit-past f (suc n) k zero b = absurd (omega arith)
bit-past f (suc n) k (suc j) b = bit-past f n (suc k) j (omega arith)

still : (a b : Bool) → does_move (cond a Held (cond b WaitsForStage WaitsForValue)) ≡ false
still true b = refl
still false true = refl
still false false = refl

module _ (m : Machine) (st : PipelineState) (i : Inputs) where
  pub full-bit : (k : ℕ) → k < m.stages → bit (row m st i).full k ≡ (st.stage k).full
  full-bit k b = bit-at (λ j. (st.stage j).full) m.stages k b

  pub ue-bit : (k : ℕ) → k < m.stages → bit (row m st i).ue k ≡ ue m st i k
  ue-bit k b = bit-at (ue m st i) m.stages k b

  pub swept : (k : ℕ) → k < back m st i → is_squashed (row m st i) k ≡ true
  swept k q = not_from_false (leb (back m st i) k) (lt-leb (back m st i) k q)

  pub not-swept : (k : ℕ) → back m st i ≤ k → is_squashed (row m st i) k ≡ false
  not-swept k q = not_from_true (leb (back m st i) k) (le-leb (back m st i) k q)

  pub ue-back : (k : ℕ) → ue m st i k ≡ true → back m st i ≤ k
  ue-back k u = (ue-parts m st i k u).2

  -- what happens to a stage: squashed, moving, waiting or empty
  pub by-fate : {P : Type 0} (k : ℕ)
      → (k < back m st i → ue m st i k ≡ false → P)
      → (ue m st i k ≡ true → P)
      → ((st.stage k).full ≡ true → stall m st i k ≡ true → back m st i ≤ k → ue m st i k ≡ false → P)
      → ((st.stage k).full ≡ false → back m st i ≤ k → ue m st i k ≡ false → P)
      → P
  by-fate k squashed moves waits empty =
      ⊎_elim moves
      (λ u. ⊎_elim (λ q. squashed q u)
      (λ q. ⊎_elim (λ f. ⊎_elim (λ s. waits f s q u) (λ s. absurd (both_ways (ue m st i k) u (ue-from m st i k f s q))) (cases_Bool (stall m st i k)))
      (λ f. empty f q u) (cases_Bool (st.stage k).full))
      (cases_lt k (back m st i)))
      (cases_Bool (ue m st i k))

  -- where it goes
  pub place-swept : (k : ℕ) → k < back m st i → next_place m.stages (row m st i) k ≡ None
  place-swept k q = cond-true (is_squashed (row m st i) k) _ _ (swept k q)

  place-not_swept : (k : ℕ) → k < m.stages → back m st i ≤ k
      → next_place m.stages (row m st i) k ≡ cond (ue m st i k) (cond (leb m.stages (suc k)) None (Some (suc k))) (Some k)
  place-not_swept k b q =
      cond-false (is_squashed (row m st i) k) _ _ (not-swept k q)
      ∙ ap (λ (u : Bool). cond u (cond (leb m.stages (suc k)) None (Some (suc k))) (Some k)) (ue-bit k b)

  pub place-moves : (k : ℕ) → suc k < m.stages → ue m st i k ≡ true → next_place m.stages (row m st i) k ≡ Some (suc k)
  place-moves k b u =
      place-not_swept k (omega arith) (ue-back k u) ∙ cond-true (ue m st i k) _ _ u
      ∙ cond-false (leb m.stages (suc k)) _ _ (lt-leb m.stages (suc k) b)

  pub place-leaves : (k : ℕ) → suc k ≡ m.stages → ue m st i k ≡ true → next_place m.stages (row m st i) k ≡ None
  place-leaves k b u =
      place-not_swept k (omega arith) (ue-back k u) ∙ cond-true (ue m st i k) _ _ u
      ∙ cond-true (leb m.stages (suc k)) _ _ (le-leb m.stages (suc k) (omega arith))

  pub place-stays : (k : ℕ) → k < m.stages → back m st i ≤ k → ue m st i k ≡ false
      → next_place m.stages (row m st i) k ≡ Some k
  place-stays k b q u = place-not_swept k b q ∙ cond-false (ue m st i k) _ _ u

  -- whether stage 0 has a new instruction after the cycle
  pub fetches-moved : 1 ≤ m.stages → ue m st i 0 ≡ true → fetches_next (row m st i) ≡ true
  fetches-moved b u = or_left (bit (row m st i).ue 0) _ (ue-bit 0 b ∙ u)

  pub fetches-swept : 0 < back m st i → fetches_next (row m st i) ≡ true
  fetches-swept q = or_right (bit (row m st i).ue 0) _ (swept 0 q)

  pub fetches-none : 1 ≤ m.stages → back m st i ≤ 0 → ue m st i 0 ≡ false → fetches_next (row m st i) ≡ false
  fetches-none b q u = or_from (bit (row m st i).ue 0) _ (ue-bit 0 b ∙ u) (not-swept 0 q)

  -- the marks
  pub mark-swept : (k : ℕ) → k < back m st i → mark i.ext (row m st i) k ≡ Squashed
  mark-swept k q = cond-true (is_squashed (row m st i) k) _ _ (swept k q)

  pub mark-moves : (k : ℕ) → k < m.stages → ue m st i k ≡ true → mark i.ext (row m st i) k ≡ Moves
  mark-moves k b u =
      cond-false (is_squashed (row m st i) k) _ _ (not-swept k (ue-back k u))
      ∙ cond-true (bit (row m st i).ue k) _ _ (ue-bit k b ∙ u)

  -- the mark of what waits
  abbrev wait_mark : ℕ → Mark
  wait_mark k = cond (i.ext k) Held (cond (is_waiting (row m st i) (suc k)) WaitsForStage WaitsForValue)

  pub mark-waits : (k : ℕ) → k < m.stages → back m st i ≤ k → ue m st i k ≡ false → mark i.ext (row m st i) k ≡ wait_mark k
  mark-waits k b q u =
      cond-false (is_squashed (row m st i) k) _ _ (not-swept k q)
      ∙ cond-false (bit (row m st i).ue k) _ _ (ue-bit k b ∙ u)

  -- A stage that isn't squashed stalls where it is full and doesn't update.
  waiting-stalls : (k : ℕ) → k < m.stages → back m st i ≤ k → is_waiting (row m st i) k ≡ stall m st i k
  waiting-stalls k b q = by-fate k
      (λ w u. absurd (omega arith))
      (λ u. and_right (bit (row m st i).full k) _ (not_from_true (bit (row m st i).ue k) (ue-bit k b ∙ u)) ∙ sym (ue-parts m st i k u).1)
      (λ f s w u. and_from (bit (row m st i).full k) _ (full-bit k b ∙ f) (not_from_false (bit (row m st i).ue k) (ue-bit k b ∙ u)) ∙ sym s)
      (λ f w u. and_left (bit (row m st i).full k) _ (full-bit k b ∙ f) ∙ sym (stall-is m st i k ∙ and_left (st.stage k).full _ f))

  ahead-stalls : (k : ℕ) → k < m.stages → back m st i ≤ k → is_waiting (row m st i) (suc k) ≡ (above m st i k).stall
  ahead-stalls k b q = ⊎_elim
      (λ (w : suc k < m.stages). waiting-stalls (suc k) w (omega arith) ∙ sym (stall-above m st i k w))
      (λ (w : m.stages ≤ suc k). and_left (bit (row m st i).full (suc k)) _ (bit-past (λ j. (st.stage j).full) m.stages 0 (suc k) w) ∙ sym (stall-top m st i k w))
      (cases_lt (suc k) m.stages)

  -- a stall that comes neither from outside nor from the next stage is a hazard
  pub hazard-left : (k : ℕ) → stall m st i k ≡ true → i.ext k ≡ false → (above m st i k).stall ≡ false → (outcome m st i k).hazard ≡ true
  hazard-left k s e a = ⊎_elim (λ h. h)
      (λ h. absurd (both_ways (stall m st i k) (stall-is m st i k ∙ and_right (st.stage k).full _ (or_from (outcome m st i k).hazard _ h (or_from (i.ext k) _ e a))) s))
      (cases_Bool (outcome m st i k).hazard)

  reason-waits : (k : ℕ) → k < m.stages → back m st i ≤ k → stall m st i k ≡ true → IsReason m st i k (wait_mark k)
  reason-waits k b q s = ⊎_elim
      (λ e. rw (cond-true (i.ext k) Held (cond (is_waiting (row m st i) (suc k)) WaitsForStage WaitsForValue) e) (q, s, e))
      (λ e. rw (cond-false (i.ext k) Held (cond (is_waiting (row m st i) (suc k)) WaitsForStage WaitsForValue) e)
      (⊎_elim
      (λ w. rw (cond-true (is_waiting (row m st i) (suc k)) WaitsForStage WaitsForValue w) (q, s, e, sym (ahead-stalls k b q) ∙ w))
      (λ w. let a = sym (ahead-stalls k b q) ∙ w in rw (cond-false (is_waiting (row m st i) (suc k)) WaitsForStage WaitsForValue w) (q, s, e, a, hazard-left k s e a))
      (cases_Bool (is_waiting (row m st i) (suc k)))))
      (cases_Bool (i.ext k))

  -- THE MARK of a full stage has its reason in the machine.
  pub reason : (k : ℕ) → k < m.stages → (st.stage k).full ≡ true → IsReason m st i k (mark i.ext (row m st i) k)
  reason k b full = by-fate k
      (λ q u. rw (mark-swept k q) q)
      (λ u. rw (mark-moves k b u) u)
      (λ f s q u. rw (mark-waits k b q u) (reason-waits k b q s))
      (λ f q u. absurd (both_ways (st.stage k).full f full))

  -- What moves has that mark, whatever the stall word is.
  pub moves-mark : (e : ℕ → Bool) (k : ℕ) → k < m.stages → does_move (mark e (row m st i) k) ≡ ue m st i k
  moves-mark e k b = by-fate k
      (λ q u. ap does_move (cond-true (is_squashed (row m st i) k) Squashed _ (swept k q)) ∙ sym u)
      (λ u. ap does_move (cond-false (is_squashed (row m st i) k) Squashed _ (not-swept k (ue-back k u)) ∙ cond-true (bit (row m st i).ue k) Moves _ (ue-bit k b ∙ u)) ∙ sym u)
      (λ f s q u. rests q u) (λ f q u. rests q u)
    where
      rests : back m st i ≤ k → ue m st i k ≡ false → does_move (mark e (row m st i) k) ≡ ue m st i k
      rests q u =
          ap does_move (cond-false (is_squashed (row m st i) k) Squashed _ (not-swept k q) ∙ cond-false (bit (row m st i).ue k) Moves _ (ue-bit k b ∙ u))
          ∙ still (e k) (is_waiting (row m st i) (suc k)) ∙ sym u

  -- ONE REASON: the mark that each of them names.
  abbrev reasoned : ℕ → Mark
  reasoned k =
      cond (leb (back m st i) k) (cond (ue m st i k) Moves (cond (i.ext k) Held (cond (above m st i k).stall WaitsForStage WaitsForValue))) Squashed

  stalls-not : (k : ℕ) → stall m st i k ≡ true → ue m st i k ≡ false
  stalls-not k s = false_from_ne_true (ue m st i k) (λ u. both_ways (stall m st i k) (ue-parts m st i k u).1 s)

  reasoned-waits : (k : ℕ) → back m st i ≤ k → stall m st i k ≡ true
      → reasoned k ≡ cond (i.ext k) Held (cond (above m st i k).stall WaitsForStage WaitsForValue)
  reasoned-waits k q s =
      cond-true (leb (back m st i) k) _ Squashed (le-leb (back m st i) k q) ∙ cond-false (ue m st i k) Moves _ (stalls-not k s)

  by-reason : (k : ℕ) (a : Mark) → IsReason m st i k a → reasoned k ≡ a
  by-reason k Moves u =
      cond-true (leb (back m st i) k) _ Squashed (le-leb (back m st i) k (ue-back k u)) ∙ cond-true (ue m st i k) Moves _ u
  by-reason k Squashed q = cond-false (leb (back m st i) k) _ Squashed (lt-leb (back m st i) k q)
  by-reason k Held (q, s, e) = reasoned-waits k q s ∙ cond-true (i.ext k) Held _ e
  by-reason k WaitsForStage (q, s, e, a) =
      reasoned-waits k q s ∙ cond-false (i.ext k) Held _ e ∙ cond-true (above m st i k).stall WaitsForStage WaitsForValue a
  by-reason k WaitsForValue (q, s, e, a, h) =
      reasoned-waits k q s ∙ cond-false (i.ext k) Held _ e ∙ cond-false (above m st i k).stall WaitsForStage WaitsForValue a

  pub one-reason : (k : ℕ) (a b : Mark) → IsReason m st i k a → IsReason m st i k b → a ≡ b
  one-reason k a b x y = sym (by-reason k a x) ∙ by-reason k b y
