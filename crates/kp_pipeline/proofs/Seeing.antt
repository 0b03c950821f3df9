use Rattle.std.proofs.Common.{◌≡◌, ℕ, zero, suc, ◌+◌, ◌-◌, ◌<◌, ◌≤◌, ◌≢◌, Bool, true, false, cond, not, ◌&&◌, ◌||◌, eqb, ltb, List, ◌++◌, Option, Some, None, is_some, refl, sym, ap, ap₂, ◌∙◌, subst, ⊎_elim, arith, le-leb, leb-true, eqb-true, eq-eqb, lt-ltb, le-ltb}
use Rattle.std.proofs.lemmas.Bool.{cases_Bool, cases_lt, cond-true, cond-false, and_parts, and_from, and_left, and_right, or_left, or_right, or_from, both_ways, false≢true, ne_eqb, lt-leb}
use Rattle.std.{specs.Prelude.unwrap_or, proofs.Math.Path.fun_ext}
use Rattle.kp_pipeline.specs.Pipeline.{Inputs, PipelineState, StageState, above, back, candidate_hits, cycle, forwarded, hits, intent_known, is_candidate, mismatches, next_hints, next_stage, ok_value, outcome, some_differs, stall, ue}
use Rattle.kp_pipeline.specs.SpeculativeTimeline.{aim_given, blocked, hints_after, is_ready, may_write, moves_on, next_hold, ready_above, ready_below, ready_from, setting_stage, timeline_row, waits}
use Rattle.kp_pipeline.specs.Machine.{Machine}
use Rattle.kp_pipeline.specs.Sequential.{Instruction, first_value, instruction_before, is_written, run, seq}
use Rattle.kp_pipeline.specs.{Rows.bits, Rows.row, Accepted.Accepted, Timeline.ReadyAbove, Timeline.next_number}
use Rattle.kp_pipeline.specs.RightPath.{MakesRightGuesses, some_missing, some_shows_wrong}
use Rattle.kp_pipeline.proofs.Lists.{all-append, all-kept, all-map, bits-same}
use Rattle.kp_pipeline.proofs.Cycle.{greatest-bound, stall-above, stall-is, stall-top, truth-in, truth-top, ue-from, ue-parts}
use Rattle.kp_pipeline.proofs.Movement.{count-came, count-moved, count-stays, kept-below, next-from, next-kept, next-moved, next-none, next_count, no_stall-parts, stall-full, ue-stalled}
use Rattle.kp_pipeline.proofs.{Sequential.written-from, Agreement.IsRight, Agreement.run-agrees, Invariant.Inv, Invariant.Met, Invariant.RightAt}
use Rattle.kp_pipeline.proofs.Truths.{MadeRight, RightAbove, TruthIsRight, computes, truth-own, truth-right}
use Rattle.kp_pipeline.proofs.NextState.{back-mismatch, next-pending, next-pending-kept}
use Rattle.kp_pipeline.proofs.SettingTimes.{setting-after, setting-before, setting-last}
use Rattle.kp_pipeline.proofs.Reading.{had-all, hazard-unmet, makes-right, mismatch-wrong, right-no_differs, unmet-none}

-- WHAT A STAGE SEES in the timeline, as in the pipeline.
ready_above-in : (m : Machine) (s given : ℕ → ℕ → ℕ) (hold : ℕ → Option ℕ) (inputs : Inputs) (k : ℕ) → suc k < m.stages
    → ready_above m s given hold inputs k ≡ ready_below m s given hold inputs (suc k) (ready_above m s given hold inputs (suc k))
unfolding ready_above ready_from
ready_above-in m s given hold inputs k h =
    let e : m.stages - suc k ≡ suc (m.stages - suc (suc k)) = omega arith in
    rw e refl

ready_above-top : (m : Machine) (s given : ℕ → ℕ → ℕ) (hold : ℕ → Option ℕ) (inputs : Inputs) (k : ℕ) → m.stages ≤ suc k
    → ready_above m s given hold inputs k ≡ record { ready = λ t a. true; blocked = false }
unfolding ready_above ready_from
ready_above-top m s given hold inputs k h =
    let e : m.stages - suc k ≡ 0 = omega arith in
    rw e refl

ready-in : (m : Machine) (s given : ℕ → ℕ → ℕ) (hold : ℕ → Option ℕ) (inputs : Inputs) (k t a : ℕ) → suc k < m.stages
    → (ready_above m s given hold inputs k).ready t a ≡ cond (is_candidate m (suc k) t && may_write m s given (suc k) (hold (suc k)) t a) (is_ready m s given (suc k) (hold (suc k)) (blocked m s given hold inputs (suc k)) t) ((ready_above m s given hold inputs (suc k)).ready t a)
unfolding blocked
ready-in m s given hold inputs k t a h = ap (λ (d : ReadyAbove). d.ready t a) (ready_above-in m s given hold inputs k h)

blocked-in : (m : Machine) (s given : ℕ → ℕ → ℕ) (hold : ℕ → Option ℕ) (inputs : Inputs) (k : ℕ) → suc k < m.stages
    → (ready_above m s given hold inputs k).blocked ≡ blocked m s given hold inputs (suc k)
unfolding blocked
blocked-in m s given hold inputs k h = ap (λ (d : ReadyAbove). d.blocked) (ready_above-in m s given hold inputs k h)

blocked-is : (m : Machine) (s given : ℕ → ℕ → ℕ) (hold : ℕ → Option ℕ) (inputs : Inputs) (k : ℕ)
    → blocked m s given hold inputs k ≡ (is_some (hold k) && (waits m s given hold inputs k || (inputs.ext k || (ready_above m s given hold inputs k).blocked)))
unfolding blocked waits
blocked-is m s given hold inputs k = refl

-- A read that is passed through is available as its hit is.
cond-ready : (b c : Bool) (f v : Option ℕ) (r : Bool) → b ≡ c → (b ≡ true → is_some f ≡ r) → is_some (cond b f v) ≡ cond c r (is_some v)
cond-ready true c f v r e h = rw (← e) (h refl)
cond-ready false c f v r e h = rw (← e) refl

-- It is ready if more is, and a hit is if less is blocked.
cond-more : (c a b a' b' : Bool) → (a ≡ true → a' ≡ true) → (b ≡ true → b' ≡ true) → cond c a b ≡ true → cond c a' b' ≡ true
cond-more true a b a' b' f g h = f h
cond-more false a b a' b' f g h = g h

hit-more : (u l e x y : Bool) → (x ≡ false → y ≡ false) → (u && (l || (e && not x))) ≡ true → (u && (l || (e && not y))) ≡ true
hit-more false l e x y f h = h
hit-more true true e x y f h = refl
hit-more true false false x y f h = h
hit-more true false true true y f h = absurd (false≢true h)
hit-more true false true false y f h = ap not (f refl)

ready-more : (m : Machine) (s given : ℕ → ℕ → ℕ) (k : ℕ) (o : Option ℕ) (x y : Bool) (t : ℕ) → (x ≡ false → y ≡ false)
    → is_ready m s given k o x t ≡ true → is_ready m s given k o y t ≡ true
ready-more m s given k None x y t f h = h
ready-more m s given k (Some n) x y t f h = hit-more (intent_known m k t) (ltb (setting_stage m (seq m s given n) (given n) t) k) (eqb (setting_stage m (seq m s given n) (given n) t) k) x y f h

-- present means ready
ok_value-ready : (stored now : Option ℕ) (stalled last : Bool) (w k : ℕ)
    → ((v : ℕ) → stored ≡ Some v → w < k) → (stored ≡ None → k ≤ w)
    → ((v : ℕ) → stored ≡ None → stalled ≡ false → now ≡ Some v → w ≡ k)
    → (stored ≡ None → stalled ≡ false → now ≡ None → last ≡ true → w ≡ k)
    → (stored ≡ None → stalled ≡ false → now ≡ None → last ≡ false → k < w)
    → is_some (ok_value true stored stalled now last) ≡ (ltb w k || (eqb w k && not stalled))
ok_value-ready (Some v) now st last w k a b c d e = sym (or_left (ltb w k) _ (lt-ltb w k (a v refl)))
ok_value-ready None now true last w k a b c d e = sym (or_from (ltb w k) _ (le-ltb w k (b refl)) (and_right (eqb w k) false refl))
ok_value-ready None (Some v) false last w k a b c d e = sym (or_right (ltb w k) _ (and_from (eqb w k) true (eq-eqb w k (c v refl refl refl)) refl))
ok_value-ready None None false true w k a b c d e = sym (or_right (ltb w k) _ (and_from (eqb w k) true (eq-eqb w k (d refl refl refl refl)) refl))
ok_value-ready None None false false w k a b c d e =
    let x : k < w = e refl refl refl refl in
    sym (or_from (ltb w k) _ (le-ltb w k (omega arith)) (and_left (eqb w k) true (ne_eqb w k (λ i. absurd (omega arith)))))

module _ (m : Machine) (acc : Accepted m) (s given : ℕ → ℕ → ℕ) (st : PipelineState) (inputs : Inputs) (count updates : ℕ → ℕ) (inv : Inv m s given st count updates) (met : Met m given st inputs count)
    (hold : ℕ → Option ℕ) (tie : (k : ℕ) → k < m.stages → hold k ≡ cond (st.stage k).full (Some (count k)) None) where
  -- The guesses of stage k are right, pending ones and those made in this cycle.
  abbrev pub RightHere : ℕ → Type 0
  RightHere k =
      RightAt m s given st count k
      × ((st.stage k).full ≡ true
      → MakesRightGuesses (ready_above m s given hold inputs k).ready st.hints (seq m s given (count k)) (m.body k inputs.samples (instruction_before m s given (count k) k).pipes))

  -- Its pending guesses are right, and those that it carries along if it moves on.
  abbrev pub Kept : ℕ → Type 0
  Kept k = RightAt m s given st count k × MadeRight m s given st inputs count k

  -- WHAT THE INDUCTIONS CARRY down the stages: right guesses above stage k, and no squash above it.
  abbrev Calm : ℕ → Type 0
  Calm k = RightAbove m s given st inputs count k × (back m st inputs ≤ suc k)

  truth-here : (k : ℕ) → k < m.stages → Calm k → TruthIsRight m s given st inputs count k
  truth-here k b x = truth-right m acc s given st inputs count updates inv met (m.stages - suc k) k (omega arith) x.1 x.0

  core-here : (k : ℕ) → k < m.stages → (st.stage k).full ≡ true → Calm k → RightAt m s given st count k
      → (st.stage k).instruction ≡ instruction_before m s given (count k) k
  core-here k b f x r =
      inv.held k b f
      (λ j y z. ⊎_elim (λ (i : k < j). (x.0 j i z).0) (λ (i : j ≤ k). let w : k ≡ j = omega arith in subst (λ (n : ℕ). RightAt m s given st count n) w r) (cases_lt k j))

  held-here : (k : ℕ) → k < m.stages → (st.stage k).full ≡ true → hold k ≡ Some (count k)
  held-here k b f = tie k b ∙ ap (λ (x : Bool). cond x (Some (count k)) None) f

  none-here : (k : ℕ) → k < m.stages → (st.stage k).full ≡ false → hold k ≡ None
  none-here k b f = tie k b ∙ ap (λ (x : Bool). cond x (Some (count k)) None) f

  shown-here : (k : ℕ) → k < m.stages → (st.stage k).full ≡ is_some (hold k)
  shown-here k b = ⊎_elim (λ f. rw (held-here k b f) f) (λ f. rw (none-here k b f) f) (cases_Bool (st.stage k).full)

  calm-here : (k : ℕ) → k < m.stages → Calm k → RightAt m s given st count k → back m st inputs ≤ k
  calm-here k b x r =
      ⊎_elim
      (λ (i : k < back m st inputs).
      let j : back m st inputs ≤ suc k = x.1 in
      let p = back-mismatch m st inputs k (omega arith) in
      absurd (both_ways _ (right-no_differs m k (above m st inputs k).truth (ready_above m s given hold inputs k).ready (seq m s given (count k)) (truth-here k b x) (st.stage k).pending (r p.0) (inv.between k b)) p.1))
      (λ i. i) (cases_lt k (back m st inputs))

  calm-top : (k : ℕ) → suc k ≡ m.stages → Calm k
  unfolding back
  calm-top k e = ((λ j y z. absurd (omega arith)), (let x = greatest-bound (mismatches m st inputs) m.stages in omega arith))

  calm-below : (k : ℕ) → suc k < m.stages → Calm (suc k) → Kept (suc k) → Calm k
  calm-below k b x r = (
    (λ j y z. ⊎_elim (λ (i : suc k < j). x.0 j i z)
        (λ (i : j ≤ suc k). let w : suc k ≡ j = omega arith in
        subst (λ (n : ℕ). RightAt m s given st count n × MadeRight m s given st inputs count n) w r)
        (cases_lt (suc k) j)),
    calm-here (suc k) b x r.0,
  )

  -- A read finds the target's own value, or what the next stage passes down.
  read-cases : {P : Type 0} (t k : ℕ) → ((m.has_result t ≡ true → m.write_stage t ≤ k) → P) → (m.has_result t ≡ true → suc k ≤ m.write_stage t → P) → P
  read-cases t k own passed =
      ⊎_elim (λ q. ⊎_elim (λ (i : k < m.write_stage t). passed q i) (λ i. own (λ _. i)) (cases_lt k (m.write_stage t)))
      (λ q. own (λ p. absurd (both_ways (m.has_result t) q p))) (cases_Bool (m.has_result t))

  ready-own : (t a d k : ℕ) → suc (k + d) ≡ m.stages → (m.has_result t ≡ true → m.write_stage t ≤ k)
      → (ready_above m s given hold inputs k).ready t a ≡ true
  ready-own t a zero k e h = ap (λ (x : ReadyAbove). x.ready t a) (ready_above-top m s given hold inputs k (omega arith))
  ready-own t a (suc d) k e h =
      ready-in m s given hold inputs k t a (omega arith)
      ∙ cond-false (is_candidate m (suc k) t && may_write m s given (suc k) (hold (suc k)) t a) _ _ (and_left (is_candidate m (suc k) t) _ far)
      ∙ ready-own t a d (suc k) (omega arith) (λ q. let b : m.write_stage t ≤ k = h q in omega arith)
    where
      far : (is_candidate m (suc k) t) ≡ false
      far = ⊎_elim (λ q. and_right (m.has_result t) _ (lt-leb (suc k) (m.write_stage t) (let b : m.write_stage t ≤ k = h q in omega arith))) (λ q. and_left (m.has_result t) _ q) (cases_Bool (m.has_result t))

  -- A hit is available exactly if it is ready in a stage that is blocked as this one stalls.
  forwarded-here : (t k : ℕ) → k < m.stages → m.has_result t ≡ true → k ≤ m.write_stage t → (st.stage k).full ≡ true → Calm k → Kept k
      → is_some (forwarded m st inputs k t) ≡ is_ready m s given k (hold k) (stall m st inputs k) t
  forwarded-here t k b h i f x r = rw (held-here k b f) (⊎_elim known (λ (u : intent_known m k t ≡ false). rw u refl) (cases_Bool (intent_known m k t)))
    where
      core : (st.stage k).instruction.results t ≡ (instruction_before m s given (count k) k).results t
      core = ap (λ (c : Instruction). c.results t) (core-here k b f x r.0)

      now : (st.stage k).instruction.results t ≡ None → stall m st inputs k ≡ false
          → (outcome m st inputs k).sets t ≡ (instruction_before m s given (count k) (suc k)).results t
      now e q =
          let go : ue m st inputs k ≡ true = ue-from m st inputs k f q (calm-here k b x r.0) in
          let y : first_value ((st.stage k).instruction.results t) ((outcome m st inputs k).sets t) ≡ (instruction_before m s given (count k) (suc k)).results t
          = ap (λ (c : Instruction). c.results t) (computes m acc s given st inputs count updates inv met k b go (truth-here k b x) x.0 r.0 r.1) in
          rw e at y

      known : intent_known m k t ≡ true → is_some (forwarded m st inputs k t) ≡ is_ready m s given k (Some (count k)) (stall m st inputs k) t
      known u =
          rw u
          (ok_value-ready ((st.stage k).instruction.results t) ((outcome m st inputs k).sets t) (stall m st inputs k) (eqb k (m.write_stage t)) (setting_stage m (seq m s given (count k)) (given (count k)) t) k
          (λ v e. setting-before m acc (seq m s given (count k)) (given (count k)) t k v (omega arith) (sym core ∙ e))
          (λ e. setting-after m acc (seq m s given (count k)) (given (count k)) t k i (sym core ∙ e))
          (λ v e q n.
          let y = setting-before m acc (seq m s given (count k)) (given (count k)) t (suc k) v b (sym (now e q) ∙ n) in
          let z = setting-after m acc (seq m s given (count k)) (given (count k)) t k i (sym core ∙ e) in omega arith)
          (λ e q n l. setting-last m acc (seq m s given (count k)) (given (count k)) t k h (eqb-true k (m.write_stage t) l) (sym (now e q) ∙ n))
          (λ e q n l.
          let w : k ≢ m.write_stage t = (λ (z : k ≡ m.write_stage t). both_ways (eqb k (m.write_stage t)) l (eq-eqb k (m.write_stage t) z)) in
          setting-after m acc (seq m s given (count k)) (given (count k)) t (suc k) (omega arith) (sym (now e q) ∙ n)))

  -- A stage hits exactly if it may write.
  hits-here : (t a k : ℕ) → k < m.stages → m.has_result t ≡ true → Calm k → RightAt m s given st count k → hits m st k t a ≡ may_write m s given k (hold k) t a
  hits-here t a k b h x r = ⊎_elim full (λ f. rw (none-here k b f, f) refl) (cases_Bool (st.stage k).full)
    where
      full : (st.stage k).full ≡ true → hits m st k t a ≡ may_write m s given k (hold k) t a
      full f = rw (held-here k b f) (⊎_elim known (λ (u : intent_known m k t ≡ false). rw (u, f) refl) (cases_Bool (intent_known m k t)))
        where
          known : intent_known m k t ≡ true → hits m st k t a ≡ may_write m s given k (Some (count k)) t a
          known u =
              let w : is_written m (instruction_before m s given (count k) m.stages) t a ≡ is_written m (st.stage k).instruction t a
              = written-from m acc (seq m s given (count k)) (given (count k)) t a k h (leb-true (m.known_from t) k u) (omega arith) ∙ ap (λ (c : Instruction). is_written m c t a) (sym (core-here k b f x r)) in
              rw (w, u, f, h) refl

  -- So what the next stage passes down is available as in the timeline, but for what it stalls on.
  through-here : (t a k : ℕ) → suc k < m.stages → m.has_result t ≡ true → suc k ≤ m.write_stage t → Calm (suc k) → Kept (suc k)
      → is_some ((above m st inputs k).truth t a) ≡ cond (is_candidate m (suc k) t && may_write m s given (suc k) (hold (suc k)) t a) (is_ready m s given (suc k) (hold (suc k)) (stall m st inputs (suc k)) t) (is_some ((above m st inputs (suc k)).truth t a))
  through-here t a k b h i x r =
      ap (λ (o : Option ℕ). is_some o) (truth-in m st inputs k t a b)
      ∙ cond-ready (candidate_hits m st (suc k) t a) (is_candidate m (suc k) t && may_write m s given (suc k) (hold (suc k)) t a) _ _ _
      (ap (λ (y : Bool). is_candidate m (suc k) t && y) (hits-here t a (suc k) b h x r.0))
      (λ e. forwarded-here t (suc k) b h i (and_parts (st.stage (suc k)).full _ (and_parts (is_candidate m (suc k) t) (hits m st (suc k) t a) e).1).0 x r)

  -- WITH RIGHT GUESSES stage k sees the same in the pipeline and in the timeline.
  abbrev Seen : ℕ → Type 0
  Seen k =
      ((t a : ℕ) → (m.has_result t ≡ true → k ≤ m.write_stage t) → is_some ((above m st inputs k).truth t a) ≡ (ready_above m s given hold inputs k).ready t a)
      × ((above m st inputs k).stall ≡ (ready_above m s given hold inputs k).blocked) × Calm k

  -- A stage with right guesses waits exactly when the timeline waits.
  hazard-here : (k : ℕ) → k < m.stages → (st.stage k).full ≡ true → Seen k → RightHere k
      → (outcome m st inputs k).hazard ≡ waits m s given hold inputs k
  unfolding outcome waits
  hazard-here k b f x r =
      rw (held-here k b f, core-here k b f x.2 r.0)
      (hazard-unmet m k (above m st inputs k).truth (ready_above m s given hold inputs k).ready (seq m s given (count k)) (truth-here k b x.2) x.0 st.hints (m.body k inputs.samples (instruction_before m s given (count k) k).pipes) (acc.fits k inputs.samples (instruction_before m s given (count k) k).pipes b) (r.1 f))

  -- A stage with right pending guesses has no hazard where no read is missing, whatever it would guess.
  had-here : (k : ℕ) → k < m.stages → (st.stage k).full ≡ true → Seen k → RightAt m s given st count k
      → some_missing (ready_above m s given hold inputs k).ready (seq m s given (count k)) (m.body k inputs.samples (instruction_before m s given (count k) k).pipes) ≡ false
      → (outcome m st inputs k).hazard ≡ false
  unfolding outcome
  had-here k b f x r n =
      rw (core-here k b f x.2 r)
      (had-all m k (above m st inputs k).truth (ready_above m s given hold inputs k).ready (seq m s given (count k)) (truth-here k b x.2) x.0 st.hints (m.body k inputs.samples (instruction_before m s given (count k) k).pipes) (acc.fits k inputs.samples (instruction_before m s given (count k) k).pipes b) n)

  -- The guesses that it makes as it moves on are right.
  made-here : (k : ℕ) → k < m.stages → Seen k → RightHere k → MadeRight m s given st inputs count k
  unfolding outcome
  made-here k b x r u =
      let p = ue-parts m st inputs k u in
      let e = core-here k b p.0 x.2 r.0 in
      rw e
      (makes-right m k (above m st inputs k).truth (ready_above m s given hold inputs k).ready (seq m s given (count k)) (truth-here k b x.2) x.0 st.hints (m.body k inputs.samples (instruction_before m s given (count k) k).pipes) (acc.fits k inputs.samples (instruction_before m s given (count k) k).pipes b) (r.1 p.0)
      (rw e at (no_stall-parts m st inputs k p.0 p.1).0))

  -- As it moves on it aims what the sequential instruction aims.
  aims-here : (k : ℕ) → k < m.stages → Seen k → RightHere k → ue m st inputs k ≡ true
      → (outcome m st inputs k).aims ≡ (run (λ t a. Some (seq m s given (count k) t a)) st.hints (m.body k inputs.samples (instruction_before m s given (count k) k).pipes)).aims
  unfolding outcome
  aims-here k b x r u =
      let p = ue-parts m st inputs k u in
      (run-agrees m k (above m st inputs k).truth st.hints st.hints (seq m s given (count k)) (m.body k inputs.samples (st.stage k).instruction.pipes)
      (acc.fits k inputs.samples (st.stage k).instruction.pipes b) (truth-here k b x.2) (no_stall-parts m st inputs k p.0 p.1).0 (made-here k b x r u)).1 refl
      ∙ ap (λ (c : Instruction). (run (λ t a. Some (seq m s given (count k) t a)) st.hints (m.body k inputs.samples c.pipes)).aims) (core-here k b p.0 x.2 r.0)

  same-block : (k : ℕ) → k < m.stages → Seen k → RightHere k → stall m st inputs k ≡ blocked m s given hold inputs k
  same-block k b x r =
      rw (stall-is m st inputs k, blocked-is m s given hold inputs k, shown-here k b, x.1)
      (⊎_elim (λ f. rw (hazard-here k b f x r) refl) (λ f. rw (none-here k b f) refl) (cases_Bool (st.stage k).full))

  -- The last stage sees the same, and each other one does if the next one does and has right guesses.
  seen-top : (k : ℕ) → suc k ≡ m.stages → Seen k
  seen-top k e = (
    (λ t a h. rw (truth-top m st inputs k t a (omega arith), ready_above-top m s given hold inputs k (omega arith)) refl),
    rw (stall-top m st inputs k (omega arith), ready_above-top m s given hold inputs k (omega arith)) refl,
    calm-top k e,
  )

  seen-below : (d k : ℕ) → suc (k + suc d) ≡ m.stages → Seen (suc k) → RightHere (suc k) → Seen k
  seen-below d k e x r =
      let b : suc k < m.stages = omega arith in
      let made : Kept (suc k) = (r.0, made-here (suc k) b x r) in
      let same : stall m st inputs (suc k) ≡ blocked m s given hold inputs (suc k) = same-block (suc k) b x r in (
        (λ t a h. read-cases t k
            (λ i. ap (λ (o : Option ℕ). is_some o) (truth-own m st inputs t a (suc d) k e i) ∙ sym (ready-own t a (suc d) k e i))
            (λ q i. rw (through-here t a k b q i x.2 made, ready-in m s given hold inputs k t a b, same, x.0 t a (λ _. i)) refl)),
        stall-above m st inputs k b ∙ same ∙ sym (blocked-in m s given hold inputs k b),
        calm-below k b x.2 made,
      )

  -- THE CONVERSE, with right guesses carried along and no condition on those that a waiting stage makes: nothing is available before the timeline has
  -- it.
  abbrev Behind : ℕ → Type 0
  Behind k =
      ((t a : ℕ) → (m.has_result t ≡ true → k ≤ m.write_stage t) → is_some ((above m st inputs k).truth t a) ≡ true → (ready_above m s given hold inputs k).ready t a ≡ true)
      × ((above m st inputs k).stall ≡ false → (ready_above m s given hold inputs k).blocked ≡ false) × Calm k

  late-waits : (k : ℕ) → k < m.stages → Behind k → Kept k → ue m st inputs k ≡ true → waits m s given hold inputs k ≡ false
  unfolding outcome waits
  late-waits k b x r u =
      let p = ue-parts m st inputs k u in
      let e = core-here k b p.0 x.2 r.0 in
      rw (held-here k b p.0)
      (unmet-none m k (above m st inputs k).truth (ready_above m s given hold inputs k).ready (seq m s given (count k)) (truth-here k b x.2) x.0 st.hints (m.body k inputs.samples (instruction_before m s given (count k) k).pipes) (acc.fits k inputs.samples (instruction_before m s given (count k) k).pipes b)
      (rw e at (no_stall-parts m st inputs k p.0 p.1).0) (rw e at (r.1 u)))

  late-free : (k : ℕ) → k < m.stages → Behind k → Kept k → stall m st inputs k ≡ false → blocked m s given hold inputs k ≡ false
  late-free k b x r q = rw (blocked-is m s given hold inputs k) (⊎_elim full (λ f. rw (none-here k b f) refl) (cases_Bool (st.stage k).full))
    where
      full : (st.stage k).full ≡ true → (is_some (hold k) && (waits m s given hold inputs k || (inputs.ext k || (ready_above m s given hold inputs k).blocked))) ≡ false
      full f =
          let p = no_stall-parts m st inputs k f q in
          rw (late-waits k b x r (ue-from m st inputs k f q (calm-here k b x.2 r.0)), p.1, x.1 p.2) (and_right (is_some (hold k)) _ refl)

  behind-top : (k : ℕ) → suc k ≡ m.stages → Behind k
  behind-top k e = (
    (λ t a h _. rw (ready_above-top m s given hold inputs k (omega arith)) refl),
    (λ _. rw (ready_above-top m s given hold inputs k (omega arith)) refl),
    calm-top k e,
  )

  behind-below : (d k : ℕ) → suc (k + suc d) ≡ m.stages → Behind (suc k) → Kept (suc k) → Behind k
  behind-below d k e x r =
      let b : suc k < m.stages = omega arith in (
        (λ t a h there. read-cases t k (ready-own t a (suc d) k e)
            (λ q i. ready-in m s given hold inputs k t a b
            ∙ cond-more (is_candidate m (suc k) t && may_write m s given (suc k) (hold (suc k)) t a) _ _ _ _ (ready-more m s given (suc k) (hold (suc k)) (stall m st inputs (suc k)) (blocked m s given hold inputs (suc k)) t (late-free (suc k) b x r))
            (x.0 t a (λ _. i)) (sym (through-here t a k b q i x.2 r) ∙ there))),
        (λ calm. blocked-in m s given hold inputs k b ∙ late-free (suc k) b x r (sym (stall-above m st inputs k b) ∙ calm)),
        calm-below k b x.2 r,
      )

  module _ (low : ℕ) (kept : (j : ℕ) → low ≤ j → j < m.stages → Kept j) where
    behind : (d k : ℕ) → suc (k + d) ≡ m.stages → low ≤ suc k → Behind k
    behind zero k e i = behind-top k (omega arith)
    behind (suc d) k e i = behind-below d k e (behind d (suc k) (omega arith) (omega arith)) (kept (suc k) i (omega arith))

    -- A stage moves on only when the timeline moves it on.
    pub never-early : (k : ℕ) → low ≤ k → k < m.stages → ue m st inputs k ≡ true → moves_on m s given hold inputs k ≡ true
    unfolding moves_on
    never-early k i b u =
        let p = ue-parts m st inputs k u in
        rw (held-here k b p.0, late-free k b (behind (m.stages - suc k) k (omega arith) (omega arith)) (kept k i b) p.1) refl

  -- THE RIGHT PATH: with right guesses from stage `low` up.
  module _ (low : ℕ) (right : (j : ℕ) → low ≤ j → j < m.stages → RightHere j) where
    seen : (d k : ℕ) → suc (k + d) ≡ m.stages → low ≤ suc k → Seen k
    seen zero k e i = seen-top k (omega arith)
    seen (suc d) k e i = seen-below d k e (seen d (suc k) (omega arith) (omega arith)) (right (suc k) i (omega arith))

    seen-at : (k : ℕ) → k < m.stages → low ≤ suc k → Seen k
    seen-at k b i = seen (m.stages - suc k) k (omega arith) i

    pub block-at : (k : ℕ) → low ≤ k → k < m.stages → stall m st inputs k ≡ blocked m s given hold inputs k
    block-at k i b = same-block k b (seen-at k b (omega arith)) (right k i b)

    -- no stage of it is squashed
    pub calm-at : (k : ℕ) → low ≤ k → k < m.stages → back m st inputs ≤ k
    calm-at k i b = calm-here k b (seen-at k b (omega arith)).2 (right k i b).0

    pub wait-at : (k : ℕ) → low ≤ k → k < m.stages → (st.stage k).full ≡ true → (outcome m st inputs k).hazard ≡ waits m s given hold inputs k
    wait-at k i b f = hazard-here k b f (seen-at k b (omega arith)) (right k i b)

    -- each moves on exactly when the timeline moves it on
    pub moves-at : (k : ℕ) → low ≤ k → k < m.stages → ue m st inputs k ≡ moves_on m s given hold inputs k
    unfolding ue moves_on
    moves-at k i b =
        rw (shown-here k b, block-at k i b, le-leb (back m st inputs) k (calm-at k i b))
        (⊎_elim (λ e. rw e refl) (λ e. rw e refl) (cases_Bool (blocked m s given hold inputs k)))

    pub aims-at : (k : ℕ) → low ≤ k → k < m.stages → ue m st inputs k ≡ true
        → (outcome m st inputs k).aims ≡ (run (λ t a. Some (seq m s given (count k) t a)) st.hints (m.body k inputs.samples (instruction_before m s given (count k) k).pipes)).aims
    aims-at k i b u = aims-here k b (seen-at k b (omega arith)) (right k i b) u

    -- What moved or stayed on it has right guesses after the cycle too.
    pub right-kept : (k : ℕ) → suc k < m.stages → (ue m st inputs k ≡ true → low ≤ k) → (stall m st inputs (suc k) ≡ true → back m st inputs ≤ suc k → low ≤ suc k)
        → RightAt m s given (cycle m st inputs) (next_count m st inputs count) (suc k)
    right-kept k b came stayed f =
        let p = next-from m st inputs k f in
        ⊎_elim
        (λ (u : ue m st inputs k ≡ true).
        let i : low ≤ k = came u in
        let r = right k i (omega arith) in
        rw (count-moved m st inputs count inv.chain k b u, next-pending m st inputs k u)
        (all-kept (IsRight (seq m s given (count k))) (λ p. not (eqb (m.write_stage p.register) (suc k))) ((outcome m st inputs k).guesses ++ (st.stage k).pending)
        (all-map (IsRight (seq m s given (count k))) (λ p. not (eqb (m.write_stage p.register) (suc k)) ≡ true → IsRight (seq m s given (count k)) p) (λ p h _. h) ((outcome m st inputs k).guesses ++ (st.stage k).pending)
        (all-append (IsRight (seq m s given (count k))) (outcome m st inputs k).guesses (st.stage k).pending
        (made-here k (omega arith) (seen-at k (omega arith) (omega arith)) r u) (r.0 (ue-parts m st inputs k u).0)))))
        (λ (q : stall m st inputs (suc k) ≡ true).
        rw (count-stays m st inputs count (suc k) p.0 (ue-stalled m st inputs (suc k) q), next-pending-kept m st inputs k (kept-below m st inputs k b q))
        ((right (suc k) (stayed q p.0) b).0 (stall-full m st inputs (suc k) q)))
        p.1

    -- The stage below the end of the right path: what it sees, and when it mismatches.
    pub end-calm : (k : ℕ) → k < m.stages → low ≤ suc k → back m st inputs ≤ suc k
    end-calm k b i = (seen-at k b i).2.1

    pub end-had : (k : ℕ) → k < m.stages → low ≤ suc k → (st.stage k).full ≡ true → RightAt m s given st count k
        → some_missing (ready_above m s given hold inputs k).ready (seq m s given (count k)) (m.body k inputs.samples (instruction_before m s given (count k) k).pipes) ≡ false
        → (outcome m st inputs k).hazard ≡ false
    end-had k b i f r n = had-here k b f (seen-at k b i) r n

    pub end-wrong : (k : ℕ) → k < m.stages → low ≤ suc k
        → some_differs (above m st inputs k).truth (st.stage k).pending ≡ some_shows_wrong (ready_above m s given hold inputs k).ready (seq m s given (count k)) (st.stage k).pending
    end-wrong k b i =
        let x = seen-at k b i in
        mismatch-wrong m k (above m st inputs k).truth (ready_above m s given hold inputs k).ready (seq m s given (count k)) (truth-here k b x.2) x.0 (st.stage k).pending (inv.between k b)

  -- With right guesses in all stages nothing is squashed, and the timeline's stages hold the pipeline's counts after the cycle too.
  module _ (right : (j : ℕ) → j < m.stages → RightHere j) where
    no-back : back m st inputs ≡ 0
    no-back = let x = acc.some_stages in let y = calm-at 0 (λ j _ b. right j b) 0 (omega arith) (omega arith) in omega arith

    pub goes : (k : ℕ) → k < m.stages → ue m st inputs k ≡ moves_on m s given hold inputs k
    goes k b = moves-at 0 (λ j _ c. right j c) k (omega arith) b

    block : (k : ℕ) → k < m.stages → stall m st inputs k ≡ blocked m s given hold inputs k
    block k b = block-at 0 (λ j _ c. right j c) k (omega arith) b

    pub still-right : (k : ℕ) → k < m.stages → RightAt m s given (cycle m st inputs) (next_count m st inputs count) k
    unfolding next_stage
    still-right zero b f = tt
    still-right (suc k) b f = right-kept 0 (λ j _ c. right j c) k b (λ _. omega arith) (λ _ _. omega arith) f

    -- The hints are those of the timeline after the cycle too.
    hint-kept : (x : ℕ) → next_hints m st inputs x ≡ hints_after m s given hold inputs st.hints x
    unfolding next_hints hints_after
    hint-kept x =
        let b = acc.aims x in
        ⊎_elim
        (λ (u : ue m st inputs (m.hint_stage x) ≡ true).
        cond-true _ _ _ u
        ∙ ap (λ (o : ℕ → Option ℕ). unwrap_or (o x) (st.hints x)) (aims-at 0 (λ j _ c. right j c) (m.hint_stage x) (omega arith) b u)
        ∙ ap (λ (o : Option ℕ). unwrap_or (aim_given m s given inputs st.hints o (m.hint_stage x) x) (st.hints x)) (sym (held-here (m.hint_stage x) b (ue-parts m st inputs (m.hint_stage x) u).0))
        ∙ sym (cond-true (moves_on m s given hold inputs (m.hint_stage x)) _ _ (sym (goes (m.hint_stage x) b) ∙ u)))
        (λ (u : ue m st inputs (m.hint_stage x) ≡ false). cond-false _ _ _ u ∙ sym (cond-false (moves_on m s given hold inputs (m.hint_stage x)) _ _ (sym (goes (m.hint_stage x) b) ∙ u)))
        (cases_Bool (ue m st inputs (m.hint_stage x)))

    pub hints-kept : next_hints m st inputs ≡ hints_after m s given hold inputs st.hints
    hints-kept = fun_ext hint-kept

    pub hold-kept : (k : ℕ) → k < m.stages
        → next_hold m s given hold inputs k ≡ cond (next_stage m st inputs k).full (Some (next_count m st inputs count k)) None
    unfolding next_hold next_stage
    hold-kept zero b =
        let f : (st.stage 0).full ≡ true = ap (λ (c : StageState). c.full) inv.first in
        ⊎_elim
        (λ u. cond-true _ _ _ (sym (goes 0 b) ∙ u) ∙ ap next_number (held-here 0 b f) ∙ ap Some (sym (count-came m st inputs count 0 u)))
        (λ u. cond-false _ _ _ (sym (goes 0 b) ∙ u) ∙ held-here 0 b f ∙ ap Some (sym (count-stays m st inputs count 0 (rw no-back (omega arith)) u)))
        (cases_Bool (ue m st inputs 0))
    hold-kept (suc k) b =
        let k' : k < m.stages = omega arith in
        ⊎_elim
        (λ u. cond-true (moves_on m s given hold inputs k) _ _ (sym (goes k k') ∙ u) ∙ held-here k k' (ue-parts m st inputs k u).0
        ∙ sym (ap₂ (λ (x : Bool) (y : ℕ). cond x (Some y) None) (next-moved m st inputs k u) (count-moved m st inputs count inv.chain k b u)))
        (λ u. ⊎_elim
        (λ q. cond-false (moves_on m s given hold inputs k) _ _ (sym (goes k k') ∙ u) ∙ cond-true (blocked m s given hold inputs (suc k)) _ _ (sym (block (suc k) b) ∙ q)
        ∙ held-here (suc k) b (stall-full m st inputs (suc k) q)
        ∙ sym (ap₂ (λ (x : Bool) (y : ℕ). cond x (Some y) None) (next-kept m st inputs k (rw no-back (omega arith)) q) (count-stays m st inputs count (suc k) (rw no-back (omega arith)) (ue-stalled m st inputs (suc k) q))))
        (λ q. cond-false (moves_on m s given hold inputs k) _ _ (sym (goes k k') ∙ u) ∙ cond-false (blocked m s given hold inputs (suc k)) _ _ (sym (block (suc k) b) ∙ q)
        ∙ sym (ap (λ (x : Bool). cond x (Some (next_count m st inputs count (suc k))) None) (next-none m st inputs k u q)))
        (cases_Bool (stall m st inputs (suc k))))
        (cases_Bool (ue m st inputs k))

    -- The row is that of the timeline.
    pub row-here : row m st inputs ≡ timeline_row m s given hold inputs
    row-here =
        let full = bits-same (λ k. (st.stage k).full) (λ k. is_some (hold k)) m.stages 0 (λ k a b. shown-here k (omega arith)) in
        let moves = bits-same (ue m st inputs) (moves_on m s given hold inputs) m.stages 0 (λ k a b. goes k (omega arith)) in
        ap₂ (λ (x y : List Bool). record { full = x; ue = y; back = back m st inputs }) full moves
        ∙ ap (λ (x : ℕ). record { full = bits (λ k. is_some (hold k)) m.stages 0; ue = bits (moves_on m s given hold inputs) m.stages 0; back = x }) no-back
