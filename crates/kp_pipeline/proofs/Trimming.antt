-- PIPES THAT NO STAGE USES DON'T MATTER. If no stage from some stage on uses certain pipes, their values there don't affect the run.
use Rattle.std.proofs.Common.{◌≡◌, ℕ, zero, suc, ◌-◌, Bool, true, false, cond, not, ◌&&◌, ◌||◌, eqb, leb, ◌++◌, filter, refl, sym, ap, ◌∙◌, ⊎_elim, arith, leb-true}
use Rattle.std.{proofs.lemmas.Bool.cases_Bool, proofs.lemmas.Bool.and_parts, specs.Prelude.unwrap_or}
use Rattle.kp_pipeline.specs.Pipeline.{PipelineState, Inputs, FromAbove, is_candidate, intent_known, candidate_hits, ok_value, outcome_given, stall_given, pass_down, from_stages, above, outcome, stall, some_differs, mismatches, greatest, back, ue, next_stage, next_visible, next_hints, cycle}
use Rattle.kp_pipeline.specs.Machine.{Machine}
use Rattle.kp_pipeline.specs.Sequential.{Instruction, StageOutcome, run, first_value, after_stage, intends, is_written}
use Rattle.kp_pipeline.specs.{Rows.bits, Rows.row, Trimming.trim, Trimming.trimmed_stage, Trimming.trimmed, Trimming.Alive}

alive_or : (b : Bool) (v w : ℕ) → (b ≡ true → v ≡ w) → cond b v 0 ≡ cond b w 0
alive_or true v w h = h refl
alive_or false v w h = refl

module _ (m : Machine) (alive : ℕ → ℕ → Bool) (a : Alive m alive) (st : PipelineState) (i : Inputs) where
  abbrev tr : PipelineState
  tr = trimmed alive st

  abbrev own : ℕ → ℕ → ℕ
  own k = (st.stage k).instruction.pipes

  candidate-same : (k t b : ℕ) → candidate_hits m tr k t b ≡ candidate_hits m st k t b
  candidate-same k t b = ⊎_elim
      (λ (y : is_candidate m k t ≡ true).
      let p = and_parts (m.has_result t) (leb k (m.write_stage t)) y in
      let l = leb-true k (m.write_stage t) p.1 in
      let e = a.enabled t k (own k) p.0 l in
      let f = a.address t k (own k) p.0 l in
      λ j. is_candidate m k t && ((st.stage k).full && (not (intent_known m k t) || (e j && eqb (f j) b))))
      (λ (n : is_candidate m k t ≡ false).
      ap (λ c. c && ((st.stage k).full && (not (intent_known m k t) || (m.enabled t (trim alive k (own k)) && eqb (m.address t (trim alive k (own k))) b)))) n
      ∙ sym (ap (λ c. c && ((st.stage k).full && (not (intent_known m k t) || (m.enabled t (own k) && eqb (m.address t (own k)) b)))) n))
      (cases_Bool (is_candidate m k t))

  given-same : (k : ℕ) (up : FromAbove) → outcome_given m tr i k up ≡ outcome_given m st i k up
  given-same k up = ap (run up.truth st.hints) (a.body k i.samples (own k))

  stalls-same : (k : ℕ) (up : FromAbove) → stall_given m tr i k up ≡ stall_given m st i k up
  stalls-same k up = ap (λ (o : StageOutcome). (st.stage k).full && (o.hazard || (i.ext k || up.stall))) (given-same k up)

  pass-same : (k : ℕ) (up : FromAbove) → pass_down m tr i k up ≡ pass_down m st i k up
  pass-same k up =
      let o = given-same k up in
      let s = stalls-same k up in
      λ j. record {
        truth = λ t b. cond (candidate-same k t b j)
            (ok_value (intent_known m k t) ((st.stage k).instruction.results t) (s j) ((o j).sets t) (eqb k (m.write_stage t))) (up.truth t b);
        stall = s j;
      }

  from-same : (d k : ℕ) → from_stages m tr i d k ≡ from_stages m st i d k
  unfolding from_stages
  from-same zero k = refl
  from-same (suc d) k = pass-same k (from_stages m tr i d (suc k)) ∙ ap (pass_down m st i k) (from-same d (suc k))

  above-same : (k : ℕ) → above m tr i k ≡ above m st i k
  unfolding above
  above-same k = from-same (m.stages - suc k) (suc k)

  pub outcome-same : (k : ℕ) → outcome m tr i k ≡ outcome m st i k
  unfolding outcome
  outcome-same k = given-same k (above m tr i k) ∙ ap (outcome_given m st i k) (above-same k)

  stall-same : (k : ℕ) → stall m tr i k ≡ stall m st i k
  unfolding stall
  stall-same k = stalls-same k (above m tr i k) ∙ ap (stall_given m st i k) (above-same k)

  mismatch-same : (k : ℕ) → mismatches m tr i k ≡ mismatches m st i k
  mismatch-same k = ap (λ (u : FromAbove). (st.stage k).full && some_differs u.truth (st.stage k).pending) (above-same k)

  back-same : back m tr i ≡ back m st i
  unfolding back
  back-same = ap (λ f. greatest f m.stages) (λ j k. mismatch-same k j)

  ue-same : (k : ℕ) → ue m tr i k ≡ ue m st i k
  unfolding ue
  ue-same k = let s = stall-same k in λ j. (st.stage k).full && (not (s j) && leb (back-same j) k)

  -- the row
  pub row-same : row m tr i ≡ row m st i
  row-same = λ j. record { full = bits (λ k. (st.stage k).full) m.stages 0; ue = bits (λ k. ue-same k j) m.stages 0; back = back-same j }

  -- the next state
  taken-pipe : (k x : ℕ) (u : Bool) (o : StageOutcome) → alive x (suc k) ≡ true
      → (cond u (after_stage (tr.stage k).instruction o) (tr.stage (suc k)).instruction).pipes x ≡ (cond u (after_stage (st.stage k).instruction o) (st.stage (suc k)).instruction).pipes x
  taken-pipe k x true o y = ap (λ b. unwrap_or (o.puts x) (cond b (own k x) 0)) (a.earlier x k y)
  taken-pipe k x false o y = ap (λ b. cond b (own (suc k) x) 0) y

  taken-results : (k : ℕ) (u : Bool) (o : StageOutcome)
      → (cond u (after_stage (tr.stage k).instruction o) (tr.stage (suc k)).instruction).results ≡ (cond u (after_stage (st.stage k).instruction o) (st.stage (suc k)).instruction).results
  taken-results k true o = refl
  taken-results k false o = refl

  stage-same : (k : ℕ) → trimmed_stage alive k (next_stage m tr i k) ≡ trimmed_stage alive k (next_stage m st i k)
  unfolding next_stage
  stage-same zero = refl
  stage-same (suc k) =
      let u = ue-same k in
      let o = outcome-same k in
      let s = stall-same (suc k) in
      let c : Bool → StageOutcome → Instruction = λ v w. cond v (after_stage (tr.stage k).instruction w) (tr.stage (suc k)).instruction in
      let d : Bool → StageOutcome → Instruction = λ v w. cond v (after_stage (st.stage k).instruction w) (st.stage (suc k)).instruction in
      let pipe : (x : ℕ) → cond (alive x (suc k)) ((c (ue m tr i k) (outcome m tr i k)).pipes x) 0 ≡ cond (alive x (suc k)) ((d (ue m st i k) (outcome m st i k)).pipes x) 0 =
      λ x. alive_or (alive x (suc k)) _ _ (λ y. (λ j. (c (u j) (o j)).pipes x) ∙ taken-pipe k x (ue m st i k) (outcome m st i k) y) in
      let results : (c (ue m tr i k) (outcome m tr i k)).results ≡ (d (ue m st i k) (outcome m st i k)).results = (λ j. (c (u j) (o j)).results) ∙ taken-results k (ue m st i k) (outcome m st i k) in
      λ j. record { full = leb (back-same j) (suc k) && (u j || s j); instruction = record { pipes = λ x. pipe x j; results = results j }; pending = cond (u j) (filter (λ p. not (eqb (m.write_stage p.register) (suc k))) ((o j).guesses ++ (st.stage k).pending)) (st.stage (suc k)).pending }

  written-same : (t b : ℕ) → is_written m (tr.stage (m.write_stage t)).instruction t b ≡ is_written m (st.stage (m.write_stage t)).instruction t b
  written-same t b = ⊎_elim
      (λ (y : m.has_result t ≡ true).
      let e = a.enabled t (m.write_stage t) (own (m.write_stage t)) y (omega arith) in
      let f = a.address t (m.write_stage t) (own (m.write_stage t)) y (omega arith) in
      λ j. m.has_result t && (e j && eqb (f j) b))
      (λ (n : m.has_result t ≡ false).
      ap (λ c. c && intends m (tr.stage (m.write_stage t)).instruction t b) n ∙ sym (ap (λ c. c && intends m (st.stage (m.write_stage t)).instruction t b) n))
      (cases_Bool (m.has_result t))

  visible-same : (t b : ℕ) → next_visible m tr i t b ≡ next_visible m st i t b
  unfolding next_visible
  visible-same t b =
      let u = ue-same (m.write_stage t) in
      let o = outcome-same (m.write_stage t) in
      λ j. cond (u j && written-same t b j) (unwrap_or (first_value ((st.stage (m.write_stage t)).instruction.results t) ((o j).sets t)) 0) (st.visible t b)

  hints-same : (h : ℕ) → next_hints m tr i h ≡ next_hints m st i h
  unfolding next_hints
  hints-same h =
      let u = ue-same (m.hint_stage h) in
      let o = outcome-same (m.hint_stage h) in
      λ j. cond (u j) (unwrap_or ((o j).aims h) (st.hints h)) (st.hints h)

  pub cycle-same : trimmed alive (cycle m tr i) ≡ trimmed alive (cycle m st i)
  cycle-same = λ j. record { visible = λ t b. visible-same t b j; hints = λ h. hints-same h j; stage = λ k. stage-same k j }
