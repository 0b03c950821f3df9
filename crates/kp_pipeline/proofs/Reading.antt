use Rattle.std.proofs.Common.{◌≡◌, ℕ, ◌+◌, ◌<◌, ◌≤◌, Bool, true, false, not, ◌&&◌, ◌||◌, eqb, List, [], ◌∷◌, Option, Some, None, is_some, refl, sym, ap, ap₂, ◌∙◌, ◌⊎◌, inl, inr, ⊎_elim, arith, eq-eqb}
use Rattle.std.{specs.List.AllByRecursion, proofs.lemmas.Bool.or_from, proofs.lemmas.Bool.true≢false}
use Rattle.kp_pipeline.specs.{Machine.Ask, Machine.Done, Machine.Guess, Machine.Machine, Machine.Tree, Sequential.PendingGuess, Sequential.run}
use Rattle.kp_pipeline.specs.{Pipeline.differs, Pipeline.some_differs, Accepted.Fits, Claims.StandsBefore, Timeline.HasNoGuess, Timeline.some_unmet}
use Rattle.kp_pipeline.specs.RightPath.{MakesRightGuesses, some_missing, some_shows_wrong}
use Rattle.kp_pipeline.proofs.Agreement.{IsRight, truth-or-none}

-- A stage without a guessed read makes no wrong guess.
pub no_guess-right : (ready : ℕ → ℕ → Bool) (h : ℕ → ℕ) (s : ℕ → ℕ → ℕ) (x : Tree) → HasNoGuess x → MakesRightGuesses ready h s x
no_guess-right ready h s (Done p q w) g = tt
no_guess-right ready h s (Ask t a y) g = λ _. no_guess-right ready h s (y (s t a)) (g (s t a))
no_guess-right ready h s (Guess t e y) g = absurd g

-- THE READS OF STAGE k, in the pipeline, which has right truths, and in the timeline. Where a read isn't met, what comes after it doesn't matter.
module _ (m : Machine) (k : ℕ) (view : ℕ → ℕ → Option ℕ) (ready : ℕ → ℕ → Bool) (s : ℕ → ℕ → ℕ)
    (truth : (t a v : ℕ) → (m.has_result t ≡ true → k ≤ m.write_stage t) → view t a ≡ Some v → v ≡ s t a) where
  -- A register that is guessed in stage k, or of which a guess is pending there, can be read there.
  low : (t : ℕ) → k < m.write_stage t → m.has_result t ≡ true → k ≤ m.write_stage t
  low t b h = omega arith

  -- A stage without a hazard, whose guesses are right, has no unmet read, provided that what is available in the pipeline is ready in the timeline.
  pub unmet-none : ((t a : ℕ) → (m.has_result t ≡ true → k ≤ m.write_stage t) → is_some (view t a) ≡ true → ready t a ≡ true)
      → (h : ℕ → ℕ) (x : Tree) → Fits m k x
      → (run view h x).hazard ≡ false → AllByRecursion (IsRight s) (run view h x).guesses → some_unmet ready s x ≡ false
  unmet-none more h (Done p q w) f hz gs = refl
  unmet-none more h (Ask t a y) f hz gs =
      ⊎_elim (λ q.
      let e : ready t a ≡ true = more t a f.0 (ap (λ (o : Option ℕ). is_some o) q) in
      rw e (unmet-none more h (y (s t a)) (f.1 (s t a)) (rw q at hz) (rw q at gs)))
      (λ q. absurd (true≢false (rw q at hz))) (truth-or-none (view t a) (s t a) (λ v q. truth t a v f.0 q))
  unmet-none more h (Guess t e y) f hz gs =
      ⊎_elim (λ q. unmet-none more h (y (s t 0)) (f.3 (s t 0)) (rw q at hz) (rw q at gs))
      (λ q.
      let r = rw q at gs in
      let i : e h ≡ s t 0 = r.0 in
      unmet-none more h (y (s t 0)) (f.3 (s t 0)) (rw (q, i) at hz) (rw i at r.1))
      (truth-or-none (view t 0) (s t 0) (λ v q. truth t 0 v (low t (let b : k + 2 ≤ m.write_stage t = f.1 in omega arith)) q))

  -- A right pending guess doesn't differ from a right truth.
  pub right-no_differs : (xs : List PendingGuess) → AllByRecursion (IsRight s) xs → AllByRecursion (StandsBefore m k) xs → some_differs view xs ≡ false
  right-no_differs [] r h = refl
  right-no_differs (p ∷ ps) r h =
      or_from (differs (view p.register 0) p.value) (some_differs view ps)
      (⊎_elim (λ q. rw q (ap not (eq-eqb (s p.register 0) p.value (sym r.0)))) (λ q. rw q refl)
      (truth-or-none (view p.register 0) (s p.register 0) (λ v q. truth p.register 0 v (low p.register h.0.1) q)))
      (right-no_differs ps r.1 h.1)

  -- If exactly that is ready in the timeline, both see the same values up to the first read that isn't met.
  module _ (same : (t a : ℕ) → (m.has_result t ≡ true → k ≤ m.write_stage t) → is_some (view t a) ≡ ready t a) where
    met-or-not : (t a : ℕ) → (m.has_result t ≡ true → k ≤ m.write_stage t)
        → ((view t a ≡ Some (s t a)) × (ready t a ≡ true)) ⊎ ((view t a ≡ None) × (ready t a ≡ false))
    met-or-not t a l =
        ⊎_elim (λ q. inl (q, sym (same t a l) ∙ ap (λ (o : Option ℕ). is_some o) q)) (λ q. inr (q, sym (same t a l) ∙ ap (λ (o : Option ℕ). is_some o) q))
        (truth-or-none (view t a) (s t a) (λ v q. truth t a v l q))

    met-guess : (t : ℕ) → k + 2 ≤ m.write_stage t → ((view t 0 ≡ Some (s t 0)) × (ready t 0 ≡ true)) ⊎ ((view t 0 ≡ None) × (ready t 0 ≡ false))
    met-guess t b = met-or-not t 0 (low t (omega arith))

    -- So a data hazard of the pipeline is a read of the sequential instruction that isn't met, if the guesses that are made are right.
    pub hazard-unmet : (h : ℕ → ℕ) (x : Tree) → Fits m k x → MakesRightGuesses ready h s x → (run view h x).hazard ≡ some_unmet ready s x
    hazard-unmet h (Done p q w) f g = refl
    hazard-unmet h (Ask t a y) f g = ⊎_elim (λ q. rw (q.0, q.1) (hazard-unmet h (y (s t a)) (f.1 (s t a)) (g q.1))) (λ q. rw (q.0, q.1) refl) (met-or-not t a f.0)
    hazard-unmet h (Guess t e y) f g =
        ⊎_elim (λ q. rw q.0 (hazard-unmet h (y (s t 0)) (f.3 (s t 0)) g.1))
        (λ q. rw (q.0, g.0 q.1) (hazard-unmet h (y (s t 0)) (f.3 (s t 0)) g.1)) (met-guess t f.1)

    -- Where no read is missing, guessed reads included, there is no hazard, whatever would be guessed.
    pub had-all : (h : ℕ → ℕ) (x : Tree) → Fits m k x → some_missing ready s x ≡ false → (run view h x).hazard ≡ false
    had-all h (Done p q w) f n = refl
    had-all h (Ask t a y) f n =
        ⊎_elim (λ q. rw q.0 (had-all h (y (s t a)) (f.1 (s t a)) (rw q.1 at n))) (λ q. absurd (true≢false (rw q.1 at n))) (met-or-not t a f.0)
    had-all h (Guess t e y) f n =
        ⊎_elim (λ q. rw q.0 (had-all h (y (s t 0)) (f.3 (s t 0)) (rw q.1 at n))) (λ q. absurd (true≢false (rw q.1 at n))) (met-guess t f.1)

    -- Without a hazard, all guesses that are made are right.
    pub makes-right : (h : ℕ → ℕ) (x : Tree) → Fits m k x → MakesRightGuesses ready h s x
        → (run view h x).hazard ≡ false → AllByRecursion (IsRight s) (run view h x).guesses
    makes-right h (Done p q w) f g hz = tt
    makes-right h (Ask t a y) f g hz =
        ⊎_elim (λ q. rw q.0 (makes-right h (y (s t a)) (f.1 (s t a)) (g q.1) (rw q.0 at hz))) (λ q. absurd (true≢false (rw q.0 at hz))) (met-or-not t a f.0)
    makes-right h (Guess t e y) f g hz =
        ⊎_elim (λ q. rw q.0 (makes-right h (y (s t 0)) (f.3 (s t 0)) g.1 (rw q.0 at hz)))
        (λ q. let i : e h ≡ s t 0 = g.0 q.1 in rw (q.0, i) (refl, makes-right h (y (s t 0)) (f.3 (s t 0)) g.1 (rw (q.0, i) at hz))) (met-guess t f.1)

    -- A pending guess mismatches exactly if it is wrong and its register can be read.
    pub mismatch-wrong : (xs : List PendingGuess) → AllByRecursion (StandsBefore m k) xs → some_differs view xs ≡ some_shows_wrong ready s xs
    mismatch-wrong [] h = refl
    mismatch-wrong (p ∷ ps) h =
        let e : differs (view p.register 0) p.value ≡ (ready p.register 0 && not (eqb (s p.register 0) p.value)) =
        ⊎_elim (λ q. rw (q.0, q.1) refl) (λ q. rw (q.0, q.1) refl) (met-or-not p.register 0 (low p.register h.0.1)) in
        ap₂ (λ (x y : Bool). x || y) e (mismatch-wrong ps h.1)
