use Rattle.std.proofs.Common.{◌≡◌, ℕ, zero, suc, ◌+◌, ◌-◌, ◌<◌, ◌≤◌, Bool, true, false, ◌&&◌, eqb, Option, Some, None, refl, ap₂, ◌∙◌, arith, ◌∷◌, [], unwrap_or}
use Rattle.std.{specs.List.AllByRecursion, proofs.lemmas.Bool.cond-true, proofs.lemmas.Bool.cond-false}
use Rattle.kp_pipeline.specs.Machine.{Ask, Done, Guess, Machine, Tree}
use Rattle.kp_pipeline.specs.Sequential.{PendingGuess, StageOutcome, after_guess, after_read, before_stage, instruction_before, is_written, run, seq}
use Rattle.kp_pipeline.specs.{Accepted.Accepted, Accepted.EndFits, Accepted.Fits, Timeline.HasNoGuess}

-- RUNNING A TREE. A property of the end that a run reaches, whatever was read, is a property of its outcome. `P` must
-- not depend on the hazard, nor, for the second lemma, be lost when a guess is added.
pub read-keeps : (P : StageOutcome → Type 0) → ((r : StageOutcome) → P r → P (record r { hazard = true }))
    → (o : Option ℕ) (go : ℕ → StageOutcome) → ((v : ℕ) → P (go v)) → P (after_read o go)
read-keeps P more (Some v) go h = h v
read-keeps P more None go h = more (go 0) (h 0)

pub guess-keeps : (P : StageOutcome → Type 0) (o : Option ℕ) (t g : ℕ) (go : ℕ → StageOutcome)
    → ((r : StageOutcome) → o ≡ None → P r → P (record r { guesses = record { register = t; value = g } ∷ r.guesses }))
    → ((v : ℕ) → P (go v)) → P (after_guess o t g go)
guess-keeps P (Some v) t g go more h = h v
guess-keeps P None t g go more h = more (go g) refl (h g)

-- What a stage puts and sets is what acceptance allows at the ends of its tree.
pub run-fits : (m : Machine) (k : ℕ) (view : ℕ → ℕ → Option ℕ) (h : ℕ → ℕ) (x : Tree) → Fits m k x
    → EndFits m k (run view h x).puts (run view h x).sets
run-fits m k view h (Done p s w) f = f
run-fits m k view h (Ask t a g) f = read-keeps (λ r. EndFits m k r.puts r.sets) (λ r e. e) (view t a) (λ v. run view h (g v)) (λ v. run-fits m k view h (g v) (f.1 v))
run-fits m k view h (Guess t e g) f = guess-keeps (λ r. EndFits m k r.puts r.sets) (view t 0) t (e h) (λ v. run view h (g v)) (λ r _ e. e) (λ v. run-fits m k view h (g v) (f.3 v))

-- The location of a guess that is made in stage k: two stages or more below its register's write stage.
abbrev pub GuessedIn : Machine → ℕ → PendingGuess → Type 0
GuessedIn m k p = (m.has_result p.register ≡ true) × (k + 2 ≤ m.write_stage p.register) × (m.write_stage p.register ≤ m.last_guessed)

-- So a guess that is made has a register that acceptance allows.
pub run-guessed : (m : Machine) (k : ℕ) (view : ℕ → ℕ → Option ℕ) (h : ℕ → ℕ) (x : Tree) → Fits m k x
    → AllByRecursion (GuessedIn m k) (run view h x).guesses
run-guessed m k view h (Done p s w) f = tt
run-guessed m k view h (Ask t a g) f = read-keeps (λ r. AllByRecursion (GuessedIn m k) r.guesses) (λ r e. e) (view t a) (λ v. run view h (g v)) (λ v. run-guessed m k view h (g v) (f.1 v))
run-guessed m k view h (Guess t e g) f = guess-keeps (λ r. AllByRecursion (GuessedIn m k) r.guesses) (view t 0) t (e h) (λ v. run view h (g v)) (λ r _ es. ((f.0, f.1, f.2), es)) (λ v. run-guessed m k view h (g v) (f.3 v))

-- A guess is made only if there is no truth.
pub run-absent : (view : ℕ → ℕ → Option ℕ) (h : ℕ → ℕ) (x : Tree)
    → AllByRecursion (λ p. view p.register 0 ≡ None) (run view h x).guesses
run-absent view h (Done p s w) = tt
run-absent view h (Ask t a g) = read-keeps (λ r. AllByRecursion (λ p. view p.register 0 ≡ None) r.guesses) (λ r e. e) (view t a) (λ v. run view h (g v)) (λ v. run-absent view h (g v))
run-absent view h (Guess t e g) = guess-keeps (λ r. AllByRecursion (λ p. view p.register 0 ≡ None) r.guesses) (view t 0) t (e h) (λ v. run view h (g v)) (λ r n es. (n, es)) (λ v. run-absent view h (g v))

-- A tree without guesses makes none.
pub run-no_guess : (view : ℕ → ℕ → Option ℕ) (h : ℕ → ℕ) (x : Tree) → HasNoGuess x → (run view h x).guesses ≡ []
run-no_guess view h (Done p q w) g = refl
run-no_guess view h (Ask t a y) g = read-keeps (λ r. r.guesses ≡ []) (λ r e. e) (view t a) (λ v. run view h (y v)) (λ v. run-no_guess view h (y v) (g v))
run-no_guess view h (Guess t e y) g = absurd g

module _ (m : Machine) (acc : Accepted m) (s : ℕ → ℕ → ℕ) (q : ℕ → ℕ) where
  -- THE SEQUENTIAL INSTRUCTION from stage to stage.
  stage-fits : (k : ℕ) → k < m.stages
      → EndFits m k (run (λ t a. Some (s t a)) (λ h. 0) (m.body k q (before_stage m s q k).pipes)).puts (run (λ t a. Some (s t a)) (λ h. 0) (m.body k q (before_stage m s q k).pipes)).sets
  stage-fits k h = run-fits m k (λ t a. Some (s t a)) (λ h. 0) (m.body k q (before_stage m s q k).pipes) (acc.fits k q (before_stage m s q k).pipes h)

  -- a known intent stays
  intent-stays : (t k d : ℕ) → m.has_result t ≡ true → m.known_from t ≤ k → k + d ≤ m.stages
      → (m.enabled t (before_stage m s q (k + d)).pipes ≡ m.enabled t (before_stage m s q k).pipes)
      × (m.address t (before_stage m s q (k + d)).pipes ≡ m.address t (before_stage m s q k).pipes)
  unfolding before_stage
  intent-stays t k zero h e b = let e' : k + 0 ≡ k = omega arith in rw e' (refl, refl)
  intent-stays t k (suc d) h e b =
      let e' : k + suc d ≡ suc (k + d) = omega arith in
      let x = (stage-fits (k + d) (omega arith)).0 t (before_stage m s q (k + d)).pipes h (omega arith) in
      let y = intent-stays t k d h e (omega arith) in
      rw e' (x.0 ∙ y.0, x.1 ∙ y.1)

  -- a result that is set stays, and none is set after the write stage
  pub result-stays : (t k d v : ℕ) → (before_stage m s q k).results t ≡ Some v → (before_stage m s q (k + d)).results t ≡ Some v
  unfolding before_stage
  result-stays t k zero v h = let e' : k + 0 ≡ k = omega arith in rw e' h
  result-stays t k (suc d) v h =
      let e' : k + suc d ≡ suc (k + d) = omega arith in
      let e = result-stays t k d v h in
      rw e' (rw e refl)

  pub no_result-stays : (t k d : ℕ) → m.has_result t ≡ true → m.write_stage t < k → k + d ≤ m.stages
      → (before_stage m s q k).results t ≡ None → (before_stage m s q (k + d)).results t ≡ None
  unfolding before_stage
  no_result-stays t k zero h b c e = let e' : k + 0 ≡ k = omega arith in rw e' e
  no_result-stays t k (suc d) h b c e =
      let e' : k + suc d ≡ suc (k + d) = omega arith in
      let i = no_result-stays t k d h b (omega arith) e in
      rw e' (rw i ((stage-fits (k + d) (omega arith)).1 t h (omega arith)))

  -- what one instruction does to a target, as seen from stage k
  pub written-from : (t a k : ℕ) → m.has_result t ≡ true → m.known_from t ≤ k → k ≤ m.stages
      → is_written m (before_stage m s q m.stages) t a ≡ is_written m (before_stage m s q k) t a
  written-from t a k h e b =
      let e' : k + (m.stages - k) ≡ m.stages = omega arith in
      let x = rw e' at (intent-stays t k (m.stages - k) h e (omega arith)) in
      ap₂ (λ (b : Bool) (n : ℕ). m.has_result t && (b && eqb n a)) x.0 x.1

  -- The final result is known from the stage in which it is set, and from the write stage on if it isn't set.
  pub result-final : (t k v : ℕ) → k ≤ m.stages → (before_stage m s q k).results t ≡ Some v
      → (before_stage m s q m.stages).results t ≡ Some v
  result-final t k v b e =
      let e' : k + (m.stages - k) ≡ m.stages = omega arith in
      rw e' at (result-stays t k (m.stages - k) v e)

  pub no_result-final : (t k : ℕ) → m.has_result t ≡ true → m.write_stage t < k → k ≤ m.stages
      → (before_stage m s q k).results t ≡ None → (before_stage m s q m.stages).results t ≡ None
  no_result-final t k h b c e =
      let e' : k + (m.stages - k) ≡ m.stages = omega arith in
      rw e' at (no_result-stays t k (m.stages - k) h b (omega arith) e)

-- a target without a result stays
pub seq-fixed : (m : Machine) (s given : ℕ → ℕ → ℕ) (t a i : ℕ) → m.has_result t ≡ false → seq m s given i t a ≡ s t a
unfolding seq
seq-fixed m s given t a zero h = refl
seq-fixed m s given t a (suc i) h = rw h (seq-fixed m s given t a i h)

-- The next state at a target and address that the instruction doesn't write, and at one that it writes.
pub seq-other : (m : Machine) (s given : ℕ → ℕ → ℕ) (t a i : ℕ)
    → is_written m (instruction_before m s given i m.stages) t a ≡ false → seq m s given (suc i) t a ≡ seq m s given i t a
unfolding seq
seq-other m s given t a i e = cond-false _ _ _ e

pub seq-written : (m : Machine) (s given : ℕ → ℕ → ℕ) (t a i : ℕ)
    → is_written m (instruction_before m s given i m.stages) t a ≡ true
    → seq m s given (suc i) t a ≡ unwrap_or ((instruction_before m s given i m.stages).results t) 0
unfolding seq
seq-written m s given t a i e = cond-true _ _ _ e
