-- What comes of a stage is one of its ends.
use Rattle.std.proofs.Common.{ℕ, Option, Some, None}
use Rattle.kp_pipeline.specs.Machine.{Tree, Done, Ask, Guess}
use Rattle.kp_pipeline.specs.{Sequential.StageOutcome, Sequential.after_read, Sequential.after_guess, Sequential.run, Ends.Ends}

module _ (P : (ℕ → Option ℕ) → (ℕ → Option ℕ) → Type 0) where
  read-ends : (o : Option ℕ) (go : ℕ → StageOutcome) → ((v : ℕ) → P (go v).puts (go v).sets) → P (after_read o go).puts (after_read o go).sets
  read-ends None go h = h 0
  read-ends (Some v) go h = h v

  guess-ends : (o : Option ℕ) (t g : ℕ) (go : ℕ → StageOutcome) → ((v : ℕ) → P (go v).puts (go v).sets) → P (after_guess o t g go).puts (after_guess o t g go).sets
  guess-ends None t g go h = h g
  guess-ends (Some v) t g go h = h v

  pub run-ends : (view : ℕ → ℕ → Option ℕ) (hints : ℕ → ℕ) (tree : Tree) → Ends P tree → P (run view hints tree).puts (run view hints tree).sets
  run-ends view hints (Done puts sets aims) h = h
  run-ends view hints (Ask t a rest) h = read-ends (view t a) (λ v. run view hints (rest v)) (λ v. run-ends view hints (rest v) (h v))
  run-ends view hints (Guess t guess rest) h = guess-ends (view t 0) t (guess hints) (λ v. run view hints (rest v)) (λ v. run-ends view hints (rest v) (h v))
