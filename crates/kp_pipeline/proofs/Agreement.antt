use Rattle.std.proofs.Common.{◌≡◌, ℕ, ◌+◌, ◌≤◌, true, false, Option, Some, None, refl, ap, ap₂, ◌∙◌, ◌⊎◌, inl, inr, ⊎_elim, arith}
use Rattle.std.{specs.List.AllByRecursion, proofs.lemmas.Bool.true≢false}
use Rattle.kp_pipeline.specs.Machine.{Ask, Done, Guess, Machine, Tree}
use Rattle.kp_pipeline.specs.{Sequential.Instruction, Sequential.PendingGuess, Sequential.StageOutcome, Sequential.after_stage, Sequential.run, Accepted.Fits}

-- A guess is right if it is the register's value in the state s.
abbrev pub IsRight : (ℕ → ℕ → ℕ) → PendingGuess → Type 0
IsRight s p = p.value ≡ s p.register 0

-- Two outcomes put and set alike.
abbrev pub SameEffect : StageOutcome → StageOutcome → Type 0
SameEffect r q = (r.puts ≡ q.puts) × (r.sets ≡ q.sets)

-- A truth, if there is one, is the value in s.
pub truth-or-none : (o : Option ℕ) (w : ℕ) → ((v : ℕ) → o ≡ Some v → v ≡ w) → (o ≡ Some w) ⊎ (o ≡ None)
truth-or-none None w is = inr refl
truth-or-none (Some v) w is = inl (ap Some (is v refl))

-- with no hazard, with right truths and right guesses, a stage does what the sequential machine does, and with the same
-- hints it aims what that aims
pub run-agrees : (m : Machine) (k : ℕ) (view : ℕ → ℕ → Option ℕ) (h g : ℕ → ℕ) (s : ℕ → ℕ → ℕ) (x : Tree) → Fits m k x
    → ((t a v : ℕ) → (m.has_result t ≡ true → k ≤ m.write_stage t) → view t a ≡ Some v → v ≡ s t a)
    → (run view h x).hazard ≡ false → AllByRecursion (IsRight s) (run view h x).guesses
    → SameEffect (run view h x) (run (λ t a. Some (s t a)) g x) × (h ≡ g → (run view h x).aims ≡ (run (λ t a. Some (s t a)) g x).aims)
run-agrees m k view h g s (Done p q w) f truth hz ev = ((refl, refl), (λ e. ap w e))
run-agrees m k view h g s (Ask t a x) f truth hz ev =
    ⊎_elim (λ e. rw e (run-agrees m k view h g s (x (s t a)) (f.1 (s t a)) truth (rw e at hz) (rw e at ev)))
    (λ e. absurd (true≢false (rw e at hz))) (truth-or-none (view t a) (s t a) (λ v e. truth t a v f.0 e))
run-agrees m k view h g s (Guess t e x) f truth hz ev =
    ⊎_elim (λ q. rw q (run-agrees m k view h g s (x (s t 0)) (f.3 (s t 0)) truth (rw q at hz) (rw q at ev)))
    (λ q.
    let r = rw q at ev in
    let i : e h ≡ s t 0 = r.0 in
    rw (q, i) (run-agrees m k view h g s (x (s t 0)) (f.3 (s t 0)) truth (rw (q, i) at hz) (rw i at r.1)))
    (truth-or-none (view t 0) (s t 0) (λ v q. truth t 0 v (λ _. let b : k + 2 ≤ m.write_stage t = f.1 in omega arith) q))

-- An instruction that enters the same stage as another, with the same effect, leaves it the same.
pub after-same : (c d : Instruction) (r q : StageOutcome) → c ≡ d → SameEffect r q → after_stage c r ≡ after_stage d q
after-same c d r q e h =
    ap₂ (λ (ps : ℕ → Option ℕ) (ss : ℕ → Option ℕ). after_stage c (record { hazard = r.hazard; puts = ps; sets = ss; guesses = r.guesses; aims = r.aims })) h.0 h.1
    ∙ ap (λ (x : Instruction). after_stage x q) e
