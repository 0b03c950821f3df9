use Rattle.std.specs.Prelude.{◌≡◌, ℕ, ◌+◌, ◌<◌, ◌≤◌, true, Option, None, unwrap_or}
use Rattle.kp_pipeline.specs.Machine.{Machine, Tree, Done, Ask, Guess}

-- WHAT ACCEPTANCE GUARANTEES of a machine: the rules of the language as far as the laws need them.

-- A stage's end: its puts don't change an intent that is already known, since a pipe is put once (E16); and a result
-- isn't set after its write stage (E20).
abbrev pub EndFits : Machine → ℕ → (ℕ → Option ℕ) → (ℕ → Option ℕ) → Type 0
EndFits m k puts sets =
    ((t : ℕ) (p : ℕ → ℕ) → m.has_result t ≡ true → m.known_from t ≤ k
    → (m.enabled t (λ q. unwrap_or (puts q) (p q)) ≡ m.enabled t p) × (m.address t (λ q. unwrap_or (puts q) (p q)) ≡ m.address t p))
    × ((t : ℕ) → m.has_result t ≡ true → m.write_stage t < k → sets t ≡ None)

-- A stage's tree: a target isn't read after its write stage (E18), and a guess is made two stages or more before the
-- write stage of its register, which has a result (E23).
abbrev pub Fits : Machine → ℕ → Tree → Type 0
Fits m k (Done puts sets aims) = EndFits m k puts sets
Fits m k (Ask t a rest) = (m.has_result t ≡ true → k ≤ m.write_stage t) × ((v : ℕ) → Fits m k (rest v))
Fits m k (Guess t guess rest) =
    (m.has_result t ≡ true) × (k + 2 ≤ m.write_stage t) × (m.write_stage t ≤ m.last_guessed) × ((v : ℕ) → Fits m k (rest v))

-- All rules except the window rule.
pub record AcceptedButForWindow (m : Machine) : Type 0 where
  pub some_stages : 1 ≤ m.stages
  pub fits : (k : ℕ) (q p : ℕ → ℕ) → k < m.stages → Fits m k (m.body k q p)
  -- a stage uses only its own samples (E34)
  pub own_samples : (k : ℕ) (q r p : ℕ → ℕ) → k < m.stages
      → ((x : ℕ) → m.sample_stage x ≡ k → q x ≡ r x) → m.body k q p ≡ m.body k r p
  -- a sample is used in a stage in which its instruction can't be squashed any more (E35)
  pub late_samples : (x : ℕ) → m.sample_stage x < m.stages → m.last_guessed ≤ m.sample_stage x + 1
  -- a write stage is an existing stage (E15), and the intent is known in it (E19)
  pub writes : (t : ℕ) → m.has_result t ≡ true → m.write_stage t < m.stages
  pub knows : (t : ℕ) → m.has_result t ≡ true → m.known_from t ≤ m.write_stage t
  -- a hint is aimed in an existing stage
  pub aims : (x : ℕ) → m.hint_stage x < m.stages

-- The window rule: no target is written before the stage in which the last wrong guess is found (E24).
pub record Accepted (m : Machine) : Type 0 where
  pub but_for_window : AcceptedButForWindow m
  pub open but_for_window use *
  pub window : (t : ℕ) → m.has_result t ≡ true → m.last_guessed ≤ m.write_stage t + 1
