-- A search for the first cycle in which a condition is true.
use Rattle.std.proofs.Common.{◌≡◌, ◌∙◌, ℕ, zero, suc, ◌+◌, ◌-◌, ◌<◌, ◌≤◌, Bool, true, false, refl, ap, ap₂, sym, arith, ⊎_elim}
use Rattle.std.{proofs.lemmas.Bool.cases_lt, specs.Prelude.if◌then◌else◌}
use Rattle.kp_debug.specs.Inspecting.{first_from}

module _ (holds : ℕ → Bool) where
  pub within : (cycle n : ℕ) → (cycle ≤ first_from holds cycle n) × (first_from holds cycle n ≤ cycle + n)
  within cycle zero = (omega arith, omega arith)
  within cycle (suc n) = go (holds cycle) (within (cycle + 1) n)
    where
      go : (b : Bool) → (cycle + 1 ≤ first_from holds (cycle + 1) n) × (first_from holds (cycle + 1) n ≤ cycle + 1 + n)
          → (cycle ≤ (if b then cycle else first_from holds (cycle + 1) n)) × ((if b then cycle else first_from holds (cycle + 1) n) ≤ cycle + suc n)
      go true h = (omega arith, omega arith)
      go false h = (omega (arith, h.0), omega (arith, h.1))

  pub before : (cycle n k : ℕ) → cycle ≤ k → k < first_from holds cycle n → holds k ≡ false
  before cycle zero k h l = absurd (omega (arith, h, l))
  before cycle (suc n) k h l = go (before (cycle + 1) n k) (holds cycle) refl l
    where
      go : (cycle + 1 ≤ k → k < first_from holds (cycle + 1) n → holds k ≡ false) → (b : Bool) → holds cycle ≡ b
          → k < (if b then cycle else first_from holds (cycle + 1) n) → holds k ≡ false
      go rest true e m = absurd (omega (arith, h, m))
      go rest false e m = ⊎_elim
          (λ (z : cycle < k). rest (omega (arith, z)) m)
          (λ (z : k ≤ cycle). let same : k ≡ cycle = omega (arith, h, z) in ap holds same ∙ e)
          (cases_lt cycle k)

  pub ends : (cycle n : ℕ) → holds (first_from holds cycle n) ≡ false → first_from holds cycle n ≡ cycle + n
  ends cycle zero e = omega arith
  ends cycle (suc n) e = go (ends (cycle + 1) n) (holds cycle) refl e
    where
      go : (holds (first_from holds (cycle + 1) n) ≡ false → first_from holds (cycle + 1) n ≡ cycle + 1 + n) → (b : Bool) → holds cycle ≡ b
          → holds (if b then cycle else first_from holds (cycle + 1) n) ≡ false → (if b then cycle else first_from holds (cycle + 1) n) ≡ cycle + suc n
      go rest true is none = let both : true ≡ false = sym is ∙ none in cc both
      go rest false is none = let h = rest none in omega (arith, h)

  -- it is true here
  pub found : (cycle n : ℕ) → holds cycle ≡ true → first_from holds cycle n ≡ cycle
  found cycle zero e = refl
  found cycle (suc n) e = rw e refl

  -- it isn't true here, and a cycle more is left
  pub goes_on : (cycle n : ℕ) → holds cycle ≡ false → 1 ≤ n → first_from holds cycle n ≡ first_from holds (cycle + 1) (n - 1)
  goes_on cycle zero e h = absurd (omega (arith, h))
  goes_on cycle (suc n) e h = let one : n ≡ suc n - 1 = omega arith in rw e (ap (first_from holds (cycle + 1)) one)

-- two tests that agree in all cycles up to the last
pub alike : (f g : ℕ → Bool) (cycle n : ℕ) → ((k : ℕ) → k ≤ cycle + n → f k ≡ g k) → first_from f cycle n ≡ first_from g cycle n
alike f g cycle zero h = refl
alike f g cycle (suc n) h =
    ap₂ (λ (b : Bool) (c : ℕ). if b then cycle else c) (h cycle (omega arith)) (alike f g (cycle + 1) n (λ k l. h k (omega (arith, l))))
