use Rattle.std.proofs.Common.{◌≡◌, ℕ, zero, suc, ◌+◌, ◌-◌, ◌<◌, ◌≤◌, ◌≢◌, Bool, true, false, Option, Some, None, is_some, ap, sym, subst, ⊎_elim, refl, ◌∙◌, arith}
use Rattle.std.proofs.lemmas.Bool.{cases_Bool, cases_lt, cond-true, cond-false, both_ways}
use Rattle.kp_pipeline.specs.{Machine.Machine, Sequential.before_stage, Accepted.Accepted, Timeline.first_stage, SpeculativeTimeline.setting_stage}
use Rattle.kp_pipeline.proofs.Sequential.{no_result-final, result-stays}

-- the first stage that passes
first-below : (p : ℕ → Bool) (n k d j : ℕ) → k ≤ j → j < k + n → p j ≡ true → first_stage p n k d ≤ j
first-below p zero k d j a b e = absurd (omega arith)
first-below p (suc n) k d j a b e =
    ⊎_elim (λ (q : p k ≡ true). let x : first_stage p (suc n) k d ≡ k = cond-true (p k) k _ q in omega arith)
    (λ (q : p k ≡ false).
    let x : first_stage p (suc n) k d ≡ first_stage p n (suc k) d = cond-false (p k) k _ q in
    let w : k ≢ j = (λ (i : k ≡ j). both_ways (p j) (subst (λ (z : ℕ). p z ≡ false) i q) e) in
    let y = first-below p n (suc k) d j (omega arith) (omega arith) e in omega arith)
    (cases_Bool (p k))

first-above : (p : ℕ → Bool) (n k d j : ℕ) → j ≤ d → ((i : ℕ) → k ≤ i → i < j → p i ≡ false) → j ≤ first_stage p n k d
first-above p zero k d j a h = a
first-above p (suc n) k d j a h =
    ⊎_elim (λ (q : p k ≡ true).
    let x : first_stage p (suc n) k d ≡ k = cond-true (p k) k _ q in
    ⊎_elim (λ (i : k < j). absurd (both_ways (p k) (h k (omega arith) i) q)) (λ (i : j ≤ k). omega arith) (cases_lt k j))
    (λ (q : p k ≡ false).
    let x : first_stage p (suc n) k d ≡ first_stage p n (suc k) d = cond-false (p k) k _ q in
    let y = first-above p n (suc k) d j a (λ i u v. h i (omega arith) v) in omega arith)
    (cases_Bool (p k))

first-none : (p : ℕ → Bool) (n k d : ℕ) → ((i : ℕ) → k ≤ i → i < k + n → p i ≡ false) → first_stage p n k d ≡ d
first-none p zero k d h = refl
first-none p (suc n) k d h = cond-false (p k) k _ (h k (omega arith) (omega arith)) ∙ first-none p n (suc k) d (λ i u v. h i (omega arith) (omega arith))

none-is : (o : Option ℕ) → ((v : ℕ) → o ≡ Some v → ⊥) → o ≡ None
none-is None h = cc
none-is (Some v) h = absurd (h v cc)

module _ (m : Machine) (acc : Accepted m) (s : ℕ → ℕ → ℕ) (q : ℕ → ℕ) where
  -- THE SETTING STAGE is before a stage exactly if the result is set there.
  none-before : (t k j : ℕ) → j ≤ k → (before_stage m s q k).results t ≡ None → (before_stage m s q j).results t ≡ None
  none-before t k j b e =
      none-is _ (λ v h.
      let i : j + (k - j) ≡ k = omega arith in
      let x : (before_stage m s q k).results t ≡ Some v = (rw i at (result-stays m acc s q t j (k - j) v h)) in cc)

  pub setting-before : (t k v : ℕ) → k ≤ m.stages → (before_stage m s q k).results t ≡ Some v → setting_stage m s q t < k
  unfolding setting_stage before_stage
  setting-before t zero v b e = cc
  setting-before t (suc k) v b e =
      let x = first-below (λ j. is_some ((before_stage m s q (suc j)).results t)) m.stages 0 (m.write_stage t) k (omega arith) (omega arith) (ap (λ (o : Option ℕ). is_some o) e) in
      omega arith

  pub setting-after : (t k : ℕ) → k ≤ m.write_stage t → (before_stage m s q k).results t ≡ None → k ≤ setting_stage m s q t
  unfolding setting_stage
  setting-after t k b e =
      first-above (λ j. is_some ((before_stage m s q (suc j)).results t)) m.stages 0 (m.write_stage t) k b (λ i u v. ap (λ (o : Option ℕ). is_some o) (none-before t k (suc i) v e))

  pub setting-last : (t k : ℕ) → m.has_result t ≡ true → k ≡ m.write_stage t
      → (before_stage m s q (suc k)).results t ≡ None → setting_stage m s q t ≡ k
  unfolding setting_stage
  setting-last t k h i e =
      let b : m.write_stage t < m.stages = acc.writes t h in
      let all = no_result-final m acc s q t (suc k) h (omega arith) (omega arith) e in
      first-none (λ j. is_some ((before_stage m s q (suc j)).results t)) m.stages 0 (m.write_stage t) (λ j u v. ap (λ (o : Option ℕ). is_some o) (none-before t m.stages (suc j) (omega arith) all)) ∙ sym i
