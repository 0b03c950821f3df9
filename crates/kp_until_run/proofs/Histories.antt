-- The words of a target after two of its updates.
use Rattle.std.proofs.Common.{◌≡◌, ◌∙◌, ℕ, zero, suc, ◌+◌, ◌-◌, ◌<◌, ◌≤◌, ◌⊎◌, inl, inr, Bool, true, false, refl, eq-eqb, ap, sym, subst, arith, ⊎_elim}
use Rattle.std.proofs.lemmas.Bool.{both_ways, eqb-true, ne_eqb}
use Rattle.std.specs.Prelude.{◌==◌, if◌then◌else◌}
use Rattle.kp_bits.specs.Word.{Word}
use Rattle.kp_until_run.specs.inner.Histories.{IsUpdate, Remembers, address_at, old_at}
use Rattle.kp_until_run.specs.declared.history.History.{History}

-- a word that no update in between changed is the same, and so is each word that some did change if the changed ones are
module _ (f : ℕ → ℕ → Word) (size c d a : ℕ) (h : History) (is : Remembers f size h) (near : h.count ≤ c + 16) (order : c ≤ d) (there : d ≤ h.count) (low : a < size)
    (same : (k : ℕ) → c ≤ k → k < d → (f c (address_at h k)).value ≡ (f d (address_at h k)).value) where
  one : (n : ℕ) → c + n < d → f c a ≡ f (c + n) a → (b : Bool) → (a == address_at h (c + n)) ≡ b → (f c a ≡ f (c + suc n) a) ⊎ ((f c a).value ≡ (f d a).value)
  one n h2 kept true e =
      let at : a ≡ address_at h (c + n) = eqb-true a _ e in
      inr (subst (λ (x : ℕ). (f c x).value ≡ (f d x).value) (sym at) (same (c + n) (omega arith) h2))
  one n h2 kept false e =
      inl (kept ∙ is.before (c + n) a (omega (arith, h2, there)) (omega (arith, near)) low
      ∙ ap (λ (b : Bool). if b then old_at h (c + n) else f (suc (c + n)) a) e
      ∙ ap (λ (i : ℕ). f i a) (let s : suc (c + n) ≡ c + suc n = omega arith in s))

  walk : (n : ℕ) → c + n ≤ d → (f c a ≡ f (c + n) a) ⊎ ((f c a).value ≡ (f d a).value)
  walk zero h2 = inl (ap (λ (i : ℕ). f i a) (let e : c ≡ c + 0 = omega arith in e))
  walk (suc n) h2 = ⊎_elim (λ (kept : f c a ≡ f (c + n) a). one n (omega (arith, h2)) kept (a == address_at h (c + n)) refl) (λ (done : (f c a).value ≡ (f d a).value). inr done) (walk n (omega (arith, h2)))

  pub same_between : (f c a).value ≡ (f d a).value
  same_between = ⊎_elim
      (λ (kept : f c a ≡ f (c + (d - c)) a). ap (λ (w : Word). w.value) (kept ∙ ap (λ (i : ℕ). f i a) (let e : c + (d - c) ≡ d = omega (arith, order) in e)))
      (λ (done : (f c a).value ≡ (f d a).value). done) (walk (d - c) (let e : c + (d - c) ≤ d = omega (arith, order) in e))

-- the word at an address before update i, which changed it or didn't
module _ (f : ℕ → ℕ → Word) (size i a : ℕ) (h : History) (is : Remembers f size h) (near : h.count ≤ i + 16) (there : i < h.count) (low : a < size) where
  pub changed_here : address_at h i ≡ a → f i a ≡ old_at h i
  changed_here at = is.before i a there near low ∙ ap (λ (b : Bool). if b then old_at h i else f (suc i) a) (eq-eqb a (address_at h i) (sym at))

  pub kept_here : (address_at h i ≡ a → ⊥) → f i a ≡ f (i + 1) a
  kept_here other =
      is.before i a there near low
      ∙ ap (λ (b : Bool). if b then old_at h i else f (suc i) a) (ne_eqb a (address_at h i) (λ e. other (sym e)))
      ∙ ap (λ (j : ℕ). f j a) (let s : suc i ≡ i + 1 = omega arith in s)

-- an update that changes no other word
pub is_update : (f : ℕ → ℕ → Word) (size count address : ℕ) (value : Word) → ((a : ℕ) → a < size → (a ≡ address → ⊥) → f (count + 1) a ≡ f count a)
    → (address < size → f (count + 1) address ≡ value) → IsUpdate f size count address value
is_update f size count address value others here a low = go (a == address) refl
  where
    next : suc count ≡ count + 1
    next = omega arith

    go : (b : Bool) → (a == address) ≡ b → f (suc count) a ≡ (if b then value else f count a)
    go true e =
        let at : a ≡ address = eqb-true a address e in
        ap (λ (i : ℕ). f i a) next ∙ ap (f (count + 1)) at ∙ here (omega (arith, low, at))
    go false e = ap (λ (i : ℕ). f i a) next ∙ others a low (λ at. both_ways (a == address) e (eq-eqb a address at))
