-- A table of terms after one more.
use Rattle.std.proofs.Common.{◌≡◌, ◌∙◌, ℕ, ◌+◌, ◌⊎◌, Bool, true, false, cond, [], ◌∷◌, length, refl, sym, ap, arith, ⊎_elim, inl, inr, Option, None, Some}
use Rattle.std.{proofs.lemmas.Bool.false_from_ne_true, specs.Map.lookup}
use Rattle.kp_equiv.{specs.declared.term.Term.Term, proofs.Terms.is, proofs.Terms.term_from_eq, proofs.Terms.term_eq_itself}
use Rattle.kp_equiv.specs.inner.Shapes.{Numbered, Has, IsTable, Puts}

pub none_numbered : IsTable []
none_numbered = record { below = λ s i h. cc h; apart = λ s r i h k. cc h }

turned : (n q : Term) → is n q ≡ is q n
turned n q = by (is n q) (is q n) refl refl
  where
    by : (a b : Bool) → is n q ≡ a → is q n ≡ b → a ≡ b
    by true b f g = sym (sym g ∙ ap (is q) (term_from_eq n q f) ∙ term_eq_itself q)
    by false true f g = sym f ∙ ap (is n) (term_from_eq q n g) ∙ term_eq_itself n
    by false false f g = refl

-- a term that is in the table
pub found : (t : Numbered) (s : Term) (i : ℕ) → IsTable t → lookup (is s) t ≡ Some i → Puts t t s i
found t s i h e = record { there = e; extends = λ r j k. k; count = omega arith; table = h }

-- and one that isn't
module _ (old new : Numbered) (n : Term) (i : ℕ) (h : IsTable old) (none : lookup (is n) old ≡ None) (last : i ≡ length old)
    (put : (q : Term) → lookup (is q) new ≡ cond (is n q) (Some i) (lookup (is q) old)) (more : length new ≡ length old + 1) where
  has : (q : Term) (j : ℕ) → Has new q j → ((n ≡ q) × (j ≡ i)) ⊎ Has old q j
  has q j k = by (is n q) refl (sym (put q) ∙ k)
    where
      by : (b : Bool) → is n q ≡ b → cond b (Some i) (lookup (is q) old) ≡ Some j → ((n ≡ q) × (j ≡ i)) ⊎ Has old q j
      by true e f = inl (term_from_eq n q e, cc f)
      by false e f = inr f

  pub added : Puts old new n i
  added = record {
    there = put n ∙ ap (λ b. cond b (Some i) (lookup (is n) old)) (term_eq_itself n);
    extends = λ q j k. put q ∙ ap (λ b. cond b (Some i) (lookup (is q) old)) (false_from_ne_true (is n q) (λ e. other q j k (term_from_eq n q e))) ∙ k;
    count = omega (arith, more);
    table = record {
      below = λ q j k. ⊎_elim (λ e. omega (arith, e.1, last, more)) (λ o. let l = h.below q j o in omega (arith, l, more)) (has q j k);
      apart = λ q r j k l. ⊎_elim
          (λ e. ⊎_elim (λ f. sym e.0 ∙ f.0) (λ o. let m = h.below r j o in absurd (omega (arith, e.1, last, m))) (has r j l))
          (λ o. ⊎_elim (λ f. let m = h.below q j o in absurd (omega (arith, f.1, last, m))) (λ p. h.apart q r j o p) (has r j l))
          (has q j k);
    };
  }
    where
      other : (q : Term) (j : ℕ) → Has old q j → n ≡ q → ⊥
      other q j k e = let x : None ≡ Some j = sym none ∙ ap (λ (m : Term). lookup (is m) old) e ∙ k in cc

-- some table has the term
pub record SomePuts (t : Numbered) (s : Term) : Type 0 where
  pub new : Numbered
  pub number : ℕ
  pub puts : Puts t new s number

pub some_puts : (t : Numbered) (s : Term) → IsTable t → SomePuts t s
some_puts t s h = by (lookup (is s) t) refl
  where
    by : (r : Option ℕ) → lookup (is s) t ≡ r → SomePuts t s
    by (Some i) e = record { new = t; number = i; puts = found t s i h e }
    by None e = record {
      new = (s, length t) ∷ t;
      number = length t;
      puts = added t ((s, length t) ∷ t) s (length t) h e refl (λ q. ap (λ b. cond b (Some (length t)) (lookup (is q) t)) (turned q s)) (omega arith);
    }
