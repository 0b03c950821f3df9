-- Lists of guesses that pass the same tests have the same guessed value.
use Rattle.std.proofs.Common.{◌≡◌, ◌∙◌, ℕ, List, [], ◌∷◌, Option, Some, None, Bool, true, false, not, ◌&&◌, ◌||◌, cond, eq-eqb, refl, ap, sym}
use Rattle.std.proofs.lemmas.{Bool.eqb-true, Bool.eqb-false, Bool.ne_eqb, Bool.false≢true, Option.same_Some}
use Rattle.std.specs.{Prelude.◌==◌, List.list_any}
use Rattle.kp_pipeline.specs.Sequential.{PendingGuess}
use Rattle.kp_stalls_run.specs.Guessed.{agreed, first_guess, guessed_value, is_other_guess}
use Rattle.kp_machine.proofs.Cases.{by_test}

-- a guess of register t with the value v
abbrev is_guess : ℕ → ℕ → PendingGuess → Bool
is_guess t v p = (p.register == t) && (p.value == v)

-- the first guess is one of them
first_there : (t v : ℕ) (ps : List PendingGuess) → first_guess t ps ≡ Some v → list_any (is_guess t v) ps ≡ true
first_there t v [] e = cc
first_there t v (p ∷ ps) e = by_test (p.register == t)
    (λ h.
    let same : p.value ≡ v = same_Some p.value v (sym (ap (λ c. cond c (Some p.value) (first_guess t ps)) h) ∙ e) in
    ap (λ c. (c && (p.value == v)) || list_any (is_guess t v) ps) h ∙ ap (λ c. c || list_any (is_guess t v) ps) (eq-eqb p.value v same))
    (λ h.
    ap (λ c. (c && (p.value == v)) || list_any (is_guess t v) ps) h
    ∙ first_there t v ps (sym (ap (λ c. cond c (Some p.value) (first_guess t ps)) h) ∙ e))

-- where there is no first guess there is none
none_there : (t v : ℕ) (ps : List PendingGuess) → first_guess t ps ≡ None → list_any (is_guess t v) ps ≡ false
none_there t v [] e = refl
none_there t v (p ∷ ps) e = by_test (p.register == t)
    (λ h. (let both : Some p.value ≡ None = sym (ap (λ c. cond c (Some p.value) (first_guess t ps)) h) ∙ e in cc))
    (λ h.
    ap (λ c. (c && (p.value == v)) || list_any (is_guess t v) ps) h
    ∙ none_there t v ps (sym (ap (λ c. cond c (Some p.value) (first_guess t ps)) h) ∙ e))

-- a first guess with another value is another guess
other_there : (t u v : ℕ) (ps : List PendingGuess) → first_guess t ps ≡ Some u → (u == v) ≡ false → list_any (is_other_guess t v) ps ≡ true
other_there t u v [] e n = cc
other_there t u v (p ∷ ps) e n = by_test (p.register == t)
    (λ h.
    let same : p.value ≡ u = same_Some p.value u (sym (ap (λ c. cond c (Some p.value) (first_guess t ps)) h) ∙ e) in
    (λ i. (h i && not (same i == v)) || list_any (is_other_guess t v) ps) ∙ ap (λ c. not c || list_any (is_other_guess t v) ps) n)
    (λ h.
    ap (λ c. (c && not (p.value == v)) || list_any (is_other_guess t v) ps) h
    ∙ other_there t u v ps (sym (ap (λ c. cond c (Some p.value) (first_guess t ps)) h) ∙ e) n)

module _ (t : ℕ) (ps qs : List PendingGuess) (same : (test : PendingGuess → Bool) → list_any test ps ≡ list_any test qs) where
  go : (a b : Option ℕ) → first_guess t ps ≡ a → first_guess t qs ≡ b → agreed t ps a ≡ agreed t qs b
  go None None e f = refl
  go None (Some v) e f = absurd (false≢true (sym (none_there t v ps e) ∙ same (is_guess t v) ∙ first_there t v qs f))
  go (Some v) None e f = absurd (false≢true (sym (none_there t v qs f) ∙ sym (same (is_guess t v)) ∙ first_there t v ps e))
  go (Some v) (Some u) e f = by_test (u == v)
      (λ h.
      let is : u ≡ v = eqb-true u v h in
      ap (λ c. cond c None (Some v)) (same (is_other_guess t v)) ∙ ap (λ (w : ℕ). agreed t qs (Some w)) (sym is))
      (λ h.
      let turned : (v == u) ≡ false = ne_eqb v u (λ e. eqb-false u v h (sym e)) in
      ap (λ c. cond c None (Some v)) (same (is_other_guess t v) ∙ other_there t u v qs f h)
      ∙ sym (ap (λ c. cond c None (Some u)) (sym (same (is_other_guess t u)) ∙ other_there t v u ps e turned)))

  pub same_value : guessed_value t ps ≡ guessed_value t qs
  same_value = go (first_guess t ps) (first_guess t qs) refl refl
