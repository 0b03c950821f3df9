-- Lists of keys that are built entry by entry.
use Rattle.std.proofs.Common.{◌≡◌, ◌∙◌, ℕ, zero, suc, ◌+◌, ◌*◌, ◌<◌, ◌≤◌, Bool, true, cond, List, [], ◌∷◌, ◌++◌, length, length-append, get_or, refl, ap, sym, subst, arith, ⊎_elim, ◌⊎◌, inl, inr}
use Rattle.std.{proofs.lemmas.Bool.cond_both, proofs.Math.Nat.suc-mul, specs.List.AllByRecursion}
use Rattle.kp_ast.specs.declared.tree.Job.{Job}
use Rattle.kp_pipeline.proofs.Lists.{all-append}
use Rattle.kp_machine.specs.Slots.{Slot, is_register}
use Rattle.kp_design.specs.Spans.{piped_at, is_stored, is_carried}
use Rattle.kp_synth_registers.specs.Keys.{visible_keys, pipe_keys, result_keys, guess_keys, hint_keys}
use Rattle.kp_design.specs.declared.guess.GuessSlot.{GuessSlot}
use Rattle.kp_synth_registers.specs.declared.key.Key.{Key}
use Rattle.kp_synth_registers.specs.declared.key.Key.TheVariants.{Visible, Pipe, Valid, Value, Pending, Guess, Hint}

-- a key is in a list
abbrev pub IsIn : Key → List Key → Type 0
IsIn key [] = ⊥
IsIn key (x ∷ xs) = (key ≡ x) ⊎ IsIn key xs

pub in_left : (key : Key) (xs ys : List Key) → IsIn key xs → IsIn key (xs ++ ys)
in_left key [] ys h = absurd h
in_left key (x ∷ xs) ys h = ⊎_elim (λ (e : key ≡ x). inl e) (λ (m : IsIn key xs). inr (in_left key xs ys m)) h

pub in_right : (key : Key) (xs ys : List Key) → IsIn key ys → IsIn key (xs ++ ys)
in_right key [] ys h = h
in_right key (x ∷ xs) ys h = inr (in_right key xs ys h)

pub each_both : (P : Key → Type 0) (xs ys : List Key) → AllByRecursion P xs → AllByRecursion P ys → AllByRecursion P (xs ++ ys)
each_both P xs ys a b = all-append P xs ys a b

-- the entries of a list from one on
abbrev Rest : {A : Type 0} → List A → ℕ → List A → A → Type 0
Rest all n ss d = (i : ℕ) → i < length ss → (n + i < length all) × (get_or all (n + i) d ≡ get_or ss i d)

rest_next : {A : Type 0} (all : List A) (n : ℕ) (s : A) (ss : List A) (d : A) → Rest all n (s ∷ ss) d → Rest all (suc n) ss d
rest_next all n s ss d h i l =
    let r = h (suc i) (omega arith) in
    let e : n + suc i ≡ suc n + i = omega arith in
    (omega (arith, r.0), ap (λ y. get_or all y d) (sym e) ∙ r.1)

rest_here : {A : Type 0} (all : List A) (n : ℕ) (s : A) (ss : List A) (d : A) → Rest all n (s ∷ ss) d → (n < length all) × (get_or all n d ≡ s)
rest_here all n s ss d h =
    let r = h 0 (omega arith) in
    let e : n ≡ n + 0 = omega arith in
    (omega (arith, r.0), ap (λ y. get_or all y d) e ∙ r.1)

-- An entry that passes a test has these keys, and another one has none.
pub record Keyed (A : Type 0) (f : ℕ → List A → List Key) : Type 0 where
  pub test : ℕ → A → Bool
  pub keys : ℕ → List Key
  pub none : (n : ℕ) → f n [] ≡ []
  pub more : (n : ℕ) (s : A) (ss : List A) → f n (s ∷ ss) ≡ cond (test n s) (keys n ++ f (suc n) ss) (f (suc n) ss)

abbrev pub visible : Keyed Slot visible_keys
visible = record { test = λ n s. is_register s; keys = λ n. Visible n ∷ []; none = λ n. refl; more = λ n s ss. refl }

abbrev pub pipes : (job : Job) (k : ℕ) → Keyed Slot (pipe_keys job k)
pipes job k = record { test = λ n s. piped_at job s.name k; keys = λ n. Pipe n k ∷ []; none = λ n. refl; more = λ n s ss. refl }

abbrev pub results : (job : Job) (k : ℕ) → Keyed Slot (result_keys job k)
results job k = record { test = λ n s. is_stored job n k; keys = λ n. Valid n k ∷ Value n k ∷ []; none = λ n. refl; more = λ n s ss. refl }

abbrev pub guesses : (k : ℕ) → Keyed GuessSlot (guess_keys k)
guesses k = record { test = λ n s. is_carried s k; keys = λ n. Pending n k ∷ Guess n k ∷ []; none = λ n. refl; more = λ n s ss. refl }

abbrev pub hints : Keyed Slot hint_keys
hints = record { test = λ n s. true; keys = λ n. Hint n ∷ []; none = λ n. refl; more = λ n s ss. refl }

module _ {A : Type 0} {f : ℕ → List A → List Key} (is : Keyed A f) where
  -- no more keys than that many for each entry
  pub few : (c : ℕ) → ((n : ℕ) → length (is.keys n) ≤ c) → (n : ℕ) (ss : List A) → length (f n ss) ≤ length ss * c
  few c small n [] = rw (is.none n) (omega arith)
  few c small n (s ∷ ss) =
      let more = few c small (suc n) ss in
      let z : suc (length ss) * c ≡ length ss * c + c = suc-mul (length ss) c in
      rw (is.more n s ss) (cond_both (is.test n s) (is.keys n ++ f (suc n) ss) (f (suc n) ss) (λ l. length l ≤ suc (length ss) * c)
      (λ y. omega (arith, more, small n, z, length-append (is.keys n) (f (suc n) ss))) (λ y. omega (arith, more, z)))

  -- the keys of an entry that passes
  pub at_entry : (key : Key) (d : A) (n i v : ℕ) (ss : List A) → i < length ss → v ≡ n + i → is.test v (get_or ss i d) ≡ true → IsIn key (is.keys v) → IsIn key (f n ss)
  at_entry key d n i v [] l e t h = absurd (omega arith)
  at_entry key d n zero v (s ∷ ss) l e t h =
      let z : v ≡ n = omega arith in
      let passes : is.test n s ≡ true = subst (λ m. is.test m s ≡ true) z t in
      rw (is.more n s ss, passes) (in_left key (is.keys n) (f (suc n) ss) (subst (λ m. IsIn key (is.keys m)) z h))
  at_entry key d n (suc i) v (s ∷ ss) l e t h =
      let later = at_entry key d (suc n) i v ss (omega arith) (omega arith) t h in
      rw (is.more n s ss) (cond_both (is.test n s) (is.keys n ++ f (suc n) ss) (f (suc n) ss) (IsIn key) (λ y. in_right key (is.keys n) (f (suc n) ss) later) (λ y. later))

  module _ (P : Key → Type 0) (all : List A) (d : A) (own : (n : ℕ) → n < length all → is.test n (get_or all n d) ≡ true → AllByRecursion P (is.keys n)) where
    each_of : (n : ℕ) (ss : List A) → Rest all n ss d → AllByRecursion P (f n ss)
    each_of n [] h = rw (is.none n) tt
    each_of n (s ∷ ss) h =
        let here = rest_here all n s ss d h in
        let more = each_of (suc n) ss (rest_next all n s ss d h) in
        rw (is.more n s ss) (cond_both (is.test n s) (is.keys n ++ f (suc n) ss) (f (suc n) ss) (AllByRecursion P)
        (λ y. each_both P (is.keys n) (f (suc n) ss) (own n here.0 (ap (is.test n) here.1 ∙ y)) more) (λ y. more))

    -- what holds of the keys of each entry that passes holds of all keys
    pub each : AllByRecursion P (f 0 all)
    each = each_of 0 all (λ i l. let e : i ≡ 0 + i = omega arith in (omega (arith, l), ap (λ y. get_or all y d) (sym e)))
