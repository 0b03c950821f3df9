-- Recorded moments: their times rise, and each change is of a signal and has its width of bits if the values do.
use Rattle.std.proofs.Common.{◌≡◌, ◌∙◌, ℕ, zero, suc, ◌+◌, ◌<◌, ◌≤◌, ◌^◌, List, [], ◌∷◌, ◌++◌, length, get_or, Bool, true, false, Option, None, Some, All, ap, subst, arith}
use Rattle.std.specs.{Prelude.if◌then◌else◌, List.AllByRecursion}
use Rattle.kp_bits.specs.Word.{Word, IsWord}
use Rattle.kp_vcd.specs.declared.dump.{Signal.Signal, Change.Change, Moment.Moment}
use Rattle.kp_vcd.specs.Recording.{Values, is_value, change_of, changes_from, values_before, changes_at, moment_of, moments_before, recorded}
use Rattle.kp_vcd.specs.{Forms.width_at, Fitting.IsChange, Fitting.RisesAfter, Fitting.Rises}

-- ---- each item of a list

pub each_append : {X : Type 0} (P : X → Type 0) (xs ys : List X) → AllByRecursion P xs → AllByRecursion P ys → AllByRecursion P (xs ++ ys)
each_append P [] ys h k = k
each_append P (x ∷ xs) ys h k = (h.0, each_append P xs ys h.1 k)

pub to_all : {X : Type 0} (P : X → Type 0) (xs : List X) → AllByRecursion P xs → All P xs
to_all P [] h k d l = absurd (omega (arith, l))
to_all P (x ∷ xs) h zero d l = h.0
to_all P (x ∷ xs) h (suc k) d l = to_all P xs h.1 k d (omega (arith, l))

-- ---- the times

abbrev Before : ℕ → List Moment → Type 0
Before T ms = AllByRecursion (λ m. m.at < T) ms

before_more : (T U : ℕ) (ms : List Moment) → T ≤ U → Before T ms → Before U ms
before_more T U [] le h = tt
before_more T U (m ∷ ms) le h = (omega (arith, le, h.0), before_more T U ms le h.1)

rises_after_more : (t : ℕ) (ms : List Moment) (m : Moment) → t < m.at → m.at < 2 ^ 64 → Before m.at ms → RisesAfter t ms → RisesAfter t (ms ++ m ∷ [])
rises_after_more t [] m above small before h = (above, small, tt)
rises_after_more t (x ∷ ms) m above small before h = (h.0, h.1, rises_after_more x.at ms m before.0 small before.1 h.2)

rises_more : (ms : List Moment) (m : Moment) → m.at < 2 ^ 64 → Before m.at ms → Rises ms → Rises (ms ++ m ∷ [])
rises_more [] m small before h = (small, tt)
rises_more (x ∷ ms) m small before h = (h.0, rises_after_more x.at ms m before.0 small before.1 h.1)

record Risen (T : ℕ) (ms : List Moment) : Type 0 where
  before : Before T ms
  rises : Rises ms

abbrev one_moment : Bool → ℕ → List Change → List Moment
one_moment b T cs = if b then [] else record { at = T; changes = cs } ∷ []

next_risen : (b : Bool) (T : ℕ) (cs : List Change) (ms : List Moment) → T < 2 ^ 64 → Risen T ms → Risen (suc T) (ms ++ one_moment b T cs)
next_risen true T cs ms small h =
    record {
      before = each_append (λ (m : Moment). m.at < suc T) ms [] (before_more T (suc T) ms (omega arith) h.before) tt;
      rises = unchanged ms h.rises;
    }
  where
    unchanged_after : (t : ℕ) (ms : List Moment) → RisesAfter t ms → RisesAfter t (ms ++ [])
    unchanged_after t [] h = tt
    unchanged_after t (m ∷ ms) h = (h.0, h.1, unchanged_after m.at ms h.2)

    unchanged : (ms : List Moment) → Rises ms → Rises (ms ++ [])
    unchanged [] h = tt
    unchanged (m ∷ ms) h = (h.0, unchanged_after m.at ms h.1)
next_risen false T cs ms small h =
    record {
      before = each_append (λ (m : Moment). m.at < suc T) ms (record { at = T; changes = cs } ∷ []) (before_more T (suc T) ms (omega arith) h.before) (omega arith, tt);
      rises = rises_more ms (record { at = T; changes = cs }) small h.before h.rises;
    }

risen : (values : ℕ → Values) (n T : ℕ) → T ≤ suc n → n < 2 ^ 64 → Risen T (moments_before values n T)
risen values n zero le small = record { before = tt; rises = tt }
risen values n (suc T) le small = next_risen _ T (changes_at values T) (moments_before values n T) (omega (arith, le, small)) (risen values n T (omega (arith, le)) small)

pub recorded_rises : (values : ℕ → Values) (n : ℕ) → n < 2 ^ 64 → Rises (recorded values n)
recorded_rises values n small = (risen values n (suc n) (omega arith) small).rises

-- ---- the changes

-- a value has the width of its signal
abbrev pub FitsOne : Signal → Option Word → Type 0
FitsOne s None = Unit {0}
FitsOne s (Some w) = (s.width ≡ w.width) × IsWord w

-- so has each of these
abbrev pub FitSignals : List Signal → Values → Type 0
FitSignals [] [] = Unit {0}
FitSignals [] (v ∷ vs) = ⊥
FitSignals (s ∷ ss) [] = ⊥
FitSignals (s ∷ ss) (v ∷ vs) = FitsOne s v × FitSignals ss vs

module _ (signals : List Signal) where
  one_change : (i : ℕ) (s : Signal) (before v : Option Word) → i < 2 ^ 64 → width_at signals i ≡ s.width → FitsOne s v → AllByRecursion (IsChange signals) (change_of i before v)
  one_change i s before None few wide h = tt
  one_change i s before (Some w) few wide h = go (is_value before w)
    where
      go : (b : Bool) → AllByRecursion (IsChange signals) (if b then [] else record { signal = i; value = w } ∷ [])
      go true = tt
      go false = (record { known = few; wide = wide ∙ h.0; value = h.1 }, tt)

  -- the changes of the signals from number i on
  each_change : (ss : List Signal) (i : ℕ) (before now : Values) → ((k : ℕ) → width_at signals (i + k) ≡ width_at ss k) → i + length ss < 2 ^ 64 → FitSignals ss now
      → AllByRecursion (IsChange signals) (changes_from i before now)
  each_change [] i before [] wide few h = tt
  each_change [] i before (v ∷ now) wide few h = absurd h
  each_change (s ∷ ss) i before [] wide few h = tt
  each_change (s ∷ ss) i before (v ∷ now) wide few h =
      let here : i + 0 ≡ i = omega arith in
      each_append (IsChange signals) (change_of i (get_or before i None) v) (changes_from (i + 1) before now)
      (one_change i s (get_or before i None) v (omega (arith, few)) (subst (λ (j : ℕ). width_at signals j ≡ s.width) here (wide 0)) h.0)
      (each_change ss (i + 1) before now
      (λ k. let e : i + suc k ≡ i + 1 + k = omega arith in subst (λ (j : ℕ). width_at signals j ≡ width_at ss k) e (wide (suc k)))
      (omega (arith, few)) h.1)

  module _ (values : ℕ → Values) (n : ℕ) (few : length signals < 2 ^ 64) (fit : (T : ℕ) → T ≤ n → FitSignals signals (values T)) where
    abbrev Reported : Moment → Type 0
    Reported m = All (IsChange signals) m.changes

    reported : (T : ℕ) → T ≤ n → All (IsChange signals) (changes_at values T)
    reported T le = to_all (IsChange signals) (changes_at values T) (each_change signals 0 (values_before values T) (values T)
        (λ k. let e : 0 + k ≡ k = omega arith in ap (width_at signals) e)
        (omega (arith, few)) (fit T le))

    one_reported : (b : Bool) (T : ℕ) (cs : List Change) → All (IsChange signals) cs → AllByRecursion Reported (one_moment b T cs)
    one_reported true T cs h = tt
    one_reported false T cs h = (h, tt)

    each_reported : (T : ℕ) → T ≤ suc n → AllByRecursion Reported (moments_before values n T)
    each_reported zero le = tt
    each_reported (suc T) le =
        each_append Reported (moments_before values n T) (moment_of n T (changes_at values T)) (each_reported T (omega (arith, le)))
        (one_reported _ T (changes_at values T) (reported T (omega (arith, le))))

    pub recorded_reported : All Reported (recorded values n)
    recorded_reported = to_all Reported (recorded values n) (each_reported (suc n) (omega arith))
