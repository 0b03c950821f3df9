-- The values after the changes of given values.
use Rattle.std.proofs.Common.{◌≡◌, ◌≢◌, ◌∙◌, ℕ, zero, suc, ◌+◌, ◌<◌, ◌≤◌, List, [], ◌∷◌, ◌++◌, get_or, Bool, true, false, Option, None, Some, refl, ap, ap₂, sym, subst, arith}
use Rattle.std.proofs.lemmas.Bool.{eqb-true, eq-eqb, ne_eqb, le-leb, lt-leb, ltb-true, ltb-false, and_parts}
use Rattle.std.proofs.lemmas.List.{append_assoc, append-nil}
use Rattle.std.specs.Prelude.{◌==◌, ◌&&◌, not, nat_le, nat_lt, if◌then◌else◌}
use Rattle.kp_bits.specs.Word.{Word, word}
use Rattle.kp_vcd.specs.declared.dump.{Change.Change, Moment.Moment}
use Rattle.kp_vcd.specs.Held.{Holding, nothing, after_change, after, changes_to, EachIsNew, all_changes}
use Rattle.kp_vcd.specs.Recording.{Values, is_value, change_of, changes_from, changes_at, is_empty, moment_of, moments_before, recorded, Lasts}

-- ---- lists of changes

after-append : (h : Holding) (xs ys : List Change) → after h (xs ++ ys) ≡ after (after h xs) ys
after-append h [] ys = refl
after-append h (x ∷ xs) ys = after-append (after_change h x) xs ys

new-append : (h : Holding) (xs ys : List Change) → EachIsNew h xs → EachIsNew (after h xs) ys → EachIsNew h (xs ++ ys)
new-append h [] ys a b = b
new-append h (x ∷ xs) ys a b = (a.0, new-append (after_change h x) xs ys a.1 b)

all-append : (ms ns : List Moment) → all_changes (ms ++ ns) ≡ all_changes ms ++ all_changes ns
all-append [] ns = refl
all-append (m ∷ ms) ns = ap (λ (cs : List Change). m.changes ++ cs) (all-append ms ns) ∙ sym (append_assoc m.changes (all_changes ms) (all_changes ns))

to-append : (T : ℕ) (ms ns : List Moment) → changes_to T (ms ++ ns) ≡ changes_to T ms ++ changes_to T ns
to-append T [] ns = refl
to-append T (m ∷ ms) ns =
    let here : List Change = if nat_le m.at T then m.changes else [] in
    ap (λ (cs : List Change). here ++ cs) (to-append T ms ns) ∙ sym (append_assoc here (changes_to T ms) (changes_to T ns))

-- ---- the change of one signal

same_value : (b : Option Word) (w : Word) → is_value b w ≡ true → b ≡ Some w
same_value None w e = cc
same_value (Some v) w e =
    let both = and_parts (v.width == w.width) (v.value == w.value) e in
    let width : v.width ≡ w.width = eqb-true v.width w.width both.0 in
    let value : v.value ≡ w.value = eqb-true v.value w.value both.1 in
    ap₂ (λ (a b : ℕ). Some (word a b)) width value

of_itself : (w : Word) → is_value (Some w) w ≡ true
of_itself w = rw (eq-eqb w.width w.width refl, eq-eqb w.value w.value refl) refl

other_value : (b : Option Word) (w : Word) → is_value b w ≡ false → b ≢ Some w
other_value b w e same = let yes : is_value b w ≡ true = ap (λ (o : Option Word). is_value o w) same ∙ of_itself w in cc

untouched_by : (h : Holding) (b v : Option Word) (s i : ℕ) → (s == i) ≡ false → after h (change_of s b v) i ≡ h i
untouched_by h b None s i other = refl
untouched_by h b (Some w) s i other = go (is_value b w)
  where
    go : (t : Bool) → after h (if t then [] else record { signal = s; value = w } ∷ []) i ≡ h i
    go true = refl
    go false = rw other refl

report_by : (h : Holding) (b v : Option Word) (s : ℕ) (w : Word) → v ≡ Some w → h s ≡ b → after h (change_of s b v) s ≡ Some w
report_by h b None s w e known = cc
report_by h b (Some x) s w e known = go (is_value b x) refl
  where
    go : (t : Bool) → is_value b x ≡ t → after h (if t then [] else record { signal = s; value = x } ∷ []) s ≡ Some w
    go true same = known ∙ same_value b x same ∙ e
    go false other = rw (eq-eqb s s refl) e

new_by : (h : Holding) (b v : Option Word) (s : ℕ) → ((w : Word) → v ≡ Some w → h s ≡ b) → EachIsNew h (change_of s b v)
new_by h b None s known = tt
new_by h b (Some w) s known = go (is_value b w) refl
  where
    go : (t : Bool) → is_value b w ≡ t → EachIsNew h (if t then [] else record { signal = s; value = w } ∷ [])
    go true same = tt
    go false other = ((λ e. other_value b w other (sym (known w refl) ∙ e)), tt)

-- ---- the changes of one time

-- the values after the changes are those before, for each signal from s on that has a value now
abbrev Agrees : Holding → Values → ℕ → Values → Type 0
Agrees h before s now = (k i : ℕ) (w : Word) → i ≡ s + k → get_or now k None ≡ Some w → h i ≡ get_or before i None

module _ (h : Holding) (before : Values) (s : ℕ) (v : Option Word) (now : Values) (agrees : Agrees h before s (v ∷ now)) where
  abbrev next : Holding
  next = after h (change_of s (get_or before s None) v)

  agrees_next : Agrees next before (s + 1) now
  agrees_next k i w is e =
      untouched_by h (get_or before s None) v s i (ne_eqb s i (λ same. omega (arith, is, same)))
      ∙ agrees (suc k) i w (omega (arith, is)) e

  begins : (w : Word) → v ≡ Some w → h s ≡ get_or before s None
  begins w e = agrees 0 s w (omega arith) e

untouched : (h : Holding) (before now : Values) (s i : ℕ) → i < s → after h (changes_from s before now) i ≡ h i
untouched h before [] s i below = refl
untouched h before (v ∷ now) s i below =
    ap (λ (f : Holding). f i) (after-append h (change_of s (get_or before s None) v) (changes_from (s + 1) before now))
    ∙ untouched (after h (change_of s (get_or before s None) v)) before now (s + 1) i (omega (arith, below))
    ∙ untouched_by h (get_or before s None) v s i (ne_eqb s i (λ same. omega (arith, below, same)))

reported : (h : Holding) (before now : Values) (s : ℕ) → Agrees h before s now → (k i : ℕ) (w : Word) → i ≡ s + k → get_or now k None ≡ Some w
    → after h (changes_from s before now) i ≡ Some w
reported h before [] s agrees k i w is e = cc
reported h before (v ∷ now) s agrees zero i w is e =
    let here : s ≡ i = omega (arith, is) in
    ap (λ (f : Holding). f i) (after-append h (change_of s (get_or before s None) v) (changes_from (s + 1) before now))
    ∙ untouched (after h (change_of s (get_or before s None) v)) before now (s + 1) i (omega (arith, is))
    ∙ subst (λ (j : ℕ). after h (change_of s (get_or before s None) v) j ≡ Some w) here
    (report_by h (get_or before s None) v s w e (begins h before s v now agrees w e))
reported h before (v ∷ now) s agrees (suc k) i w is e =
    ap (λ (f : Holding). f i) (after-append h (change_of s (get_or before s None) v) (changes_from (s + 1) before now))
    ∙ reported (after h (change_of s (get_or before s None) v)) before now (s + 1) (agrees_next h before s v now agrees) k i w (omega (arith, is)) e

new : (h : Holding) (before now : Values) (s : ℕ) → Agrees h before s now → EachIsNew h (changes_from s before now)
new h before [] s agrees = tt
new h before (v ∷ now) s agrees =
    new-append h (change_of s (get_or before s None) v) (changes_from (s + 1) before now)
    (new_by h (get_or before s None) v s (begins h before s v now agrees))
    (new (after h (change_of s (get_or before s None) v)) before now (s + 1) (agrees_next h before s v now agrees))

-- ---- the moments

none_there : (cs : List Change) → is_empty cs ≡ true → cs ≡ []
none_there [] e = refl
none_there (c ∷ cs) e = cc

abbrev is_left_out : ℕ → ℕ → List Change → Bool
is_left_out n T cs = not (T == 0) && not (T == n) && is_empty cs

abbrev one_moment : Bool → ℕ → List Change → List Moment
one_moment t T cs = if t then [] else record { at = T; changes = cs } ∷ []

changes_of_moment : (n T : ℕ) (cs : List Change) → all_changes (moment_of n T cs) ≡ cs
changes_of_moment n T cs = go (is_left_out n T cs) refl
  where
    go : (t : Bool) → is_left_out n T cs ≡ t → all_changes (one_moment t T cs) ≡ cs
    go true e = sym (none_there cs (and_parts (not (T == 0) && not (T == n)) (is_empty cs) e).1)
    go false e = append-nil cs

moment_in : (n T U : ℕ) (cs : List Change) → T ≤ U → changes_to U (moment_of n T cs) ≡ all_changes (moment_of n T cs)
moment_in n T U cs h = go (is_left_out n T cs)
  where
    go : (t : Bool) → changes_to U (one_moment t T cs) ≡ all_changes (one_moment t T cs)
    go true = refl
    go false = rw (le-leb T U h) refl

moment_out : (n T U : ℕ) (cs : List Change) → U < T → changes_to U (moment_of n T cs) ≡ []
moment_out n T U cs h = go (is_left_out n T cs)
  where
    go : (t : Bool) → changes_to U (one_moment t T cs) ≡ []
    go true = refl
    go false = rw (lt-leb T U h) refl

module _ (values : ℕ → Values) (n : ℕ) where
  abbrev moments : ℕ → List Moment
  moments T = moments_before values n T

  -- the values before the changes at T
  abbrev holding : ℕ → Holding
  holding T = after nothing (all_changes (moments T))

  grown : (T : ℕ) → all_changes (moments (suc T)) ≡ all_changes (moments T) ++ changes_at values T
  grown T =
      all-append (moments T) (moment_of n T (changes_at values T))
      ∙ ap (λ (cs : List Change). all_changes (moments T) ++ cs) (changes_of_moment n T (changes_at values T))

  holding_next : (T : ℕ) → holding (suc T) ≡ after (holding T) (changes_at values T)
  holding_next T = ap (after nothing) (grown T) ∙ after-append nothing (all_changes (moments T)) (changes_at values T)

  up_to : (U T : ℕ) → T ≤ suc U → changes_to U (moments T) ≡ all_changes (moments T)
  up_to U zero h = refl
  up_to U (suc T) h =
      to-append U (moments T) (moment_of n T (changes_at values T))
      ∙ ap₂ (λ (xs ys : List Change). xs ++ ys) (up_to U T (omega (arith, h))) (moment_in n T U (changes_at values T) (omega (arith, h)))
      ∙ sym (all-append (moments T) (moment_of n T (changes_at values T)))

  beyond : (U T : ℕ) → U < T → changes_to U (moments T) ≡ all_changes (moments (suc U))
  beyond U zero h = absurd (omega (arith, h))
  beyond U (suc T) h = go (beyond U T) (nat_lt U T) refl
    where
      go : (U < T → changes_to U (moments T) ≡ all_changes (moments (suc U))) → (t : Bool) → nat_lt U T ≡ t
          → changes_to U (moments (suc T)) ≡ all_changes (moments (suc U))
      go earlier true e =
          let below : U < T = ltb-true U T e in
          to-append U (moments T) (moment_of n T (changes_at values T))
          ∙ ap₂ (λ (xs ys : List Change). xs ++ ys) (earlier below) (moment_out n T U (changes_at values T) below)
          ∙ append-nil (all_changes (moments (suc U)))
      go earlier false e =
          let above : T ≤ U = ltb-false U T e in
          let same : T ≡ U = omega (arith, above, h) in
          up_to U (suc T) (omega (arith, above)) ∙ ap (λ (m : ℕ). all_changes (moments (suc m))) same

  module _ (lasts : Lasts values n) where
    agrees_by : (T : ℕ) → suc T ≤ n → ((s : ℕ) (w : Word) → get_or (values T) s None ≡ Some w → holding (suc T) s ≡ Some w)
        → Agrees (holding (suc T)) (values T) 0 (values (suc T))
    agrees_by T h kept k i x is there =
        let same : k ≡ i = omega (arith, is) in
        let before = lasts T i x (omega (arith, h)) (subst (λ (j : ℕ). get_or (values (suc T)) j None ≡ Some x) same there) in
        kept i before.0 before.1 ∙ sym before.1

    report_at : (T : ℕ) → T ≤ n → (s : ℕ) (w : Word) → get_or (values T) s None ≡ Some w → holding (suc T) s ≡ Some w
    report_at zero h s w e =
        ap (λ (f : Holding). f s) (holding_next 0)
        ∙ reported nothing [] (values 0) 0 (λ k i x is there. refl) s s w (omega arith) e
    report_at (suc T) h s w e =
        ap (λ (f : Holding). f s) (holding_next (suc T))
        ∙ reported (holding (suc T)) (values T) (values (suc T)) 0 (agrees_by T (omega (arith, h)) (report_at T (omega (arith, h)))) s s w (omega arith) e

    agrees_at : (T : ℕ) → suc T ≤ n → Agrees (holding (suc T)) (values T) 0 (values (suc T))
    agrees_at T h = agrees_by T h (report_at T (omega (arith, h)))

    new_before : (T : ℕ) → T ≤ suc n → EachIsNew nothing (all_changes (moments T))
    new_before zero h = tt
    new_before (suc zero) h =
        subst (EachIsNew nothing) (sym (grown 0)) (new nothing [] (values 0) 0 (λ k i x is there. refl))
    new_before (suc (suc T)) h =
        subst (EachIsNew nothing) (sym (grown (suc T)))
        (new-append nothing (all_changes (moments (suc T))) (changes_at values (suc T)) (new_before (suc T) (omega (arith, h)))
        (new (holding (suc T)) (values T) (values (suc T)) 0 (agrees_at T (omega (arith, h)))))

    pub recorded_held : (T : ℕ) → T ≤ n → (s : ℕ) (w : Word) → get_or (values T) s None ≡ Some w → after nothing (changes_to T (recorded values n)) s ≡ Some w
    recorded_held T h s w e =
        ap (λ (cs : List Change). after nothing cs s) (beyond T (suc n) (omega (arith, h))) ∙ report_at T h s w e

    pub recorded_new : EachIsNew nothing (all_changes (recorded values n))
    recorded_new = new_before (suc n) (omega arith)
