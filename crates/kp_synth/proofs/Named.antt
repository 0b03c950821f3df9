-- THE NAMES of the parts: names of the job and numbers, of which no two are one.
use Rattle.std.proofs.Common.{◌≡◌, ◌∙◌, ℕ, zero, suc, ◌+◌, ◌^◌, ◌<◌, ◌≤◌, List, [], ◌∷◌, ◌++◌, map, Bool, true, false, cond, length, get_or, refl, ap, sym, arith}
use Rattle.std.proofs.lemmas.{Bool.eq-eqb, Bool.false_from_ne_true, Fmt.decimal_injective}
use Rattle.std.specs.{Prelude.decimal, Prelude.◌||◌, List.filter}
use Rattle.kp_machine.{proofs.Cases.by_test, specs.Slots.Slot, proofs.Apart.has_name, proofs.Apart.Apart, proofs.Names.same_name}
use Rattle.kp_ast.specs.Expressions.{is_same_name}
use Rattle.kp_net.specs.Names.{same, among, Differ}
use Rattle.kp_design.specs.Numbers.{no_slot}
use Rattle.kp_synth_next.specs.Shows.{other_names}

-- Each entry has a name of its own.
abbrev pub Own : List Slot → Type 0
Own [] = Unit {0}
Own (s ∷ ss) = (has_name ss s.name ≡ false) × Own ss

pub own_apart : (ss : List Slot) → Apart ss → Own ss
own_apart [] a = tt
own_apart (s ∷ ss) a = (a.0, own_apart ss a.3)

none_named : (ss : List Slot) (q : List ℕ) → ((v : ℕ) → v < length ss → is_same_name q (get_or ss v no_slot).name ≡ false) → has_name ss q ≡ false
none_named [] q h = refl
none_named (s ∷ ss) q h = rw (h 0 (omega arith)) (none_named ss q (λ v l. h (suc v) (omega (arith, l))))

pub own_from : (ss : List Slot) → ((t v : ℕ) → t < v → v < length ss → is_same_name (get_or ss t no_slot).name (get_or ss v no_slot).name ≡ false) → Own ss
own_from [] h = tt
own_from (s ∷ ss) h = (
  none_named ss s.name (λ v l. h 0 (suc v) (omega arith) (omega (arith, l))),
  own_from ss (λ t v m l. h (suc t) (suc v) (omega (arith, m)) (omega (arith, l))),
)

not_here : (q : List ℕ) (s : Slot) (ss : List Slot) → has_name (s ∷ ss) q ≡ false → (is_same_name q s.name ≡ false) × (has_name ss q ≡ false)
not_here q s ss e = by_test (is_same_name q s.name)
    (λ y. let f : true ≡ false = sym (ap (λ b. cond b true (has_name ss q)) y) ∙ e in cc)
    (λ n. (n, sym (ap (λ b. cond b true (has_name ss q)) n) ∙ e))

module _ (p : Slot → Bool) where
  left_out : (ss : List Slot) (q : List ℕ) → has_name ss q ≡ false → has_name (filter p ss) q ≡ false
  left_out [] q e = refl
  left_out (s ∷ ss) q e =
      let h = not_here q s ss e in
      let more = left_out ss q h.1 in
      by_test (p s) (λ y. rw (y, h.0) more) (λ n. rw n more)

  pub own_filter : (ss : List Slot) → Own ss → Own (filter p ss)
  own_filter [] o = tt
  own_filter (s ∷ ss) o =
      let more = own_filter ss o.1 in
      by_test (p s) (λ y. rw y (left_out ss s.name o.0, more)) (λ n. rw n more)

-- So have the names after two letters.
same_led : (a b : ℕ) (q n : List ℕ) → same (a ∷ b ∷ q) (a ∷ b ∷ n) ≡ same q n
same_led a b q n = rw (eq-eqb a a refl, eq-eqb b b refl) refl

abbrev pub led_name : ℕ → ℕ → Slot → List ℕ
led_name a b s = a ∷ b ∷ s.name

among_led : (a b : ℕ) (ss : List Slot) (q : List ℕ) → among (map (led_name a b) ss) (a ∷ b ∷ q) ≡ has_name ss q
among_led a b [] q = refl
among_led a b (s ∷ ss) q =
    let more = among_led a b ss q in
    let e = same_led a b q s.name in
    by_test (is_same_name q s.name) (λ y. rw (e, y) refl) (λ n. rw (e, n) more)

pub differ_led : (a b : ℕ) (ss : List Slot) → Own ss → Differ (map (led_name a b) ss)
differ_led a b [] o = tt
differ_led a b (s ∷ ss) o = (among_led a b ss s.name ∙ o.0, differ_led a b ss o.1)

-- Numbers differ, and `q_` isn't `r_`.
numbers_apart : (m i : ℕ) → m < i → i < 2 ^ 64 → same (113 ∷ 95 ∷ decimal m) (113 ∷ 95 ∷ decimal i) ≡ false
numbers_apart m i l k = same_led 113 95 (decimal m) (decimal i)
    ∙ false_from_ne_true _ (λ y. let e = decimal_injective m i (omega arith) k (same_name (decimal m) (decimal i) y) in absurd (omega (arith, e, l)))

among_others : (i n m : ℕ) → m < i → i + n ≤ 2 ^ 64 → among (other_names i n) (113 ∷ 95 ∷ decimal m) ≡ false
among_others i zero m l k = refl
among_others i (suc n) m l k = rw (numbers_apart m i l (omega arith)) (among_others (suc i) n m (omega arith) (omega arith))

differ_others : (i n : ℕ) → i + n ≤ 2 ^ 64 → Differ (other_names i n)
differ_others i zero k = tt
differ_others i (suc n) k = (among_others (suc i) n i (omega arith) (omega arith), differ_others (suc i) n (omega arith))

not_numbered : (i n : ℕ) (q : List ℕ) → among (other_names i n) (114 ∷ 95 ∷ q) ≡ false
not_numbered i zero q = refl
not_numbered i (suc n) q = not_numbered (suc i) n q

among_both : (xs ys : List (List ℕ)) (q : List ℕ) → among xs q ≡ false → among ys q ≡ false → among (xs ++ ys) q ≡ false
among_both [] ys q a b = b
among_both (x ∷ xs) ys q a b = by_test (same q x)
    (λ y. let f : true ≡ false = sym (ap (λ c. c || among xs q) y) ∙ a in cc)
    (λ n. rw n (among_both xs ys q (sym (ap (λ c. c || among xs q) n) ∙ a) b))

pub differ_both : (ss : List Slot) (i n : ℕ) → Own ss → i + n ≤ 2 ^ 64 → Differ (map (led_name 114 95) ss ++ other_names i n)
differ_both [] i n o k = differ_others i n k
differ_both (s ∷ ss) i n o k = (
  among_both (map (led_name 114 95) ss) (other_names i n) (114 ∷ 95 ∷ s.name) (among_led 114 95 ss s.name ∙ o.0) (not_numbered i n s.name),
  differ_both ss i n o.1 k,
)

-- the names of slots
pub names_through : {X : Type 0} (f : X → Slot) (xs : List X) → map (λ (s : Slot). s.name) (map f xs) ≡ map (λ x. (f x).name) xs
names_through f [] = refl
names_through f (x ∷ xs) = ap (λ ns. (f x).name ∷ ns) (names_through f xs)
