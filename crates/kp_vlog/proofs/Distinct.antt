-- Which names are eq-eqb.
use Rattle.std.proofs.Common.{◌≡◌, ◌∙◌, ℕ, zero, suc, ◌+◌, ◌≤◌, ◌<◌, List, [], ◌∷◌, ◌++◌, length, get_or, map, Bool, true, false, refl, sym, ap, subst, arith, eq-eqb, length-append, inl, inr}
use Rattle.std.proofs.lemmas.Bool.{false≢true, cases_lt, cond-true, cond-false, or_from, or_parts, or_left, or_right}
use Rattle.std.proofs.{lemmas.Fmt.decimal_injective, lemmas.List.Elements.All-nil, lemmas.List.Elements.All-cons, Math.Bool.or_assoc}
use Rattle.std.specs.Prelude.{decimal, All, ◌==◌, ◌||◌, if◌then◌else◌}
use Rattle.kp_net.specs.Names.{same, among, Differ, is_reg_name, is_file_name, is_sample_name}
use Rattle.kp_vlog.specs.{Scope.place_of, Canon.wire_name}
use Rattle.kp_vlog.proofs.Tests.{same_refl, differ, same_flip, place_front, place_new, reg_cases, file_cases, sample_cases}
use Rattle.kp_vlog.proofs.Runs.{IsDigit, decimal_led, digit_at}

-- The kind of a name: its first byte, and whether `_` follows it.
abbrev pub tag : List ℕ → ℕ
tag [] = 0
tag (a ∷ []) = a
tag (a ∷ b ∷ rest) = if b == 95 then (if a == 113 then 1114 else 1000 + a) else a

pub apart : (x y : List ℕ) (t u : ℕ) → tag x ≡ t → tag y ≡ u → (t == u) ≡ false → same x y ≡ false
apart x y t u e f d = differ x y (λ s. false≢true (sym d ∙ eq-eqb t u (sym e ∙ ap tag s ∙ f)))

pub tag_reg : (n : List ℕ) → is_reg_name n ≡ true → tag n ≡ 1114
tag_reg = reg_cases (λ n. tag n ≡ 1114) (λ c rest. refl) (λ c rest. refl)

pub tag_file : (n : List ℕ) → is_file_name n ≡ true → tag n ≡ 1102
tag_file = file_cases (λ n. tag n ≡ 1102) (λ c rest. refl)

pub tag_sample : (n : List ℕ) → is_sample_name n ≡ true → tag n ≡ 1115
tag_sample = sample_cases (λ n. tag n ≡ 1115) (λ c rest. refl)

digit_tag : (d : ℕ) (ds : List ℕ) → IsDigit d → tag (110 ∷ d ∷ ds) ≡ 110
digit_tag d ds h = cond-false (d == 95) _ 110 (digit_at (λ c. c == 95) false refl d h)

pub tag_wire : (j : ℕ) → j ≤ 16777216 → tag (wire_name j) ≡ 110
tag_wire j h = let l = decimal_led j (omega arith) in ap (λ (ds : List ℕ). tag (110 ∷ ds)) l.same ∙ digit_tag l.first l.more l.is

pub wires_differ : (i j : ℕ) → i ≤ 16777216 → j ≤ 16777216 → (i ≡ j → ⊥) → same (wire_name i) (wire_name j) ≡ false
wires_differ i j a b h = differ (decimal i) (decimal j) (λ e. h (decimal_injective i j (omega arith) (omega arith) e))

-- a name that differs from all of a list
pub apart_all : {X : Type 0} (f : X → List ℕ) (n : List ℕ) (xs : List X) → among (map f xs) n ≡ false → All (λ x. same (f x) n ≡ false) xs
apart_all f n [] h = All-nil (λ x. same (f x) n ≡ false)
apart_all f n (x ∷ xs) h = All-cons (λ x. same (f x) n ≡ false) x xs (same_flip n (f x) ((or_parts (same n (f x)) (among (map f xs) n) h).0)) (apart_all f n xs ((or_parts (same n (f x)) (among (map f xs) n) h).1))

-- names that differ are numbered by their indices
pub place_at : {X : Type 0} (f : X → List ℕ) (xs : List X) (i : ℕ) (d : X) → Differ (map f xs) → i < length xs → place_of (map f xs) (f (get_or xs i d)) ≡ i
place_at f [] i d h l = absurd (omega arith)
place_at f (x ∷ xs) zero d h l = cond-true (same (f x) (f x)) 0 (place_of (map f xs) (f x) + 1) (same_refl (f x))
place_at f (x ∷ xs) (suc i) d h l =
    let low : i < length xs = omega arith in
    cond-false (same (f (get_or xs i d)) (f x)) 0 (place_of (map f xs) (f (get_or xs i d)) + 1) (apart_all f (f x) xs h.0 i d low) ∙ ap (λ k. k + 1) (place_at f xs i d h.1 low) ∙ omega arith

-- the wires of the first nodes
abbrev pub wires_to : ℕ → List (List ℕ)
wires_to zero = []
wires_to (suc j) = wires_to j ++ wire_name j ∷ []

pub or_rest : (p q : Bool) → (p || q) ≡ true → p ≡ false → q ≡ true
or_rest true q h e = absurd (false≢true (sym e))
or_rest false q h e = h

among_append : (xs ys : List (List ℕ)) (n : List ℕ) → among (xs ++ ys) n ≡ (among xs n || among ys n)
among_append [] ys n = refl
among_append (x ∷ xs) ys n = ap (λ b. same n x || b) (among_append xs ys n) ∙ sym (or_assoc (same n x) (among xs n) (among ys n))

pub wires_fresh : (j i : ℕ) → j ≤ i → i ≤ 16777216 → among (wires_to j) (wire_name i) ≡ false
wires_fresh zero i h k = refl
wires_fresh (suc j) i h k =
    among_append (wires_to j) (wire_name j ∷ []) (wire_name i)
    ∙ or_from _ _ (wires_fresh j i (omega arith) k) (or_from _ _ (wires_differ i j k (omega arith) (λ e. omega arith)) refl)

wires_length : (j : ℕ) → length (wires_to j) ≡ j
wires_length zero = refl
wires_length (suc j) = length-append (wires_to j) (wire_name j ∷ []) ∙ ap (λ k. k + 1) (wires_length j) ∙ omega arith

pub wires_old : (j a : ℕ) → a < j → among (wires_to j) (wire_name a) ≡ true
wires_old zero a h = absurd (omega arith)
wires_old (suc j) a h = among_append (wires_to j) (wire_name j ∷ []) (wire_name a) ∙ elim (cases_lt a j) [
  | inl l ↦ or_left _ _ (wires_old j a l)
  | inr g ↦ or_right (among (wires_to j) (wire_name a)) _ (or_left _ _ (ap (λ i. same (wire_name a) (wire_name i)) (let e : j ≡ a = omega arith in e) ∙ same_refl (wire_name a)))
]

pub wire_place : (j a : ℕ) → a < j → j ≤ 16777216 → place_of (wires_to j) (wire_name a) ≡ a
wire_place zero a h k = absurd (omega arith)
wire_place (suc j) a h k = elim (cases_lt a j) [
  | inl l ↦ place_front (wires_to j) ((wire_name j) ∷ []) (wire_name a) (wires_old j a l) ∙ wire_place j a l (omega arith)
  | inr g ↦ let e : j ≡ a = omega arith in
      subst (λ i. place_of (wires_to j ++ wire_name j ∷ []) (wire_name i) ≡ i) e (place_new (wires_to j) (wire_name j) (wires_fresh j j (omega arith) (omega arith)) ∙ wires_length j)
]
