-- Tests of names, and indices of names in lists.
use Rattle.std.proofs.Common.{◌≡◌, ◌∙◌, ℕ, ◌+◌, ◌≤◌, ◌<◌, List, [], ◌∷◌, ◌++◌, length, Bool, true, false, refl, sym, ap, subst, arith, eq-eqb, ◌⊎◌, inl, inr}
use Rattle.std.proofs.lemmas.Bool.{eqb-true, or_left, or_right, or_cases, false_from_ne_true, or_parts, and_parts, cond-true, cond-false, and_from}
use Rattle.std.proofs.lemmas.Bool.Decides.{nat_tests}
use Rattle.std.specs.{Prelude.codes, Prelude.◌==◌, Prelude.◌&&◌, Prelude.◌||◌, Prelude.nat_le, Prelude.nat_lt, Prelude.if◌then◌else◌, List.list_all}
use Rattle.kp_net.specs.Names.{same, among, is_reg_name, is_file_name, is_sample_name}
use Rattle.kp_base.specs.Characters.{is_digit}
use Rattle.kp_vlog.specs.Scope.{is_wire_name, is_output_name, place_of}

pub when_true : {X : Type 0} (p : Bool) (x y : X) → p ≡ true → (if p then x else y) ≡ x
when_true = cond-true

pub when_false : {X : Type 0} (p : Bool) (x y : X) → p ≡ false → (if p then x else y) ≡ y
when_false = cond-false

pub first_true : (p q : Bool) → (p && q) ≡ true → p ≡ true
first_true p q h = (and_parts p q h).0

pub second_true : (p q : Bool) → (p && q) ≡ true → q ≡ true
second_true p q h = (and_parts p q h).1

pub apart : (p : Bool) → p ≡ true → p ≡ false → ⊥
apart p h k = cc

pub le_of : (a b : ℕ) → nat_le a b ≡ true → a ≤ b
le_of a b h = grind (arith, nat_tests)

pub lt_of : (a b : ℕ) → nat_lt a b ≡ true → a < b
lt_of a b h = grind (arith, nat_tests)

-- Names are equal if their bytes are.

pub same_refl : (x : List ℕ) → same x x ≡ true
same_refl [] = refl
same_refl (a ∷ x) = and_from (a == a) (same x x) (eq-eqb a a refl) (same_refl x)

pub same_eq : (x y : List ℕ) → same x y ≡ true → x ≡ y
same_eq [] [] h = refl
same_eq [] (b ∷ y) h = cc
same_eq (a ∷ x) [] h = cc
same_eq (a ∷ x) (b ∷ y) h = let e = eqb-true a b (first_true (a == b) (same x y) h) in let f = same_eq x y (second_true (a == b) (same x y) h) in cc

pub differ : (x y : List ℕ) → (x ≡ y → ⊥) → same x y ≡ false
differ x y h = false_from_ne_true (same x y) (λ e. h (same_eq x y e))

pub same_flip : (x y : List ℕ) → same x y ≡ false → same y x ≡ false
same_flip x y h = differ y x (λ e. (let r : same x y ≡ true = subst (λ (z : List ℕ). same z y ≡ true) e (same_refl y) in cc))

-- The kinds of names are distinguished by their first two bytes.

two_bytes : (P : List ℕ → Type 0) (x y : ℕ) → ((c : ℕ) (rest : List ℕ) → P (x ∷ y ∷ c ∷ rest)) → (a b c : ℕ) (rest : List ℕ) → (a == x) ≡ true → (b == y) ≡ true → P (a ∷ b ∷ c ∷ rest)
two_bytes P x y f a b c rest e k = subst (λ (z : ℕ). P (z ∷ b ∷ c ∷ rest)) (sym (eqb-true a x e)) (subst (λ (z : ℕ). P (x ∷ z ∷ c ∷ rest)) (sym (eqb-true b y k)) (f c rest))

pub file_cases : (P : List ℕ → Type 0) → ((c : ℕ) (rest : List ℕ) → P (102 ∷ 95 ∷ c ∷ rest)) → (n : List ℕ) → is_file_name n ≡ true → P n
file_cases P f (a ∷ b ∷ c ∷ rest) h = two_bytes P 102 95 f a b c rest (first_true (a == 102) (b == 95) h) (second_true (a == 102) (b == 95) h)
file_cases P f x h = cc

pub sample_cases : (P : List ℕ → Type 0) → ((c : ℕ) (rest : List ℕ) → P (115 ∷ 95 ∷ c ∷ rest)) → (n : List ℕ) → is_sample_name n ≡ true → P n
sample_cases P f (a ∷ b ∷ c ∷ rest) h = two_bytes P 115 95 f a b c rest (first_true (a == 115) (b == 95) h) (second_true (a == 115) (b == 95) h)
sample_cases P f x h = cc

pub reg_cases : (P : List ℕ → Type 0) → ((c : ℕ) (rest : List ℕ) → P (114 ∷ 95 ∷ c ∷ rest)) → ((c : ℕ) (rest : List ℕ) → P (113 ∷ 95 ∷ c ∷ rest)) → (n : List ℕ) → is_reg_name n ≡ true → P n
reg_cases P f g (a ∷ b ∷ c ∷ rest) h =
    let k = second_true (a == 114 || a == 113) (b == 95) h in
    elim (or_cases (a == 114) (a == 113) (first_true (a == 114 || a == 113) (b == 95) h)) [
      | inl e ↦ two_bytes P 114 95 f a b c rest e k
      | inr e ↦ two_bytes P 113 95 g a b c rest e k
    ]
reg_cases P f g x h = cc

pub wire_cases : (P : List ℕ → Type 0) → ((b : ℕ) → P (110 ∷ b ∷ [])) → ((b c : ℕ) (rest : List ℕ) → P (110 ∷ b ∷ c ∷ rest)) → (n : List ℕ) → is_wire_name n ≡ true → P n
wire_cases P f g (a ∷ b ∷ []) h = subst (λ (z : ℕ). P (z ∷ b ∷ [])) (sym (eqb-true a 110 (first_true (a == 110) (list_all is_digit (b ∷ [])) h))) (f b)
wire_cases P f g (a ∷ b ∷ c ∷ rest) h = subst (λ (z : ℕ). P (z ∷ b ∷ c ∷ rest)) (sym (eqb-true a 110 (first_true (a == 110) (list_all is_digit (b ∷ c ∷ rest)) h))) (g b c rest)
wire_cases P f g x h = cc

pub output_cases : (P : List ℕ → Type 0) → P (codes "full") → P (codes "ue") → P (codes "back") → (n : List ℕ) → is_output_name n ≡ true → P n
output_cases P f u b n h = elim (or_cases (same n (codes "full") || same n (codes "ue")) (same n (codes "back")) h) [
  | inl e ↦ elim (or_cases (same n (codes "full")) (same n (codes "ue")) e) [
    | inl k ↦ subst P (sym (same_eq n (codes "full") k)) f
    | inr k ↦ subst P (sym (same_eq n (codes "ue") k)) u
  ]
  | inr e ↦ subst P (sym (same_eq n (codes "back") e)) b
]

pub output_no_wire : (n : List ℕ) → is_output_name n ≡ true → is_wire_name n ≡ false
output_no_wire = output_cases (λ n. is_wire_name n ≡ false) refl refl refl

-- A name of one kind is of no other.
pub reg_apart : (n : List ℕ) → is_reg_name n ≡ true → (is_file_name n ≡ false) × (is_sample_name n ≡ false) × (is_wire_name n ≡ false)
reg_apart = reg_cases (λ n. (is_file_name n ≡ false) × (is_sample_name n ≡ false) × (is_wire_name n ≡ false)) (λ c rest. (refl, refl, refl)) (λ c rest. (refl, refl, refl))

pub file_apart : (n : List ℕ) → is_file_name n ≡ true → (is_reg_name n ≡ false) × (is_sample_name n ≡ false) × (is_wire_name n ≡ false)
file_apart = file_cases (λ n. (is_reg_name n ≡ false) × (is_sample_name n ≡ false) × (is_wire_name n ≡ false)) (λ c rest. (refl, refl, refl))

pub sample_apart : (n : List ℕ) → is_sample_name n ≡ true → (is_reg_name n ≡ false) × (is_file_name n ≡ false) × (is_wire_name n ≡ false)
sample_apart = sample_cases (λ n. (is_reg_name n ≡ false) × (is_file_name n ≡ false) × (is_wire_name n ≡ false)) (λ c rest. (refl, refl, refl))

pub wire_apart : (n : List ℕ) → is_wire_name n ≡ true → (is_reg_name n ≡ false) × (is_file_name n ≡ false) × (is_sample_name n ≡ false)
wire_apart = wire_cases (λ n. (is_reg_name n ≡ false) × (is_file_name n ≡ false) × (is_sample_name n ≡ false)) (λ b. (refl, refl, refl)) (λ b c rest. (refl, refl, refl))

pub sample_not_ext : (n : List ℕ) → is_sample_name n ≡ true → same n (codes "ext") ≡ false
sample_not_ext = sample_cases (λ n. same n (codes "ext") ≡ false) (λ c rest. refl)

-- Names among others.

pub among_append : (xs ys : List (List ℕ)) (n : List ℕ) → among (xs ++ ys) n ≡ true → (among xs n ≡ true) ⊎ (among ys n ≡ true)
among_append [] ys n h = inr h
among_append (x ∷ xs) ys n h = elim (or_cases (same n x) (among (xs ++ ys) n) h) [
  | inl e ↦ inl (or_left (same n x) (among xs n) e)
  | inr e ↦ elim (among_append xs ys n e) [
    | inl k ↦ inl (or_right (same n x) (among xs n) k)
    | inr k ↦ inr k
  ]
]

pub among_front : (xs ys : List (List ℕ)) (n : List ℕ) → among xs n ≡ true → among (xs ++ ys) n ≡ true
among_front [] ys n h = cc
among_front (x ∷ xs) ys n h = elim (or_cases (same n x) (among xs n) h) [
  | inl e ↦ or_left (same n x) (among (xs ++ ys) n) e
  | inr e ↦ or_right (same n x) (among (xs ++ ys) n) (among_front xs ys n e)
]

pub among_behind : (xs ys : List (List ℕ)) (n : List ℕ) → among ys n ≡ true → among (xs ++ ys) n ≡ true
among_behind [] ys n h = h
among_behind (x ∷ xs) ys n h = or_right (same n x) (among (xs ++ ys) n) (among_behind xs ys n h)

pub among_same : (xs : List (List ℕ)) (n k : List ℕ) → same n k ≡ true → among xs k ≡ true → among xs n ≡ true
among_same xs n k e h = subst (λ (z : List ℕ). among xs z ≡ true) (sym (same_eq n k e)) h

-- The index of a name.

place_in_step : (x n : List ℕ) (xs : List (List ℕ)) (b : Bool) → same n x ≡ b → (b || among xs n) ≡ true → (among xs n ≡ true → place_of xs n < length xs) → place_of (x ∷ xs) n < length (x ∷ xs)
place_in_step x n xs true e h go = let w = when_true (same n x) 0 (place_of xs n + 1) e in omega arith
place_in_step x n xs false e h go = let w = when_false (same n x) 0 (place_of xs n + 1) e in let l = go h in omega arith

pub place_in : (xs : List (List ℕ)) (n : List ℕ) → among xs n ≡ true → place_of xs n < length xs
place_in [] n h = cc
place_in (x ∷ xs) n h = place_in_step x n xs (same n x) refl h (place_in xs n)

place_front_step : (x n : List ℕ) (xs ys : List (List ℕ)) (b : Bool) → same n x ≡ b → (b || among xs n) ≡ true → (among xs n ≡ true → place_of (xs ++ ys) n ≡ place_of xs n)
    → place_of (x ∷ (xs ++ ys)) n ≡ place_of (x ∷ xs) n
place_front_step x n xs ys true e h go = when_true (same n x) 0 (place_of (xs ++ ys) n + 1) e ∙ sym (when_true (same n x) 0 (place_of xs n + 1) e)
place_front_step x n xs ys false e h go =
    when_false (same n x) 0 (place_of (xs ++ ys) n + 1) e ∙ ap (λ (k : ℕ). k + 1) (go h) ∙ sym (when_false (same n x) 0 (place_of xs n + 1) e)

pub place_front : (xs ys : List (List ℕ)) (n : List ℕ) → among xs n ≡ true → place_of (xs ++ ys) n ≡ place_of xs n
place_front [] ys n h = cc
place_front (x ∷ xs) ys n h = place_front_step x n xs ys (same n x) refl h (place_front xs ys n)

pub place_new : (xs : List (List ℕ)) (n : List ℕ) → among xs n ≡ false → place_of (xs ++ n ∷ []) n ≡ length xs
place_new [] n h = when_true (same n n) 0 1 (same_refl n)
place_new (x ∷ xs) n h =
    let e = when_false (same n x) 0 (place_of (xs ++ n ∷ []) n + 1) ((or_parts (same n x) (among xs n) h).0) in
    let k = place_new xs n ((or_parts (same n x) (among xs n) h).1) in omega arith
