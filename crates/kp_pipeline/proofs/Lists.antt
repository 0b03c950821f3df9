use Rattle.std.proofs.Common.{◌≡◌, ℕ, zero, suc, ◌+◌, ◌<◌, ◌≤◌, arith, ap₂, Bool, true, false, cond, List, [], ◌∷◌, ◌++◌, refl, ⊎_elim, filter}
use Rattle.std.specs.List.{AllByRecursion}
use Rattle.std.proofs.lemmas.Bool.{cases_Bool, cond-true, cond-false, both_ways}
use Rattle.kp_pipeline.specs.Rows.{bit, bits}

-- FACTS OF EACH ELEMENT of a list of guesses: changed one by one, of two lists together, and taken apart.
pub all-map : {X : Type 0} (P Q : X → Type 0) → ((x : X) → P x → Q x) → (xs : List X) → AllByRecursion P xs → AllByRecursion Q xs
all-map P Q f [] h = tt
all-map P Q f (x ∷ xs) h = (f x h.0, all-map P Q f xs h.1)

pub all-both : {X : Type 0} (P Q R : X → Type 0) → ((x : X) → P x → Q x → R x) → (xs : List X) → AllByRecursion P xs
    → AllByRecursion Q xs → AllByRecursion R xs
all-both P Q R f [] h g = tt
all-both P Q R f (x ∷ xs) h g = (f x h.0 g.0, all-both P Q R f xs h.1 g.1)

pub all-append : {X : Type 0} (P : X → Type 0) (xs ys : List X) → AllByRecursion P xs → AllByRecursion P ys
    → AllByRecursion P (xs ++ ys)
all-append P [] ys h g = g
all-append P (x ∷ xs) ys h g = (h.0, all-append P xs ys h.1 g)

pub all-parts : {X : Type 0} (P : X → Type 0) (xs ys : List X) → AllByRecursion P (xs ++ ys) → AllByRecursion P xs × AllByRecursion P ys
all-parts P [] ys h = (tt, h)
all-parts P (x ∷ xs) ys h = let r = all-parts P xs ys h.1 in ((h.0, r.0), r.1)

-- what is kept passes the test
pub all-kept : {X : Type 0} (P : X → Type 0) (p : X → Bool) (xs : List X) → AllByRecursion (λ x. p x ≡ true → P x) xs
    → AllByRecursion P (filter p xs)
all-kept P p [] h = tt
all-kept P p (x ∷ xs) h =
    elim (p x) as (λ b. (p x ≡ b) → AllByRecursion P (cond b (x ∷ filter p xs) (filter p xs)))
    [ true ↦ (λ e. (h.0 e, all-kept P p xs h.1)) | false ↦ (λ e. all-kept P p xs h.1) ] refl

-- what passes the test is kept
pub all-passing : {X : Type 0} (P : X → Type 0) (p : X → Bool) (xs : List X) → AllByRecursion P (filter p xs)
    → AllByRecursion (λ x. p x ≡ true → P x) xs
all-passing P p [] h = tt
all-passing P p (x ∷ xs) h =
    ⊎_elim
    (λ e. let g : AllByRecursion P (x ∷ filter p xs) = (rw (cond-true (p x) (x ∷ filter p xs) (filter p xs) e) at h) in ((λ _. g.0), all-passing P p xs g.1))
    (λ e. let g : AllByRecursion P (filter p xs) = (rw (cond-false (p x) (x ∷ filter p xs) (filter p xs) e) at h) in ((λ q. absurd (both_ways (p x) e q)), all-passing P p xs g))
    (cases_Bool (p x))

-- BITS OF ROWS: the bit of a test's list of bits is the test.
pub bit-bits : (f : ℕ → Bool) (n k j : ℕ) → j < n → bit (bits f n k) j ≡ f (k + j)
bit-bits f zero k j b = absurd (omega arith)
bit-bits f (suc n) k zero b = let e : k + 0 ≡ k = omega arith in rw e refl
bit-bits f (suc n) k (suc j) b = let e : k + suc j ≡ suc k + j = omega arith in rw e (bit-bits f n (suc k) j (omega arith))

-- past the end
pub bit-past : (f : ℕ → Bool) (n k j : ℕ) → n ≤ j → bit (bits f n k) j ≡ false
bit-past f zero k j b = refl
bit-past f (suc n) k zero b = absurd (omega arith)
bit-past f (suc n) k (suc j) b = bit-past f n (suc k) j (omega arith)

-- from 0 on
pub bit-at : (f : ℕ → Bool) (n j : ℕ) → j < n → bit (bits f n 0) j ≡ f j
bit-at f n j b = let e : 0 + j ≡ j = omega arith in rw e at (bit-bits f n 0 j b)

-- Tests that agree have the same bits.
pub bits-same : (f g : ℕ → Bool) (n k : ℕ) → ((j : ℕ) → k ≤ j → j < k + n → f j ≡ g j) → bits f n k ≡ bits g n k
bits-same f g zero k h = refl
bits-same f g (suc n) k h = ap₂ (λ (x : Bool) (xs : List Bool). x ∷ xs) (h k (omega arith) (omega arith)) (bits-same f g n (suc k) (λ j a b. h j (omega arith) (omega arith)))
