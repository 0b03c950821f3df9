-- Digits, and the numbers that they write.
use Rattle.std.proofs.Common.{◌≡◌, ◌∙◌, ℕ, ◌+◌, ◌*◌, ◌^◌, ◌<◌, ◌≤◌, List, [], ◌∷◌, Some, None, fold, length, get_or, drop, arith, ltb, sym, ap, inl, inr}
use Rattle.std.proofs.Math.Nat.{le-mul_of_pos_right}
use Rattle.std.proofs.lemmas.{Bool.cond_both, Bool.cond-true, Bool.cond-false, Bool.lt-ltb, Bool.le-ltb, Bool.cases_lt, List.at_drop_more, List.at_drop_all}
use Rattle.std.specs.Char.{digit_value}
use Rattle.kp_bits.specs.Literals.{is_underscore, numeral_next, numeral_value, number_within}

pub numeral_next_ge : (base n c : ℕ) → 1 ≤ base → n ≤ numeral_next base n c
numeral_next_ge base n c h =
    cond_both (is_underscore c) n (n * base + digit_value c) (λ x. n ≤ x) (λ _. omega arith) (λ _. let k : n ≤ n * base = le-mul_of_pos_right n h in omega arith)

-- each byte more leaves the number, or makes it greater
pub numeral_ge : (base n : ℕ) (ds : List ℕ) → 1 ≤ base → n ≤ fold (numeral_next base) n ds
numeral_ge base n [] h = omega arith
numeral_ge base n (d ∷ ds) h = let p = numeral_next_ge base n d h in let q = numeral_ge base (numeral_next base n d) ds h in omega arith

within_none : (n : ℕ) → number_within n ≡ None → 2 ^ 64 ≤ n
within_none n e = elim (cases_lt n (2 ^ 64)) [ inl k ↦ absurd (let p : number_within n ≡ Some n = cond-true (ltb n (2 ^ 64)) (Some n) None (lt-ltb n (2 ^ 64) k) in cc) | inr k ↦ k ]

none_within : (n : ℕ) → 2 ^ 64 ≤ n → number_within n ≡ None
none_within n h = cond-false (ltb n (2 ^ 64)) (Some n) None (le-ltb n (2 ^ 64) h)

-- once the number that is read doesn't fit in 64 bits, the complete number doesn't
pub too_big : (base n i : ℕ) (ds : List ℕ) → 1 ≤ base → i < length ds → number_within (numeral_next base n (get_or ds i 0)) ≡ None → fold (numeral_next base) n (drop i ds) ≡ numeral_value base ds → number_within (numeral_value base ds) ≡ None
too_big base n i ds h k e inv =
    let p = within_none (numeral_next base n (get_or ds i 0)) e in
    let q = numeral_ge base (numeral_next base n (get_or ds i 0)) (drop (i + 1) ds) h in
    let r : fold (numeral_next base) n (drop i ds) ≡ fold (numeral_next base) (numeral_next base n (get_or ds i 0)) (drop (i + 1) ds) = at_drop_more (fold (numeral_next base) n) ds i 0 k in
    none_within (numeral_value base ds) (omega (arith, p, q, r, inv))

pub all_read : (base n i : ℕ) (ds : List ℕ) → length ds ≤ i → n < 2 ^ 64 → fold (numeral_next base) n (drop i ds) ≡ numeral_value base ds → Some n ≡ number_within (numeral_value base ds)
all_read base n i ds h k inv =
    let r : fold (numeral_next base) n (drop i ds) ≡ n = at_drop_all (fold (numeral_next base) n) ds i h in
    let e : n ≡ numeral_value base ds = cc in
    sym (cond-true (ltb n (2 ^ 64)) (Some n) None (lt-ltb n (2 ^ 64) k)) ∙ ap number_within e
