-- The laws that the definitions of the operations are checked by.
use Rattle.std.proofs.Common.{◌≡◌, ◌∙◌, ◌↔◌, inl, inr, refl, sym, ap, ℕ, suc, ◌+◌, ◌-◌, ◌*◌, ◌/◌, ◌%◌, ◌^◌, ◌<◌, ◌≤◌, ◌==◌, arith, cond, eqb, ltb, pos, neg_ℤ}
use Rattle.std.proofs.Math.Nat.{mod-eq_of_lt, add-mod_right, add-mod, mul-add, mod-add-mod, two-pow-succ}
use Rattle.std.proofs.lemmas.Bool.{cond-true, cond-false, lt-ltb, le-ltb, cases_lt, eq-eqb, Decides.nat_tests}
use Rattle.std.proofs.lemmas.Nat.{mul-mod_second, div-mul-add, mod-mul-add, shr_split, shr_below}
use Rattle.kp_bits.specs.Word.{Word, word, IsWord, signed_of, not_of, add_of, sub_of, mul_of, eq_of, lt_of, shl_of, shr_of, concat_of, slice_of, zext_of, sext_of}
use Rattle.kp_bits.proofs.Powers.{pow_le}

pub not_not : (a : Word) → IsWord a → not_of (not_of a) ≡ a
not_not a h = let f = h.fits in let e : 2 ^ a.width - 1 - (2 ^ a.width - 1 - a.value) ≡ a.value = omega arith in ap (word a.width) e

pub add_not : (a : Word) → IsWord a → a.value + (not_of a).value ≡ 2 ^ a.width - 1
add_not a h = let f = h.fits in omega arith

-- as natural numbers, modulo m
sub_add : (a b m : ℕ) → a < m → b < m → ((a + m - b) % m + b) % m ≡ a
sub_add a b m h k =
    let e : a + m - b + b ≡ a + m = omega arith in
    mod-add-mod (a + m - b) m b ∙ ap (λ x. x % m) e ∙ add-mod_right a m ∙ mod-eq_of_lt h

add_sub : (a b m : ℕ) → a < m → b < m → ((a + b) % m + m - b) % m ≡ a
add_sub a b m h k =
    let e : (a + b) % m + m - b ≡ (a + b) % m + (m - b) = omega arith in
    let f : a + b + (m - b) ≡ a + m = omega arith in
    ap (λ x. x % m) e ∙ mod-add-mod (a + b) m (m - b) ∙ ap (λ x. x % m) f ∙ add-mod_right a m ∙ mod-eq_of_lt h

pub add_sub_word : (a b : Word) → IsWord a → IsWord b → a.width ≡ b.width → sub_of (add_of a b) b ≡ a
add_sub_word a b h k e = ap (word a.width) (add_sub a.value b.value (2 ^ a.width) h.fits (rw e k.fits))

pub sub_add_word : (a b : Word) → IsWord a → IsWord b → a.width ≡ b.width → add_of (sub_of a b) b ≡ a
sub_add_word a b h k e = ap (word a.width) (sub_add a.value b.value (2 ^ a.width) h.fits (rw e k.fits))

-- a * (b + c) ≡ a * b + a * c, modulo m
mul_add_mod : (a b c m : ℕ) → a * ((b + c) % m) % m ≡ (a * b % m + a * c % m) % m
mul_add_mod a b c m = mul-mod_second a (b + c) m ∙ ap (λ x. x % m) (mul-add a b c) ∙ add-mod (a * b) (a * c) m

pub mul_add : (a b c : Word) → a.width ≡ b.width → mul_of a (add_of b c) ≡ add_of (mul_of a b) (mul_of a c)
mul_add a b c e = ap (word a.width) (rw (← e) (mul_add_mod a.value b.value c.value (2 ^ a.width)))

pub mul_power : (a b : Word) → b.value < a.width → mul_of a (word a.width (2 ^ b.value)) ≡ shl_of a b
mul_power a b h = ap (word a.width) (sym (cond-true (ltb b.value a.width) (a.value * 2 ^ b.value % 2 ^ a.width) 0 (lt-ltb b.value a.width h)))

pub shl_past : (a b : Word) → a.width ≤ b.value → shl_of a b ≡ word a.width 0
shl_past a b h = ap (word a.width) (cond-false (ltb b.value a.width) (a.value * 2 ^ b.value % 2 ^ a.width) 0 (le-ltb b.value a.width h))

pub shr_past : (a b : Word) → a.width ≤ b.value → shr_of a b ≡ word a.width 0
shr_past a b h = ap (word a.width) (cond-false (ltb b.value a.width) (a.value / 2 ^ b.value) 0 (le-ltb b.value a.width h))

-- the remaining bits of a, by position
pub shr_slice : (a b : Word) → IsWord a → b.value < a.width → shr_of a b ≡ zext_of (slice_of a (a.width - 1) b.value) a.width
shr_slice a b h k =
    let e : a.width - 1 + 1 - b.value ≡ a.width - b.value = omega arith in
    let w : a.width - b.value + b.value ≡ a.width = omega arith in
    let f : a.value / 2 ^ b.value < 2 ^ (a.width - b.value) = shr_below a.value (a.width - b.value) b.value (rw w h.fits) in
    ap (word a.width) (cond-true (ltb b.value a.width) (a.value / 2 ^ b.value) 0 (lt-ltb b.value a.width k) ∙ rw e (sym (mod-eq_of_lt f)))

pub order_word : (a b : Word) → (lt_of a b).value + (eq_of a b).value + (lt_of b a).value ≡ 1
order_word a b = grind (arith, nat_tests)

one_eq : (a b : Word) → a.width ≡ b.width → (eq_of a b).value ≡ 1 → a ≡ b
one_eq a b e h = let f : a.value ≡ b.value = grind (arith, nat_tests) in ap (λ w. word w a.value) e ∙ ap (word b.width) f

pub eq_one : (a b : Word) → a.width ≡ b.width → ((eq_of a b).value ≡ 1) ↔ (a ≡ b)
eq_one a b e = (λ h. one_eq a b e h, λ h. ap (λ x. cond (x.value == b.value) 1 0) h ∙ cond-true (eqb b.value b.value) 1 0 (eq-eqb b.value b.value refl))

pub concat_high : (high low : Word) → IsWord high → IsWord low → slice_of (concat_of high low) (high.width + low.width - 1) low.width ≡ high
concat_high high low h k =
    let p = h.positive in
    let e : high.width + low.width - 1 + 1 - low.width ≡ high.width = omega arith in
    rw (e, div-mul-add high.value (2 ^ low.width) low.value k.fits, mod-eq_of_lt h.fits) refl

pub concat_low : (high low : Word) → IsWord low → slice_of (concat_of high low) (low.width - 1) 0 ≡ low
concat_low high low k =
    let p = k.positive in
    let e : low.width - 1 + 1 - 0 ≡ low.width = omega arith in
    let one : (high.value * 2 ^ low.width + low.value) / 2 ^ 0 ≡ high.value * 2 ^ low.width + low.value = omega arith in
    rw (e, one, mod-mul-add high.value (2 ^ low.width) low.value k.fits) refl

pub slices_concat : (a : Word) (k : ℕ) → IsWord a → 1 ≤ k → k < a.width → concat_of (slice_of a (a.width - 1) k) (slice_of a (k - 1) 0) ≡ a
slices_concat a k h l u =
    let e : a.width - 1 + 1 - k ≡ a.width - k = omega arith in
    let f : k - 1 + 1 - 0 ≡ k = omega arith in
    let w : a.width - k + k ≡ a.width = omega arith in
    let one : a.value / 2 ^ 0 ≡ a.value = omega arith in
    let b : a.value / 2 ^ k < 2 ^ (a.width - k) = shr_below a.value (a.width - k) k (rw w h.fits) in
    rw (e, f, w, one, mod-eq_of_lt b, shr_split a.value k) refl

pub zext_concat : (a : Word) (n : ℕ) → zext_of a (n + a.width) ≡ concat_of (word n 0) a
zext_concat a n = ap (word (n + a.width)) (omega arith)

-- half of what is below 2 to the width
half : (w : ℕ) → 1 ≤ w → 2 ^ w ≡ 2 ^ (w - 1) + 2 ^ (w - 1)
half w h = let e : w ≡ suc (w - 1) = omega arith in ap (λ n. 2 ^ n) e ∙ two-pow-succ (w - 1)

signed_low : (w n : ℕ) → n < 2 ^ (w - 1) → signed_of (word w n) ≡ pos n
signed_low w n h = cond-true (ltb n (2 ^ (w - 1))) (pos n) (neg_ℤ (pos (2 ^ w - n))) (lt-ltb n (2 ^ (w - 1)) h)

signed_high : (w n : ℕ) → 2 ^ (w - 1) ≤ n → signed_of (word w n) ≡ neg_ℤ (pos (2 ^ w - n))
signed_high w n h = cond-false (ltb n (2 ^ (w - 1))) (pos n) (neg_ℤ (pos (2 ^ w - n))) (le-ltb n (2 ^ (w - 1)) h)

-- sext, on a number with a 0 on top and on one with a 1
sext_low : (a : Word) (width : ℕ) → a.value < 2 ^ (a.width - 1) → sext_of a width ≡ word width a.value
sext_low a width h = ap (word width) (cond-true (ltb a.value (2 ^ (a.width - 1))) a.value (a.value + (2 ^ width - 2 ^ a.width)) (lt-ltb a.value (2 ^ (a.width - 1)) h))

sext_high : (a : Word) (width : ℕ) → 2 ^ (a.width - 1) ≤ a.value → sext_of a width ≡ word width (a.value + (2 ^ width - 2 ^ a.width))
sext_high a width h = ap (word width) (cond-false (ltb a.value (2 ^ (a.width - 1))) a.value (a.value + (2 ^ width - 2 ^ a.width)) (le-ltb a.value (2 ^ (a.width - 1)) h))

pub sext_signed : (a : Word) (width : ℕ) → IsWord a → a.width ≤ width → signed_of (sext_of a width) ≡ signed_of a
sext_signed a width h k =
    let l = h.positive in
    let f = h.fits in
    let m = pow_le a.width width k in
    let n = pow_le (a.width - 1) (width - 1) (omega arith) in
    let p = half a.width l in
    let q = half width (omega arith) in
    let e : 2 ^ width - (a.value + (2 ^ width - 2 ^ a.width)) ≡ 2 ^ a.width - a.value = omega arith in
    elim (cases_lt a.value (2 ^ (a.width - 1))) [
      | inl c ↦ ap signed_of (sext_low a width c) ∙ signed_low width a.value (omega arith) ∙ sym (signed_low a.width a.value c)
      | inr c ↦ ap signed_of (sext_high a width c) ∙ signed_high width (a.value + (2 ^ width - 2 ^ a.width)) (omega arith) ∙ ap (λ x. neg_ℤ (pos x)) e ∙ sym (signed_high a.width a.value c)
    ]
