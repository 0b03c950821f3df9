-- Division as the description computes it, one bit of the quotient at a time.
use Rattle.std.proofs.Common.{◌≡◌, ◌∙◌, ℕ, suc, ◌+◌, ◌-◌, ◌*◌, ◌/◌, ◌%◌, ◌^◌, ◌<◌, ◌≤◌, Bool, true, false, cond, refl, ap, sym, subst, arith}
use Rattle.std.proofs.lemmas.{Bool.Decides.nat_tests, Nat.div-mul-add, Nat.mod-mul-add}
use Rattle.std.specs.{Prelude.nat_lt}

-- A step: the remainder is in the upper half of s, and bits of the quotient enter the lower half in the place of bits of the dividend.
abbrev pub bit_zero : ℕ → ℕ
bit_zero s = s / 1 % 2 ^ 63 * 2 + 0

abbrev pub bit_one : ℕ → ℕ → ℕ
bit_one s d = ((s / 2 ^ 31 % 2 ^ 32 + 2 ^ 32 - d) % 2 ^ 32 * 2 ^ 31 + s / 1 % 2 ^ 31) * 2 + 1

pub one_bit : ℕ → ℕ → ℕ
one_bit s d = cond (nat_lt (s / 2 ^ 31 % 2 ^ 33) d) (bit_zero s) (bit_one s d)

pub is_one_bit : (s d : ℕ) → cond (nat_lt (s / 2 ^ 31 % 2 ^ 33) d) (bit_zero s) (bit_one s d) ≡ one_bit s d
unfolding one_bit
is_one_bit s d = refl

-- what a step gives: the next bit of the quotient is 0 or 1
pub record Steps (s d t bit : ℕ) : Type 0 where
  pub bit_fits : bit < 2
  pub is : t + bit * d * 2 ^ 32 ≡ 2 * s + bit
  pub fits : t < d * 2 ^ 32

steps : (s d : ℕ) → s < d * 2 ^ 32 → d < 2 ^ 32 → (bit : ℕ) × Steps s d (one_bit s d) bit
unfolding one_bit
steps s d h g = by_test (nat_lt (s / 2 ^ 31 % 2 ^ 33) d) refl
  where
    by_test : (t : Bool) → nat_lt (s / 2 ^ 31 % 2 ^ 33) d ≡ t
        → (bit : ℕ) × Steps s d (cond t (bit_zero s) (bit_one s d)) bit
    by_test true e =
        let k : s / 2 ^ 31 % 2 ^ 33 < d = grind (arith, nat_tests) in
        (0, record { bit_fits = omega arith; is = omega arith; fits = omega arith })
    by_test false e =
        let k : d ≤ s / 2 ^ 31 % 2 ^ 33 = grind (arith, nat_tests) in
        let m : s / 2 ^ 31 < 2 * d = omega arith in
        let z : (s / 2 ^ 31 % 2 ^ 32 + 2 ^ 32 - d) % 2 ^ 32 + d ≡ s / 2 ^ 31 = omega arith in
        (1, record { bit_fits = omega arith; is = omega arith; fits = omega arith })

-- after k steps from a
pub record Divides (k a d s : ℕ) : Type 0 where
  pub q : ℕ
  pub is : s + q * d * 2 ^ 32 ≡ 2 ^ k * a + q
  pub bits : q < 2 ^ k
  pub fits : s < d * 2 ^ 32

doubled : (k a : ℕ) → 2 ^ suc k * a ≡ 2 * (2 ^ k * a)
doubled k a = ap (λ (p : ℕ). p * a) power ∙ product (2 ^ k)
  where
    power : 2 ^ suc k ≡ 2 * 2 ^ k
    power = omega arith

    product : (p : ℕ) → 2 * p * a ≡ 2 * (p * a)
    product p = grind arith

next : (k a d s : ℕ) → d < 2 ^ 32 → Divides k a d s → Divides (suc k) a d (one_bit s d)
next k a d s g h =
    let n = steps s d h.fits g in
    from_bit n.0 n.1
  where
    from_bit : (bit : ℕ) → Steps s d (one_bit s d) bit → Divides (suc k) a d (one_bit s d)
    from_bit bit n =
        let double : (2 * h.q + bit) * d ≡ 2 * (h.q * d) + bit * d = grind arith in
        let product : 2 ^ suc k * a ≡ 2 * (2 ^ k * a) = doubled k a in
        let was : s + h.q * d * 2 ^ 32 ≡ 2 ^ k * a + h.q = h.is in
        let now : one_bit s d + bit * d * 2 ^ 32 ≡ 2 * s + bit = n.is in
        let small : h.q < 2 ^ k = h.bits in
        let one : bit < 2 = n.bit_fits in
        record { q = 2 * h.q + bit; is = omega arith; bits = omega arith; fits = n.fits }

-- four steps, as a stage takes them
pub four_bits : ℕ → ℕ → ℕ
four_bits s d = one_bit (one_bit (one_bit (one_bit s d) d) d) d

pub is_four_bits : (s d : ℕ) → one_bit (one_bit (one_bit (one_bit s d) d) d) d ≡ four_bits s d
unfolding four_bits
is_four_bits s d = refl

four : (k a d s : ℕ) → d < 2 ^ 32 → Divides k a d s → Divides (suc (suc (suc (suc k)))) a d (four_bits s d)
unfolding four_bits
four k a d s g h = next _ a d _ g (next _ a d _ g (next _ a d _ g (next k a d s g h)))

-- and 32 steps
abbrev pub divided : ℕ → ℕ → ℕ
divided a d = four_bits (four_bits (four_bits (four_bits (four_bits (four_bits (four_bits (four_bits a d) d) d) d) d) d) d) d

begins : (a d : ℕ) → 0 < d → a < 2 ^ 32 → Divides 0 a d a
begins a d p f = record { q = 0; is = omega arith; bits = omega arith; fits = omega arith }

ends : (a d : ℕ) → 0 < d → d < 2 ^ 32 → a < 2 ^ 32 → Divides 32 a d (divided a d)
ends a d p g f = four _ a d _ g (four _ a d _ g (four _ a d _ g (four _ a d _ g (four _ a d _ g (four _ a d _ g (four _ a d _ g (four 0 a d a g (begins a d p f))))))))

-- The quotient is in the lower half, and the remainder in the upper half.
pub record IsDivided (s q r : ℕ) : Type 0 where
  pub lower : s % 2 ^ 32 ≡ q
  pub upper : s / 2 ^ 32 ≡ r

halves : (a d s : ℕ) → Divides 32 a d s → IsDivided s (a / d) (a % d)
halves a d s h =
    let was : s + h.q * d * 2 ^ 32 ≡ 2 ^ 32 * a + h.q = h.is in
    let small : h.q < 2 ^ 32 = h.bits in
    let fits : s < d * 2 ^ 32 = h.fits in
    let q : s % 2 ^ 32 ≡ h.q = omega arith in
    let sum : h.q * d + s / 2 ^ 32 ≡ a = omega arith in
    let below : s / 2 ^ 32 < d = omega arith in
    record {
      lower = q ∙ sym (ap (λ (n : ℕ). n / d) (sym sum) ∙ div-mul-add h.q d (s / 2 ^ 32) below);
      upper = sym (ap (λ (n : ℕ). n % d) (sym sum) ∙ mod-mul-add h.q d (s / 2 ^ 32) below);
    }

pub divides : (a d : ℕ) → 0 < d → d < 2 ^ 32 → a < 2 ^ 32 → IsDivided (divided a d) (a / d) (a % d)
divides a d p g f = halves a d (divided a d) (ends a d p g f)

-- by 0
record ByZero (k a s : ℕ) : Type 0 where
  m : ℕ
  is : s + m * 2 ^ 64 + 1 ≡ 2 ^ k * (a + 1)
  fits : s < 2 ^ 64

never_below : (n : ℕ) → nat_lt n 0 ≡ false
never_below n = grind (arith, nat_tests)

is_by_zero : (s : ℕ) → one_bit s 0 ≡ bit_one s 0
unfolding one_bit
is_by_zero s = ap (λ (t : Bool). cond t (bit_zero s) (bit_one s 0)) (never_below (s / 2 ^ 31 % 2 ^ 33))

one_bit0 : (s : ℕ) → s < 2 ^ 64 → bit_one s 0 + s / 2 ^ 63 * 2 ^ 64 ≡ 2 * s + 1
one_bit0 s h = omega arith

one_bit0_fits : (s : ℕ) → bit_one s 0 < 2 ^ 64
one_bit0_fits s = omega arith

next0 : (k a s : ℕ) → ByZero k a s → ByZero (suc k) a (one_bit s 0)
next0 k a s h =
    let was : s + h.m * 2 ^ 64 + 1 ≡ 2 ^ k * (a + 1) = h.is in
    let fits : s < 2 ^ 64 = h.fits in
    let product : 2 ^ suc k * (a + 1) ≡ 2 * (2 ^ k * (a + 1)) = doubled k (a + 1) in
    let now : one_bit s 0 + s / 2 ^ 63 * 2 ^ 64 ≡ 2 * s + 1 = ap (λ (n : ℕ). n + s / 2 ^ 63 * 2 ^ 64) (is_by_zero s) ∙ one_bit0 s fits in
    record { m = 2 * h.m + s / 2 ^ 63; is = omega arith; fits = subst (λ (n : ℕ). n < 2 ^ 64) (sym (is_by_zero s)) (one_bit0_fits s) }

four0 : (k a s : ℕ) → ByZero k a s → ByZero (suc (suc (suc (suc k)))) a (four_bits s 0)
unfolding four_bits
four0 k a s h = next0 _ a _ (next0 _ a _ (next0 _ a _ (next0 k a s h)))

ends0 : (a : ℕ) → a < 2 ^ 32 → ByZero 32 a (divided a 0)
ends0 a f = four0 _ a _ (four0 _ a _ (four0 _ a _ (four0 _ a _ (four0 _ a _ (four0 _ a _ (four0 _ a _ (four0 0 a a (record { m = 0; is = omega arith; fits = omega arith }))))))))

halves0 : (a s : ℕ) → a < 2 ^ 32 → ByZero 32 a s → IsDivided s (2 ^ 32 - 1) a
halves0 a s f h =
    let was : s + h.m * 2 ^ 64 + 1 ≡ 2 ^ 32 * (a + 1) = h.is in
    record { lower = omega arith; upper = omega arith }

pub divides_by_zero : (a : ℕ) → a < 2 ^ 32 → IsDivided (divided a 0) (2 ^ 32 - 1) a
divides_by_zero a f = halves0 a (divided a 0) f (ends0 a f)
