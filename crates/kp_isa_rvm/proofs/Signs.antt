-- Division with signs: of the absolute values, and then the sign.
use Rattle.std.proofs.Common.{◌≡◌, ◌∙◌, ℕ, ◌+◌, ◌-◌, ◌/◌, ◌%◌, ◌^◌, ◌<◌, ◌≤◌, Bool, true, false, cond, eqb, not, refl, ap, sym, subst, arith}
use Rattle.std.proofs.lemmas.{Bool.ltb-true, Bool.Decides.nat_tests}
use Rattle.std.proofs.Math.Nat.{div-le_self, mod-le}
use Rattle.std.specs.{Prelude.nat_lt, Prelude.bit_and, Prelude.bit_xor, Int.Bits.and_zero_r}
use Rattle.kp_bits.specs.Word.{word}
use Rattle.kp_isa_rv.specs.Isa.{is_negative}
use Rattle.kp_isa_rvm.specs.Isa.{size, opposite, signs_differ, quotient, remainder, signed_quotient, signed_remainder}
use Rattle.kp_isa_rvm.proofs.Divider.{divided, IsDivided, divides, divides_by_zero}

pub either_fits : (t : Bool) (x y : ℕ) → x < 2 ^ 32 → y < 2 ^ 32 → cond t x y < 2 ^ 32
either_fits true x y f g = f
either_fits false x y f g = g

-- the sign bit
pub sign_bit : (a : ℕ) → a < 2 ^ 32 → a / 2 ^ 31 % 2 ≡ cond (is_negative a) 1 0
sign_bit a f = by_test (nat_lt a (2 ^ 31)) refl
  where
    by_test : (t : Bool) → nat_lt a (2 ^ 31) ≡ t → a / 2 ^ 31 % 2 ≡ cond (not t) 1 0
    by_test true e = let k : a < 2 ^ 31 = ltb-true a (2 ^ 31) e in omega arith
    by_test false e = let k : 2 ^ 31 ≤ a = grind (arith, nat_tests) in omega arith

size_fits : (a : ℕ) → a < 2 ^ 32 → size a < 2 ^ 32
size_fits a f = grind (arith, nat_tests)

size_positive : (a : ℕ) → 0 < a → a < 2 ^ 32 → 0 < size a
size_positive a p f = grind (arith, nat_tests)

positive : (b : ℕ) → eqb b 0 ≡ false → 0 < b
positive b e = grind (arith, nat_tests)

is_zero : (b : ℕ) → eqb b 0 ≡ true → b ≡ 0
is_zero b e = grind (arith, nat_tests)

-- what the division gives, of any operands
pub unsigned_is : (a b : ℕ) → a < 2 ^ 32 → b < 2 ^ 32 → IsDivided (divided a b) (quotient a b) (remainder a b)
unsigned_is a b f g = by_test (eqb b 0) refl
  where
    by_test : (t : Bool) → eqb b 0 ≡ t → IsDivided (divided a b) (cond t (2 ^ 32 - 1) (a / b)) (cond t a (a % b))
    by_test true e = subst (λ (n : ℕ). IsDivided (divided a n) (2 ^ 32 - 1) a) (sym (is_zero b e)) (divides_by_zero a f)
    by_test false e = divides a b (positive b e) g f

-- of the absolute values
pub sizes : (a b : ℕ) → a < 2 ^ 32 → b < 2 ^ 32 → IsDivided (divided (size a) (size b)) (cond (eqb b 0) (2 ^ 32 - 1) (size a / size b)) (cond (eqb b 0) (size a) (size a % size b))
sizes a b f g = by_test (eqb b 0) refl
  where
    by_test : (t : Bool) → eqb b 0 ≡ t → IsDivided (divided (size a) (size b)) (cond t (2 ^ 32 - 1) (size a / size b)) (cond t (size a) (size a % size b))
    by_test true e = subst (λ (n : ℕ). IsDivided (divided (size a) (size n)) (2 ^ 32 - 1) (size a)) (sym (is_zero b e)) (divides_by_zero (size a) (size_fits a f))
    by_test false e = divides (size a) (size b) (size_positive b (positive b e) g) (size_fits b g) (size_fits a f)

-- the sign of a quotient, and of a remainder
abbrev pub flips : ℕ → ℕ → Bool
flips a b = cond (eqb b 0) false (signs_differ a b)

pub with_sign : (a b : ℕ) → cond (flips a b) (opposite (cond (eqb b 0) (2 ^ 32 - 1) (size a / size b))) (cond (eqb b 0) (2 ^ 32 - 1) (size a / size b)) ≡ signed_quotient a b
with_sign a b = by_test (eqb b 0)
  where
    by_test : (t : Bool) → cond (cond t false (signs_differ a b)) (opposite (cond t (2 ^ 32 - 1) (size a / size b))) (cond t (2 ^ 32 - 1) (size a / size b)) ≡ cond t (2 ^ 32 - 1) (cond (signs_differ a b) (opposite (size a / size b)) (size a / size b))
    by_test true = refl
    by_test false = refl

signed_again : (a : ℕ) → a < 2 ^ 32 → cond (is_negative a) (opposite (size a)) (size a) ≡ a
signed_again a f = by_test (nat_lt a (2 ^ 31)) refl
  where
    by_test : (t : Bool) → nat_lt a (2 ^ 31) ≡ t → cond (not t) (opposite (cond (not t) (2 ^ 32 - a) a)) (cond (not t) (2 ^ 32 - a) a) ≡ a
    by_test true e = refl
    by_test false e = let k : 2 ^ 31 ≤ a = grind (arith, nat_tests) in omega arith

pub with_sign_of_dividend : (a b : ℕ) → a < 2 ^ 32 → cond (is_negative a) (opposite (cond (eqb b 0) (size a) (size a % size b))) (cond (eqb b 0) (size a) (size a % size b)) ≡ signed_remainder a b
with_sign_of_dividend a b f = by_test (eqb b 0)
  where
    by_test : (t : Bool) → cond (is_negative a) (opposite (cond t (size a) (size a % size b))) (cond t (size a) (size a % size b)) ≡ cond t a (cond (is_negative a) (opposite (size a % size b)) (size a % size b))
    by_test true = signed_again a f
    by_test false = refl

-- a value where a is negative, and another where it isn't, as the description chooses them
by_sign : (t : Bool) (x y : ℕ) → (cond (eqb (bit_and 1 (cond t 1 0)) 1) (word 32 x) (word 32 y)).value ≡ cond t x y
by_sign true x y = refl
by_sign false x y = refl

pub if_negative : (a x y : ℕ) → a < 2 ^ 32 → (cond (eqb (bit_and 1 (a / 2147483648 % 2)) 1) (word 32 x) (word 32 y)).value ≡ cond (is_negative a) x y
if_negative a x y f =
    ap (λ (n : ℕ). (cond (eqb (bit_and 1 n) 1) (word 32 x) (word 32 y)).value) (sign_bit a f) ∙ by_sign (is_negative a) x y

-- the absolute value
absolute_by : (t : Bool) (x y : ℕ) → (cond (eqb (bit_and (cond t 1 0) 1) 1) (word 32 x) (word 32 y)).value ≡ cond t x y
absolute_by true x y = refl
absolute_by false x y = refl

turned : (a : ℕ) → 0 < a → (4294967296 - a) % 4294967296 ≡ 2 ^ 32 - a
turned a p = omega arith

absolute_at : (a : ℕ) (t : Bool) → nat_lt a (2 ^ 31) ≡ t → cond (not t) ((4294967296 - a) % 4294967296) a ≡ cond (not t) (2 ^ 32 - a) a
absolute_at a true e = refl
absolute_at a false e = let k : 2 ^ 31 ≤ a = grind (arith, nat_tests) in turned a (omega arith)

abbrev pub given_size : ℕ → ℕ
given_size a = (cond (eqb (bit_and (a / 2147483648 % 2) 1) 1) (word 32 ((4294967296 - a) % 4294967296)) (word 32 a)).value

pub absolute : (a : ℕ) → a < 2 ^ 32 → given_size a ≡ size a
absolute a f =
    ap (λ (n : ℕ). (cond (eqb (bit_and n 1) 1) (word 32 ((4294967296 - a) % 4294967296)) (word 32 a)).value) (sign_bit a f)
    ∙ absolute_by (is_negative a) ((4294967296 - a) % 4294967296) a
    ∙ absolute_at a (nat_lt a (2 ^ 31)) refl

abbrev pub given_plain : ℕ → ℕ
given_plain a = (cond (eqb (bit_and (a / 2147483648 % 2) 0) 1) (word 32 ((4294967296 - a) % 4294967296)) (word 32 a)).value

pub unchanged : (a : ℕ) → given_plain a ≡ a
unchanged a = ap (λ (n : ℕ). (cond (eqb n 1) (word 32 ((4294967296 - a) % 4294967296)) (word 32 a)).value) (and_zero_r (a / 2147483648 % 2))

-- the halves of what the division gives
lower_is : (s q : ℕ) → s % 2 ^ 32 ≡ q → s / 1 % 4294967296 ≡ q
lower_is s q e = omega arith

upper_is : (s r : ℕ) → s / 2 ^ 32 ≡ r → r < 2 ^ 32 → s / 4294967296 % 4294967296 ≡ r
upper_is s r e f = omega arith

pub remainder_fits : (a b : ℕ) → a < 2 ^ 32 → remainder a b < 2 ^ 32
remainder_fits a b f = let k : a % b ≤ a = mod-le a b in either_fits (eqb b 0) _ _ f (omega arith)

rest_fits : (a b : ℕ) → a < 2 ^ 32 → cond (eqb b 0) (size a) (size a % size b) < 2 ^ 32
rest_fits a b f =
    let k : size a % size b ≤ size a = mod-le (size a) (size b) in
    let g : size a < 2 ^ 32 = size_fits a f in
    either_fits (eqb b 0) _ _ g (omega arith)

nothing : (n : ℕ) → 0 + n ≡ n
nothing n = omega arith

-- a quotient and a remainder without signs, as the description gives them
pub quotient_is : (a b : ℕ) → a < 2 ^ 32 → b < 2 ^ 32 → divided (0 + given_plain a) (given_plain b) / 1 % 4294967296 ≡ quotient a b
quotient_is a b f g =
    (λ i. divided (0 + unchanged a i) (unchanged b i) / 1 % 4294967296)
    ∙ ap (λ (n : ℕ). divided n b / 1 % 4294967296) (nothing a)
    ∙ lower_is (divided a b) (quotient a b) (unsigned_is a b f g).lower

pub remainder_is : (a b : ℕ) → a < 2 ^ 32 → b < 2 ^ 32 → divided (0 + given_plain a) (given_plain b) / 4294967296 % 4294967296 ≡ remainder a b
remainder_is a b f g =
    (λ i. divided (0 + unchanged a i) (unchanged b i) / 4294967296 % 4294967296)
    ∙ ap (λ (n : ℕ). divided n b / 4294967296 % 4294967296) (nothing a)
    ∙ upper_is (divided a b) (remainder a b) (unsigned_is a b f g).upper (remainder_fits a b f)

-- and with signs
abbrev given_flip : ℕ → ℕ → ℕ
given_flip a b = bit_and 1 (bit_and (bit_xor (a / 2147483648 % 2) (b / 2147483648 % 2)) (1 - cond (eqb b 0) 1 0))

flip_by : (s t z : Bool) (x y : ℕ)
    → (cond (eqb (bit_and 1 (bit_and (bit_xor (cond s 1 0) (cond t 1 0)) (1 - cond z 1 0))) 1) (word 32 x) (word 32 y)).value
    ≡ cond (cond z false (cond s (not t) t)) x y
flip_by true true true x y = refl
flip_by true true false x y = refl
flip_by true false true x y = refl
flip_by true false false x y = refl
flip_by false true true x y = refl
flip_by false true false x y = refl
flip_by false false true x y = refl
flip_by false false false x y = refl

flipped : (a b x y : ℕ) → a < 2 ^ 32 → b < 2 ^ 32 → (cond (eqb (given_flip a b) 1) (word 32 x) (word 32 y)).value ≡ cond (flips a b) x y
flipped a b x y f g =
    (λ i. (cond (eqb (bit_and 1 (bit_and (bit_xor (sign_bit a f i) (sign_bit b g i)) (1 - cond (eqb b 0) 1 0))) 1) (word 32 x) (word 32 y)).value)
    ∙ flip_by (is_negative a) (is_negative b) (eqb b 0) x y

sized : (a b : ℕ) → a < 2 ^ 32 → b < 2 ^ 32 → divided (0 + given_size a) (given_size b) ≡ divided (size a) (size b)
sized a b f g = (λ i. divided (0 + absolute a f i) (absolute b g i)) ∙ ap (λ (n : ℕ). divided n (size b)) (nothing (size a))

abbrev pub given_quotient : ℕ → ℕ → ℕ
given_quotient a b = divided (0 + given_size a) (given_size b) / 1 % 4294967296

pub signed_quotient_is : (a b : ℕ) → a < 2 ^ 32 → b < 2 ^ 32
    → (cond (eqb (given_flip a b) 1) (word 32 ((4294967296 - given_quotient a b) % 4294967296)) (word 32 (given_quotient a b))).value ≡ signed_quotient a b
signed_quotient_is a b f g =
    flipped a b ((4294967296 - given_quotient a b) % 4294967296) (given_quotient a b) f g
    ∙ ap (λ (n : ℕ). cond (flips a b) ((4294967296 - n) % 4294967296) n) lower
    ∙ with_sign a b
  where
    lower : given_quotient a b ≡ cond (eqb b 0) (2 ^ 32 - 1) (size a / size b)
    lower = ap (λ (n : ℕ). n / 1 % 4294967296) (sized a b f g) ∙ lower_is (divided (size a) (size b)) _ (sizes a b f g).lower

abbrev pub given_remainder : ℕ → ℕ → ℕ
given_remainder a b = divided (0 + given_size a) (given_size b) / 4294967296 % 4294967296

pub signed_remainder_is : (a b : ℕ) → a < 2 ^ 32 → b < 2 ^ 32
    → (cond (eqb (bit_and 1 (a / 2147483648 % 2)) 1) (word 32 ((4294967296 - given_remainder a b) % 4294967296)) (word 32 (given_remainder a b))).value ≡ signed_remainder a b
signed_remainder_is a b f g =
    if_negative a ((4294967296 - given_remainder a b) % 4294967296) (given_remainder a b) f
    ∙ ap (λ (n : ℕ). cond (is_negative a) ((4294967296 - n) % 4294967296) n) rest
    ∙ with_sign_of_dividend a b f
  where
    rest : given_remainder a b ≡ cond (eqb b 0) (size a) (size a % size b)
    rest = ap (λ (n : ℕ). n / 4294967296 % 4294967296) (sized a b f g) ∙ upper_is (divided (size a) (size b)) _ (sizes a b f g).upper (rest_fits a b f)

-- they are numbers of 32 bits
pub quotient_fits : (a b : ℕ) → a < 2 ^ 32 → quotient a b < 2 ^ 32
quotient_fits a b f = let k : a / b ≤ a = div-le_self a b in either_fits (eqb b 0) _ _ (omega arith) (omega arith)

pub signed_quotient_fits : (a b : ℕ) → a < 2 ^ 32 → signed_quotient a b < 2 ^ 32
signed_quotient_fits a b f =
    let k : size a / size b ≤ size a = div-le_self (size a) (size b) in
    let g : size a < 2 ^ 32 = size_fits a f in
    either_fits (eqb b 0) _ _ (omega arith) (either_fits (signs_differ a b) _ _ (omega arith) (omega arith))

pub signed_remainder_fits : (a b : ℕ) → a < 2 ^ 32 → signed_remainder a b < 2 ^ 32
signed_remainder_fits a b f =
    let k : size a % size b ≤ size a = mod-le (size a) (size b) in
    let g : size a < 2 ^ 32 = size_fits a f in
    either_fits (eqb b 0) _ _ f (either_fits (is_negative a) _ _ (omega arith) (omega arith))
