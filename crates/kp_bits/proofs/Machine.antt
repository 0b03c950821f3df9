-- What operations of a machine on 64 bits make of numbers that fit a width, where a mask has the width's bits.
use Rattle.std.proofs.Common.{◌≡◌, ◌∙◌, ℕ, ◌+◌, ◌-◌, ◌*◌, ◌/◌, ◌%◌, ◌^◌, ◌<◌, ◌≤◌, Bool, true, false, cond, refl, ap, arith, bit_and, bit_or}
use Rattle.std.proofs.{lemmas.Bool.ltb-true, Math.Nat.mod-eq_of_lt, Math.Nat.mul-add, Math.Nat.add-mul-mod_self_left}
use Rattle.std.{proofs.lemmas.Nat.and_mask, proofs.lemmas.Nat.pow-add, proofs.lemmas.Nat.pow_pos, specs.Prelude.nat_lt}
use Rattle.kp_bits.proofs.Powers.{low_of, concat_value, pow_le, sub_above}

ones : (x m w : ℕ) → m ≡ 2 ^ w - 1 → bit_and x m ≡ x % 2 ^ w
ones x m w e = ap (bit_and x) e ∙ and_mask x w

low_six : (b : ℕ) → b < 64 → bit_and b 63 ≡ b
low_six b h = and_mask b 6 ∙ mod-eq_of_lt h

pub wrapped : (a b t : ℕ) → b ≤ a → a < t → (a + (t - b)) % t ≡ a - b
wrapped a b t h k = let e : a + (t - b) ≡ a + t - b = omega arith in ap (λ x. x % t) e ∙ sub_above a b t k h

pub not_number : (w x m : ℕ) → w ≤ 64 → x < 2 ^ w → m ≡ 2 ^ w - 1 → (m + (2 ^ 64 - x)) % 2 ^ 64 ≡ 2 ^ w - 1 - x
not_number w x m h f e =
    let p = pow_le w 64 h in
    let a : x ≤ m = omega arith in
    let b : m < 2 ^ 64 = omega (arith, pow_pos w) in
    wrapped m x (2 ^ 64) a b ∙ ap (λ n. n - x) e

pub add_number : (w n m : ℕ) → w ≤ 64 → m ≡ 2 ^ w - 1 → bit_and (n % 2 ^ 64) m ≡ n % 2 ^ w
add_number w n m h e = ones (n % 2 ^ 64) m w e ∙ low_of n w h

sub_by : (a b m j t : ℕ) → t ≡ m * j + m → b ≤ m → (a + (t - b)) % m ≡ (a + m - b) % m
sub_by a b m j t e h =
    let q : a + (t - b) ≡ (a + m - b) + m * j = omega arith in
    ap (λ x. x % m) q ∙ add-mul-mod_self_left (a + m - b) m j

whole : (w : ℕ) → w ≤ 64 → 2 ^ 64 ≡ 2 ^ w * (2 ^ (64 - w) - 1) + 2 ^ w
whole w h =
    let e : 64 ≡ w + (64 - w) = omega arith in
    let k : 2 ^ (64 - w) ≡ (2 ^ (64 - w) - 1) + 1 = omega (arith, pow_pos (64 - w)) in
    let one : 2 ^ w * 1 ≡ 2 ^ w = omega arith in
    ap (λ n. 2 ^ n) e ∙ pow-add 2 w (64 - w) ∙ ap (λ n. 2 ^ w * n) k ∙ mul-add (2 ^ w) (2 ^ (64 - w) - 1) 1 ∙ ap (λ n. 2 ^ w * (2 ^ (64 - w) - 1) + n) one

pub sub_number : (w a b m : ℕ) → w ≤ 64 → b < 2 ^ w → m ≡ 2 ^ w - 1 → bit_and ((a + (2 ^ 64 - b)) % 2 ^ 64) m ≡ (a + 2 ^ w - b) % 2 ^ w
sub_number w a b m h f e =
    let l : b ≤ 2 ^ w = omega arith in
    add_number w (a + (2 ^ 64 - b)) m h e ∙ sub_by a b (2 ^ w) (2 ^ (64 - w) - 1) (2 ^ 64) (whole w h) l

cond_same : (t : Bool) (x y z : ℕ) → (t ≡ true → x ≡ y) → cond t x z ≡ cond t y z
cond_same true x y z h = h refl
cond_same false x y z h = refl

shift_below : (b w : ℕ) → w ≤ 64 → nat_lt b w ≡ true → bit_and b 63 ≡ b
shift_below b w h t = let l = ltb-true b w t in low_six b (omega arith)

pub shl_number : (w a b m : ℕ) → w ≤ 64 → m ≡ 2 ^ w - 1
    → cond (nat_lt b w) (bit_and (a * 2 ^ bit_and b 63 % 2 ^ 64) m) 0 ≡ cond (nat_lt b w) (a * 2 ^ b % 2 ^ w) 0
shl_number w a b m h e =
    cond_same (nat_lt b w) (bit_and (a * 2 ^ bit_and b 63 % 2 ^ 64) m) (a * 2 ^ b % 2 ^ w) 0
    (λ t. add_number w (a * 2 ^ bit_and b 63) m h e ∙ ap (λ k. a * 2 ^ k % 2 ^ w) (shift_below b w h t))

pub shr_number : (w a b : ℕ) → w ≤ 64 → cond (nat_lt b w) (a / 2 ^ bit_and b 63) 0 ≡ cond (nat_lt b w) (a / 2 ^ b) 0
shr_number w a b h =
    cond_same (nat_lt b w) (a / 2 ^ bit_and b 63) (a / 2 ^ b) 0 (λ t. ap (λ k. a / 2 ^ k) (shift_below b w h t))

pub join_number : (a b i j : ℕ) → 1 ≤ i → a < 2 ^ i → b < 2 ^ j → i + j ≤ 64 → bit_or (a * 2 ^ bit_and j 63 % 2 ^ 64) b ≡ a * 2 ^ j + b
join_number a b i j h f g l =
    ap (λ k. bit_or (a * 2 ^ k % 2 ^ 64) b) (low_six j (omega arith)) ∙ concat_value a b i j f g l

pub slice_number : (x k lo m : ℕ) → lo < 64 → m ≡ 2 ^ k - 1 → bit_and (x / 2 ^ bit_and lo 63) m ≡ x / 2 ^ lo % 2 ^ k
slice_number x k lo m h e = ones (x / 2 ^ bit_and lo 63) m k e ∙ ap (λ j. x / 2 ^ j % 2 ^ k) (low_six lo h)
