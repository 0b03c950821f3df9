-- The bits of masks.
use Rattle.std.proofs.Common.{◌≡◌, ◌∙◌, ℕ, zero, suc, ◌+◌, ◌*◌, ◌^◌, ◌/◌, ◌%◌, ◌<◌, ◌≤◌, List, Bool, true, false, eqb, get_or, refl, ap, arith, lit<}
use Rattle.std.proofs.lemmas.Nat.{Bits.bit_at-suc, Bits.bit_at-zero, Bits.bit_at_lowest, div-mul-add, mod-mul-add}
use Rattle.std.proofs.Math.{Nat.two-pow-succ, Pow.pow_mono}
use Rattle.kp_pipeline.specs.Rows.{one_if}
use Rattle.kp_sched.specs.Rows.{bit_of}

bit_next : (n i : ℕ) → bit_of n (suc i) ≡ bit_of (n / 2) i
bit_next n i = ap (λ x. eqb x 1) (bit_at-suc n i)

-- a mask with one more bit below
pub bit_above : (m b i : ℕ) → b < 2 → bit_of (2 * m + b) (suc i) ≡ bit_of m i
bit_above m b i l =
    let e : 2 * m + b ≡ m * 2 + b = omega arith in
    bit_next (2 * m + b) i ∙ ap (λ n. bit_of n i) (ap (λ n. n / 2) e ∙ div-mul-add m 2 b l)

pub bit_below : (m b : ℕ) → b < 2 → bit_of (2 * m + b) 0 ≡ eqb b 1
bit_below m b l =
    let e : 2 * m + b ≡ m * 2 + b = omega arith in
    ap (λ x. eqb x 1) (bit_at_lowest (2 * m + b) ∙ ap (λ n. n % 2) e ∙ mod-mul-add m 2 b l)

pub one_small : (b : Bool) → one_if b < 2
one_small true = lit< tt
one_small false = lit< tt

one_is : (b : Bool) → eqb (one_if b) 1 ≡ b
one_is true = refl
one_is false = refl

-- the mask of the bits from number k on, and that of the bits from k+1 on
pub next_bits : (bits : List Bool) (m k : ℕ) → ((j : ℕ) → bit_of m j ≡ get_or bits (suc k + j) false)
    → (j : ℕ) → bit_of (2 * m + one_if (get_or bits k false)) j ≡ get_or bits (k + j) false
next_bits bits m k h zero =
    let b = get_or bits k false in
    let z : k ≡ k + 0 = omega arith in
    bit_below m (one_if b) (one_small b) ∙ one_is b ∙ ap (λ i. get_or bits i false) z
next_bits bits m k h (suc j) =
    let b = get_or bits k false in
    let z : suc k + j ≡ k + suc j = omega arith in
    bit_above m (one_if b) j (one_small b) ∙ h j ∙ ap (λ i. get_or bits i false) z

-- a mask of d bits with one more bit below
pub small_next : (m b d : ℕ) → m < 2 ^ d → b < 2 → 2 * m + b < 2 ^ suc d
small_next m b d l h = let p = two-pow-succ d in omega (arith, p, l, h)

pub small_enough : (m d : ℕ) → d ≤ 12 → m < 2 ^ d → m < 2 ^ 15
small_enough m d l h =
    let p : 2 ^ d ≤ 2 ^ 12 = pow_mono l in
    let q : 2 ^ 12 < 2 ^ 15 = lit< tt in
    omega arith
