-- Choices as the descriptions compute them, and those of the tables.
use Rattle.std.proofs.Common.{◌≡◌, ℕ, ◌-◌, ◌%◌, ◌^◌, ◌<◌, Bool, true, false, cond, eqb, not, refl, ap, arith}
use Rattle.std.specs.Prelude.{◌&&◌, bit_and, bit_or, nat_lt}
use Rattle.kp_bits.specs.Word.{word}
use Rattle.kp_isa_dlx.specs.Words.{one_if}
use Rattle.kp_isa_dlx.proofs.Signed.{is_amount}

-- a register is written where its number isn't 0
pub gated : (zero_reg x : Bool) (v w : ℕ) → cond (eqb (bit_and (1 - cond zero_reg 1 0) 1) 1 && x) v w ≡ cond (not zero_reg && x) v w
gated true x v w = refl
gated false x v w = refl

-- and only where the instruction writes one
pub ungated : (zero_reg x : Bool) (v w : ℕ) → cond (eqb (bit_and (1 - cond zero_reg 1 0) 0) 1 && x) v w ≡ w
ungated true x v w = refl
ungated false x v w = refl

-- a branch is taken where the register is 0, or where it isn't
pub taken_zero : (is_zero : Bool) (x y : ℕ) → (cond (eqb (bit_or (bit_and 1 (cond is_zero 1 0)) 0) 1) (word 32 x) (word 32 y)).value ≡ cond is_zero x y
taken_zero true x y = refl
taken_zero false x y = refl

pub taken_other : (is_zero : Bool) (x y : ℕ) → (cond (eqb (bit_and 1 (1 - cond is_zero 1 0)) 1) (word 32 x) (word 32 y)).value ≡ cond (not is_zero) x y
taken_other true x y = refl
taken_other false x y = refl

pub shifted : (n x : ℕ) → cond (nat_lt (n % 32) 32) x 0 ≡ x
shifted n x = ap (λ (b : Bool). cond b x 0) (is_amount n)

-- values that fit
pub chosen : (t : Bool) (x y k : ℕ) → x < k → y < k → cond t x y < k
chosen true x y k h g = h
chosen false x y k h g = g

pub never : (t : Bool) (x y : ℕ) → cond (not t && t) x y ≡ y
never true x y = refl
never false x y = refl

pub is_bit : (t : Bool) → one_if t < 2 ^ 32
is_bit true = omega arith
is_bit false = omega arith
