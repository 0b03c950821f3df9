-- The upper halves of products, as the description computes them from that of the unsigned product.
use Rattle.std.proofs.Common.{◌≡◌, ◌∙◌, ℕ, ◌+◌, ◌-◌, ◌*◌, ◌/◌, ◌%◌, ◌^◌, ◌<◌, Bool, true, false, cond, ap, arith}
use Rattle.kp_isa_rv.specs.Isa.{is_negative, low}
use Rattle.kp_isa_rvm.specs.Isa.{wide, upper}

-- the upper half of p, less x and y
abbrev pub less : ℕ → ℕ → ℕ → ℕ
less p x y = ((p % 2 ^ 64 / 2 ^ 32 % 2 ^ 32 + 2 ^ 32 - x) % 2 ^ 32 + 2 ^ 32 - y) % 2 ^ 32

plain : (p : ℕ) → less p 0 0 ≡ p / 2 ^ 32 % 2 ^ 32
plain p = omega arith

one : (p b : ℕ) → b < 2 ^ 32 → less p b 0 ≡ (p + (2 ^ 64 - 2 ^ 32) * b) / 2 ^ 32 % 2 ^ 32
one p b g = omega arith

other : (p a : ℕ) → a < 2 ^ 32 → less p 0 a ≡ (p + (2 ^ 64 - 2 ^ 32) * a) / 2 ^ 32 % 2 ^ 32
other p a f = omega arith

both : (p a b : ℕ) → a < 2 ^ 32 → b < 2 ^ 32 → less p b a ≡ (p + (2 ^ 64 - 2 ^ 32) * a + (2 ^ 64 - 2 ^ 32) * b + (2 ^ 64 - 2 ^ 32) * (2 ^ 64 - 2 ^ 32)) / 2 ^ 32 % 2 ^ 32
both p a b f g = omega arith

pub unsigned : (a b : ℕ) → less (a * b) 0 0 ≡ upper (a * b)
unsigned a b = plain (a * b)

product : (a b : ℕ) (s t : Bool) → a < 2 ^ 32 → b < 2 ^ 32
    → less (a * b) (cond s b 0) (cond t a 0) ≡ upper (cond s (a + (2 ^ 64 - 2 ^ 32)) a * cond t (b + (2 ^ 64 - 2 ^ 32)) b)
product a b true true f g = both (a * b) a b f g ∙ ap (λ (n : ℕ). n / 2 ^ 32 % 2 ^ 32) expanded
  where
    expanded : a * b + (2 ^ 64 - 2 ^ 32) * a + (2 ^ 64 - 2 ^ 32) * b + (2 ^ 64 - 2 ^ 32) * (2 ^ 64 - 2 ^ 32) ≡ (a + (2 ^ 64 - 2 ^ 32)) * (b + (2 ^ 64 - 2 ^ 32))
    expanded = grind arith
product a b true false f g = one (a * b) b g ∙ ap (λ (n : ℕ). n / 2 ^ 32 % 2 ^ 32) expanded
  where
    expanded : a * b + (2 ^ 64 - 2 ^ 32) * b ≡ (a + (2 ^ 64 - 2 ^ 32)) * b
    expanded = grind arith
product a b false true f g = other (a * b) a f ∙ ap (λ (n : ℕ). n / 2 ^ 32 % 2 ^ 32) expanded
  where
    expanded : a * b + (2 ^ 64 - 2 ^ 32) * a ≡ a * (b + (2 ^ 64 - 2 ^ 32))
    expanded = grind arith
product a b false false f g = plain (a * b)

pub signed : (a b : ℕ) → a < 2 ^ 32 → b < 2 ^ 32 → less (a * b) (cond (is_negative a) b 0) (cond (is_negative b) a 0) ≡ upper (wide a * wide b)
signed a b f g = product a b (is_negative a) (is_negative b) f g

pub half_signed : (a b : ℕ) → a < 2 ^ 32 → b < 2 ^ 32 → less (a * b) (cond (is_negative a) b 0) 0 ≡ upper (wide a * b)
half_signed a b f g = product a b (is_negative a) false f g

pub lower_half : (p : ℕ) → p % 2 ^ 64 / 1 % 2 ^ 32 ≡ low p
lower_half p = omega arith
