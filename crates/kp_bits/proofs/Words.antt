-- Each operation returns a word, at the widths that it requires.
use Rattle.std.proofs.Common.{◌≡◌, ℕ, ◌+◌, ◌-◌, ◌*◌, ◌/◌, ◌%◌, ◌^◌, ◌<◌, ◌≤◌, ◌==◌, arith, cond, ltb}
use Rattle.std.proofs.lemmas.{Bool.cond_both, Nat.pow_pos, Nat.and_le_l, Nat.or_lt, Nat.xor_lt, Nat.mod_below, Nat.shr_le}
use Rattle.kp_bits.specs.Word.{Word, IsWord, not_of, and_of, or_of, xor_of, add_of, sub_of, mul_of, eq_of, lt_of, shl_of, shr_of, mux_of, concat_of, slice_of, zext_of, sext_of}
use Rattle.kp_bits.proofs.Powers.{concat_fits, pow_le}

-- what is left of a number modulo 2 to the width fits it
below : (n w : ℕ) → n % 2 ^ w < 2 ^ w
below n w = mod_below n (2 ^ w) (pow_pos w)

bit_fits : (b : _) → cond b 1 0 < 2 ^ 1
bit_fits b = cond_both b 1 0 (λ x. x < 2 ^ 1) (λ _. omega arith) (λ _. omega arith)

pub not_word : (a : Word) → IsWord a → IsWord (not_of a)
not_word a h = record { positive = h.positive; at_most = h.at_most; fits = omega (arith, pow_pos a.width) }

pub and_word : (a b : Word) → IsWord a → IsWord (and_of a b)
and_word a b h = record { positive = h.positive; at_most = h.at_most; fits = let l = and_le_l a.value b.value in omega (arith, h.fits) }

pub or_word : (a b : Word) → IsWord a → IsWord b → a.width ≡ b.width → IsWord (or_of a b)
or_word a b h k e = record { positive = h.positive; at_most = h.at_most; fits = or_lt a.width a.value b.value h.fits (rw e k.fits) }

pub xor_word : (a b : Word) → IsWord a → IsWord b → a.width ≡ b.width → IsWord (xor_of a b)
xor_word a b h k e = record { positive = h.positive; at_most = h.at_most; fits = xor_lt a.width a.value b.value h.fits (rw e k.fits) }

pub add_word : (a b : Word) → IsWord a → IsWord (add_of a b)
add_word a b h = record { positive = h.positive; at_most = h.at_most; fits = below _ _ }

pub sub_word : (a b : Word) → IsWord a → IsWord (sub_of a b)
sub_word a b h = record { positive = h.positive; at_most = h.at_most; fits = below _ _ }

pub mul_word : (a b : Word) → IsWord a → IsWord (mul_of a b)
mul_word a b h = record { positive = h.positive; at_most = h.at_most; fits = below _ _ }

pub eq_word : (a b : Word) → IsWord (eq_of a b)
eq_word a b = record { positive = omega arith; at_most = omega arith; fits = bit_fits (a.value == b.value) }

pub lt_word : (a b : Word) → IsWord (lt_of a b)
lt_word a b = record { positive = omega arith; at_most = omega arith; fits = bit_fits (ltb a.value b.value) }

pub shl_word : (a b : Word) → IsWord a → IsWord (shl_of a b)
shl_word a b h = record {
  positive = h.positive;
  at_most = h.at_most;
  fits = cond_both (ltb b.value a.width) (a.value * 2 ^ b.value % 2 ^ a.width) 0 (λ x. x < 2 ^ a.width) (λ _. below _ _) (λ _. pow_pos a.width);
}

pub shr_word : (a b : Word) → IsWord a → IsWord (shr_of a b)
shr_word a b h = record {
  positive = h.positive;
  at_most = h.at_most;
  fits = cond_both (ltb b.value a.width) (a.value / 2 ^ b.value) 0 (λ x. x < 2 ^ a.width) (λ _. omega (arith, h.fits, shr_le a.value b.value)) (λ _. pow_pos a.width);
}

pub mux_word : (test a b : Word) → IsWord a → IsWord b → IsWord (mux_of test a b)
mux_word test a b h k = cond_both (test.value == 1) a b IsWord (λ _. h) (λ _. k)

pub concat_word : (high low : Word) → IsWord high → IsWord low → high.width + low.width ≤ 64 → IsWord (concat_of high low)
concat_word high low h k l = record {
  positive = omega (arith, h.positive);
  at_most = l;
  fits = concat_fits high.value low.value high.width low.width h.fits k.fits;
}

pub slice_word : (a : Word) (hi lo : ℕ) → IsWord a → lo ≤ hi → hi < a.width → IsWord (slice_of a hi lo)
slice_word a hi lo h k l = record { positive = omega arith; at_most = omega (arith, h.at_most); fits = below _ _ }

pub zext_word : (a : Word) (width : ℕ) → IsWord a → a.width ≤ width → width ≤ 64 → IsWord (zext_of a width)
zext_word a width h k l = record { positive = omega (arith, h.positive); at_most = l; fits = omega (arith, h.fits, pow_le a.width width k) }

pub sext_word : (a : Word) (width : ℕ) → IsWord a → a.width ≤ width → width ≤ 64 → IsWord (sext_of a width)
sext_word a width h k l = let p = pow_le a.width width k in let f = h.fits in record {
  positive = omega (arith, h.positive);
  at_most = l;
  fits = cond_both (ltb a.value (2 ^ (a.width - 1))) a.value (a.value + (2 ^ width - 2 ^ a.width)) (λ x. x < 2 ^ width) (λ _. omega arith) (λ _. omega arith);
}

-- all of them
pub ruleset operations = (not_word, and_word, or_word, xor_word, add_word, sub_word, mul_word, eq_word, lt_word, shl_word, shr_word, mux_word, concat_word, slice_word, zext_word, sext_word)
