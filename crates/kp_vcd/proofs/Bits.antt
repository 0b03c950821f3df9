-- The number that bits denote fits in as many bits.
use Rattle.std.proofs.Common.{◌≡◌, ◌∙◌, ℕ, suc, ◌+◌, ◌*◌, ◌^◌, ◌<◌, ◌≤◌, ◌⊎◌, inl, inr, List, [], ◌∷◌, length, true, ap, sym, subst, Some, None, ltb, arith}
use Rattle.std.proofs.Math.Nat.{pow-suc, mul-le-mul_right, mul_assoc, mul_comm}
use Rattle.std.proofs.lemmas.Bool.{and_parts, or_cases, eqb-true, cond-true, lt-ltb, ltb-true}
use Rattle.std.specs.{Prelude.◌==◌, Prelude.fold, List.list_all}
use Rattle.kp_bits.specs.{Literals.numeral_next, Literals.numeral_value, Literals.number_within, Word.word, Word.IsWord}
use Rattle.kp_bits.proofs.Powers.{pow_le}
use Rattle.kp_vcd.specs.Forms.{is_bit, are_bits}

bit_next : (a b : ℕ) → is_bit b ≡ true → numeral_next 2 a b + 1 ≤ (a + 1) * 2
bit_next a b e = go (or_cases (b == 48) (b == 49) e)
  where
    go : ((b == 48) ≡ true) ⊎ ((b == 49) ≡ true) → numeral_next 2 a b + 1 ≤ (a + 1) * 2
    go (inl low) = subst (λ (c : ℕ). numeral_next 2 a c + 1 ≤ (a + 1) * 2) (sym (eqb-true b 48 low)) (omega arith)
    go (inr high) = subst (λ (c : ℕ). numeral_next 2 a c + 1 ≤ (a + 1) * 2) (sym (eqb-true b 49 high)) (omega arith)

folded : (bits : List ℕ) (a : ℕ) → list_all is_bit bits ≡ true → fold (numeral_next 2) a bits + 1 ≤ (a + 1) * 2 ^ length bits
folded [] a e = let one : (a + 1) * 2 ^ 0 ≡ a + 1 = omega arith in omega (arith, one)
folded (b ∷ bits) a e =
    let both = and_parts (is_bit b) (list_all is_bit bits) e in
    let rest = folded bits (numeral_next 2 a b) both.1 in
    let here = mul-le-mul_right (2 ^ length bits) (bit_next a b both.0) in
    let same : (a + 1) * 2 * 2 ^ length bits ≡ (a + 1) * 2 ^ suc (length bits) =
    mul_assoc (a + 1) 2 (2 ^ length bits) ∙ ap (λ (p : ℕ). (a + 1) * p) (mul_comm 2 (2 ^ length bits) ∙ sym (pow-suc 2 (length bits))) in
    omega (arith, rest, here, same)

pub bits_fit : (bits : List ℕ) → list_all is_bit bits ≡ true → numeral_value 2 bits < 2 ^ length bits
bits_fit bits e = let all = folded bits 0 e in let one : (0 + 1) * 2 ^ length bits ≡ 2 ^ length bits = omega arith in omega (arith, all, one)

pub bits_all : (bits : List ℕ) → are_bits bits ≡ true → list_all is_bit bits ≡ true
bits_all bits e = (and_parts (ltb 0 (length bits)) (list_all is_bit bits) e).1

pub bits_some : (bits : List ℕ) → are_bits bits ≡ true → 1 ≤ length bits
bits_some bits e = let h = ltb-true 0 (length bits) (and_parts (ltb 0 (length bits)) (list_all is_bit bits) e).0 in omega (arith, h)

pub bits_word : (bits : List ℕ) → are_bits bits ≡ true → length bits ≤ 64 → IsWord (word (length bits) (numeral_value 2 bits))
bits_word bits e h = record { positive = bits_some bits e; at_most = h; fits = bits_fit bits (bits_all bits e) }

pow_64 : (n : ℕ) → n ≤ 64 → 2 ^ n ≤ 2 ^ 64
pow_64 n h = pow_le n 64 h

pub bits_within : (bits : List ℕ) → are_bits bits ≡ true → length bits ≤ 64 → number_within (numeral_value 2 bits) ≡ Some (numeral_value 2 bits)
bits_within bits e h =
    let fit = bits_fit bits (bits_all bits e) in
    let low = pow_64 (length bits) h in
    cond-true (ltb (numeral_value 2 bits) (2 ^ 64)) (Some (numeral_value 2 bits)) None (lt-ltb (numeral_value 2 bits) (2 ^ 64) (omega (arith, fit, low)))
