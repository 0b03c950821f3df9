-- How the numbers and the bits of a dump's text are read.
use Rattle.std.proofs.Common.{◌≡◌, ◌∙◌, refl, sym, ap, ap₂, subst, arith, ℕ, zero, suc, ◌+◌, ◌*◌, ◌/◌, ◌%◌, ◌^◌, ◌<◌, ◌≤◌, Bool, true, false, not, ltb, List, [], ◌∷◌, length, map, fold, get_or, Option, None, Some, Ok, Err}
use Rattle.std.proofs.lemmas.{Bool.cond-true, Bool.and_from, Bool.agree_below_at, Bool.lt-ltb, Bool.le-leb}
use Rattle.std.proofs.lemmas.{Int.Digits.all_below_base_digits_of, Int.Digits.first_digits_of, Int.Digits.length-digits_of_step, List.length-map}
use Rattle.std.proofs.{lemmas.Nat.mod-pow-add, Math.Nat.mod-eq_of_lt, Math.Nat.pow-suc, Math.Nat.add-mul, Math.Nat.mul_assoc, Math.Nat.mul_comm}
use Rattle.std.specs.Prelude.{codes, decimal, nat_le, nat_lt, ◌==◌, ◌&&◌, ◌-◌, unwrap_or, if◌then◌else◌}
use Rattle.std.specs.{Fmt.digits, Char.digit_char, Int.Digits.digits_of, Int.Digits.AllBelowBase, List.list_all}
use Rattle.kp_bits.specs.Literals.{is_number, numeral_next, numeral_value, number_within, number_of}
use Rattle.kp_bits.{specs.Spelling.decimal_digits, specs.Word.word, proofs.RoundTrips.decimal_value, proofs.RoundTrips.decimal_number, proofs.Spellings.decimal_spelled}
use Rattle.kp_vcd.specs.{Text.bit_digits, Forms.capped, Forms.is_padded, Forms.index_in, Forms.width_of, Forms.is_bit, Forms.are_bits, Forms.value_of}
use Rattle.kp_vcd.proofs.Spots.{is_part}

-- bytes of a token
pub record IsPlain (w : List ℕ) : Type 0 where
  pub some : 1 ≤ length w
  pub parts : list_all is_part w ≡ true

-- ---- numbers

digits_plain : (ds : List ℕ) → AllBelowBase 10 ds → list_all is_part (map digit_char ds) ≡ true
digits_plain [] h = refl
digits_plain (d ∷ ds) h =
    and_from (is_part (digit_char d)) (list_all is_part (map digit_char ds)) (agree_below_at (λ k. is_part (digit_char k)) (λ _. true) 10 d refl h.0) (digits_plain ds h.1)

unpadded : (ds : List ℕ) → AllBelowBase 10 ds → 0 < get_or ds 0 0 → is_padded (map digit_char ds) ≡ false
unpadded [] h low = refl
unpadded (d ∷ []) h low = refl
unpadded (zero ∷ e ∷ ds) h low = absurd (omega (arith, low))
unpadded (suc k ∷ e ∷ ds) h low = agree_below_at (λ j. digit_char (suc j) == 48) (λ _. false) 9 k refl (let b = h.0 in omega (arith, b))

pub record IsNumeral (n : ℕ) (w : List ℕ) : Type 0 where
  pub plain : IsPlain w
  pub number : is_number w ≡ true
  pub value : numeral_value 10 w ≡ n
  pub padded : is_padded w ≡ false

zero_spelled : decimal 0 ≡ codes "0"
unfolding digits
zero_spelled = refl

pub is_numeral : (n : ℕ) → n < 2 ^ 64 → IsNumeral n (decimal n)
is_numeral zero h = subst (IsNumeral zero) (sym zero_spelled) (record { plain = record { some = omega arith; parts = refl }; number = refl; value = refl; padded = refl })
is_numeral (suc k) h =
    subst (IsNumeral (suc k)) (sym (decimal_spelled (suc k) (omega arith) h))
    (record {
      plain = record {
        some = let l = length-digits_of_step 10 (suc k) (omega arith) (omega arith) in let m = length-map (digits_of 10 (suc k)) digit_char in omega (arith, l, m);
        parts = digits_plain (digits_of 10 (suc k)) (all_below_base_digits_of 10 (suc k) (omega arith));
      };
      number = decimal_number (suc k) (omega arith);
      value = decimal_value (suc k);
      padded = unpadded (digits_of 10 (suc k)) (all_below_base_digits_of 10 (suc k) (omega arith)) (first_digits_of 10 (suc k) (omega arith) (omega arith));
    })

within_is : (n : ℕ) (w : List ℕ) → n < 2 ^ 64 → numeral_value 10 w ≡ n → number_within (numeral_value 10 w) ≡ Some n
within_is n w h e = ap number_within e ∙ cond-true (ltb n (2 ^ 64)) (Some n) None (lt-ltb n (2 ^ 64) h)

capped_is : (n : ℕ) (w : List ℕ) → n < 2 ^ 64 → numeral_value 10 w ≡ n → capped w ≡ n
capped_is n w h e = ap (λ (o : Option ℕ). unwrap_or o (2 ^ 64 - 1)) (within_is n w h e)

pub number_read : (n : ℕ) → n < 2 ^ 64 → number_of (decimal n) ≡ Some n
number_read n h =
    let i = is_numeral n h in
    cond-true (is_number (decimal n)) (number_within (numeral_value 10 (decimal n))) None i.number ∙ within_is n (decimal n) h i.value

pub index_read : (n : ℕ) → n < 2 ^ 64 → index_in (decimal n) ≡ Some n
index_read n h =
    let i = is_numeral n h in
    cond-true (is_number (decimal n) && not (is_padded (decimal n))) (Some (capped (decimal n))) None
    (and_from (is_number (decimal n)) (not (is_padded (decimal n))) i.number (ap not i.padded))
    ∙ ap (λ (m : ℕ). Some m) (capped_is n (decimal n) h i.value)

pub width_read : (n : ℕ) → 1 ≤ n → n ≤ 64 → width_of (decimal n) ≡ Ok n
width_read n low high =
    let i = is_numeral n (omega arith) in
    let e = capped_is n (decimal n) (omega arith) i.value in
    cond-true (is_number (decimal n)) (if nat_le 1 (capped (decimal n)) && nat_le (capped (decimal n)) 64 then Ok (capped (decimal n)) else Err 2) (Err 1) i.number
    ∙ cond-true (nat_le 1 (capped (decimal n)) && nat_le (capped (decimal n)) 64) (Ok (capped (decimal n))) (Err 2)
    (and_from (nat_le 1 (capped (decimal n))) (nat_le (capped (decimal n)) 64) (le-leb 1 (capped (decimal n)) (omega (arith, e, low))) (le-leb (capped (decimal n)) 64 (omega (arith, e, high))))
    ∙ ap (λ (m : ℕ). Ok m) e

-- ---- bits

next_at_bit : (n d : ℕ) → d < 2 → numeral_next 2 n (48 + d) ≡ n * 2 + d
next_at_bit n zero h = refl
next_at_bit n (suc zero) h = refl
next_at_bit n (suc (suc d)) h = absurd (omega (arith, h))

bit_mod : (count v : ℕ) → v % 2 ^ suc count ≡ (v / 2 ^ count % 2) * 2 ^ count + v % 2 ^ count
bit_mod count v = let e : 1 + count ≡ suc count = omega arith in rw e at (mod-pow-add v 1 count)

bits_value_after : (count n v : ℕ) → fold (numeral_next 2) n (bit_digits count v) ≡ n * 2 ^ count + v % 2 ^ count
bits_value_after zero n v = omega arith
bits_value_after (suc count) n v =
    let d = v / 2 ^ count % 2 in
    let p = pow-suc 2 count in
    let m = bit_mod count v in
    let x : (n * 2 + d) * 2 ^ count ≡ n * 2 ^ suc count + d * 2 ^ count = add-mul (n * 2) d (2 ^ count) ∙ ap (λ y. y + d * 2 ^ count) (mul_assoc n 2 (2 ^ count) ∙ ap (λ y. n * y) (mul_comm 2 (2 ^ count) ∙ sym p)) in
    ap (λ y. fold (numeral_next 2) y (bit_digits count v)) (next_at_bit n d (omega arith)) ∙ bits_value_after count (n * 2 + d) v ∙ omega arith

pub bits_length : (count v : ℕ) → length (bit_digits count v) ≡ count
bits_length zero v = refl
bits_length (suc count) v = ap suc (bits_length count v)

bits_all : (test : ℕ → Bool) → test 48 ≡ true → test 49 ≡ true → (count v : ℕ) → list_all test (bit_digits count v) ≡ true
bits_all test zero_passes one_passes zero v = refl
bits_all test zero_passes one_passes (suc count) v =
    and_from (test (48 + v / 2 ^ count % 2)) (list_all test (bit_digits count v)) (bit (v / 2 ^ count % 2) (omega arith)) (bits_all test zero_passes one_passes count v)
  where
    bit : (d : ℕ) → d < 2 → test (48 + d) ≡ true
    bit zero h = zero_passes
    bit (suc zero) h = one_passes
    bit (suc (suc d)) h = absurd (omega (arith, h))

pub bits_plain : (count v : ℕ) → list_all is_part (bit_digits count v) ≡ true
bits_plain = bits_all is_part refl refl

pub bits_read : (count v : ℕ) → 1 ≤ count → are_bits (bit_digits count v) ≡ true
bits_read count v low =
    and_from (ltb 0 (length (bit_digits count v))) (list_all is_bit (bit_digits count v))
    (lt-ltb 0 (length (bit_digits count v)) (let l = bits_length count v in omega (arith, l, low))) (bits_all is_bit refl refl count v)

pub value_read : (count v : ℕ) → count ≤ 64 → v < 2 ^ count → value_of (bit_digits count v) ≡ Some (word count v)
value_read count v high fits =
    let l = bits_length count v in
    let m = mod-eq_of_lt fits in
    let n : numeral_value 2 (bit_digits count v) ≡ v = bits_value_after count 0 v ∙ omega (arith, m) in
    cond-true (nat_le (length (bit_digits count v)) 64) (Some (word (length (bit_digits count v)) (numeral_value 2 (bit_digits count v)))) None
    (le-leb (length (bit_digits count v)) 64 (omega (arith, l, high)))
    ∙ ap₂ (λ (a b : ℕ). Some (word a b)) l n
