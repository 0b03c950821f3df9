-- Decimal and hexadecimal digits, and lists that are written from the front.
use Rattle.std.proofs.Common.{◌≡◌, ◌∙◌, refl, sym, ap, ℕ, zero, suc, ◌+◌, ◌-◌, ◌*◌, ◌/◌, ◌%◌, ◌^◌, ◌<◌, ◌≤◌, arith, List, [], ◌∷◌, ◌++◌, length, take, set, map, ltb}
use Rattle.std.proofs.{Math.Nat.pow-suc, lemmas.Nat.pow-add, lemmas.List.append_assoc, lemmas.List.take_more_set, lemmas.List.append-nil, lemmas.List.take_all}
use Rattle.std.proofs.lemmas.{Bool.cond-true, Bool.lt-ltb, Fmt.decimal-digits_of, Fmt.length-decimal-le, Int.Digits.all_below_base_digits_of}
use Rattle.std.specs.{Prelude.decimal, Char.digit_char, Int.Digits.digits_of, Int.Digits.AllBelowBase}
use Rattle.kp_bits.specs.Spelling.{decimal_digits, hex_digits}

-- a hexadecimal digit is four bits
pub sixteen : (k : ℕ) → 2 ^ (4 * k) ≡ 16 ^ k
sixteen zero = refl
sixteen (suc k) = let e : 4 * suc k ≡ 4 * k + 4 = omega arith in rw (e, pow-add 2 (4 * k) 4, sixteen k, pow-suc 16 k) refl

-- a digit, by a shift
pub digit_at : (n k : ℕ) → digit_char (n / 2 ^ (4 * k) % 16) ≡ digit_char (n / 16 ^ k % 16)
digit_at n k = ap (λ x. digit_char (n / x % 16)) (sixteen k)

-- one digit more is written
pub hex_more : (out : List ℕ) (i count n d : ℕ) → i < count → length out ≡ count → d ≡ digit_char (n / 16 ^ (count - 1 - i) % 16) → take i out ++ hex_digits (count - i) n ≡ hex_digits count n → take (i + 1) (set out i d) ++ hex_digits (count - (i + 1)) n ≡ hex_digits count n
hex_more out i count n d h l is inv =
    let e : count - i ≡ suc (count - (i + 1)) = omega arith in
    let f : count - 1 - i ≡ count - (i + 1) = omega arith in
    rw (take_more_set out i d (omega arith), append_assoc, is, f) (rw e at inv)

-- all digits are written
pub hex_all : (out : List ℕ) (i count n : ℕ) → count ≤ i → length out ≡ count → take i out ++ hex_digits (count - i) n ≡ hex_digits count n → out ≡ hex_digits count n
hex_all out i count n h l inv =
    let e : count - i ≡ 0 = omega arith in
    let t : take i out ≡ out = take_all i out (omega arith) in
    sym (append-nil out) ∙ (rw (e, t) at inv)

-- the digits that are printed
same_digits : (ds : List ℕ) → AllBelowBase 10 ds → map (λ d. 48 + d) ds ≡ map digit_char ds
same_digits [] h = refl
same_digits (d ∷ ds) h =
    ap (λ c. c ∷ map (λ d. 48 + d) ds) (sym (cond-true (ltb d 10) (48 + d) (87 + d) (lt-ltb d 10 h.0)))
    ∙ ap (λ (cs : List ℕ). digit_char d ∷ cs) (same_digits ds h.1)

pub decimal_spelled : (n : ℕ) → 1 ≤ n → n < 2 ^ 64 → decimal n ≡ decimal_digits n
decimal_spelled n low h = decimal-digits_of n low h ∙ same_digits (digits_of 10 n) (all_below_base_digits_of 10 n (omega arith))

pub width_short : (n : ℕ) → n ≤ 64 → length (decimal n) ≤ 2
width_short n h = length-decimal-le 2 n (omega arith) (omega arith) (omega arith)
