-- What is written is read back, and what is read has the form of a literal.
use Rattle.std.proofs.Common.{◌≡◌, ◌∙◌, inl, inr, refl, sym, ap, ℕ, zero, suc, ◌+◌, ◌*◌, ◌/◌, ◌%◌, ◌^◌, ◌<◌, ◌≤◌, ◌==◌, ◌⊎◌, arith, cond, ltb, true, false, not, ◌&&◌, ◌||◌, List, [], ◌∷◌, ◌++◌, length, take, drop, map, fold, position, Some, None, Ok, Err, Option, IfOk, leb, get_or}
use Rattle.std.proofs.lemmas.Bool.{cond_both, cond-true, cond-false, leb-true, lt-ltb, le-ltb, le-leb, cases_lt, cases_Bool, eqb-true, ltb-true, agree_below_at, and_from, or_left, and_parts}
use Rattle.std.proofs.lemmas.{Bool.Decides.nat_tests, Int.Digits.number_digits_of, Int.Digits.all_below_base_digits_of, Int.Digits.length-digits_of_step}
use Rattle.std.proofs.lemmas.List.{take_at, drop_at, length-append, length-map, length_push, append_assoc, Sums.split_at_first, Sums.passes_at_first}
use Rattle.std.proofs.{lemmas.Nat.mod-pow-add, Math.Nat.mod-eq_of_lt, Math.Nat.pow-suc, Math.Nat.add-mul, Math.Nat.mul_assoc, Math.Nat.mul_comm}
use Rattle.std.specs.{Char.digit_value, Char.digit_char, Char.is_digit, Int.Digits.digits_of, Int.Digits.number_from_digits_after, Int.Digits.AllBelowBase}
use Rattle.std.specs.List.{list_all, position_or_len}
use Rattle.kp_bits.specs.Literals.{is_quote, is_underscore, is_number, is_numeral, numeral_next, numeral_value, number_within, number_of, base_of, literal_within, literal_in_base, literal_of_parts, literal_at, literal_of, fit_of, IsLiteral}
use Rattle.kp_bits.specs.{Word.Word, Word.word, Word.IsWord, Spelling.decimal_digits, Spelling.hex_digits, Spelling.quarters, Spelling.spelling}
use Rattle.kp_bits.specs.declared.literal.Literal.{Literal}
use Rattle.kp_bits.specs.declared.literal.LiteralFault.TheVariants.{BadDigit, TooBig, BadWidth}
use Rattle.kp_bits.proofs.{Powers.pow_le, Spellings.sixteen}

-- the character of a digit has its value, and is no `_`
value_of_char : (d : ℕ) → d < 36 → digit_value (digit_char d) ≡ d
value_of_char d h = eqb-true (digit_value (digit_char d)) d (agree_below_at (λ k. digit_value (digit_char k) == k) (λ _. true) 36 d refl h)

char_no_underscore : (d : ℕ) → d < 36 → is_underscore (digit_char d) ≡ false
char_no_underscore d h = agree_below_at (λ k. is_underscore (digit_char k)) (λ _. false) 36 d refl h

digit_char_is_digit : (base d : ℕ) → d < base → base ≤ 36 → is_digit (digit_char d) base ≡ true
digit_char_is_digit base d h k = let e = value_of_char d (omega arith) in lt-ltb (digit_value (digit_char d)) base (omega arith)

next_at_char : (base n d : ℕ) → d < 36 → numeral_next base n (digit_char d) ≡ n * base + d
next_at_char base n d h = cond-false (is_underscore (digit_char d)) n (n * base + digit_value (digit_char d)) (char_no_underscore d h) ∙ ap (λ x. n * base + x) (value_of_char d h)

-- digits of a base, written and read
read_digits : (base n : ℕ) (ds : List ℕ) → base ≤ 36 → AllBelowBase base ds → fold (numeral_next base) n (map digit_char ds) ≡ number_from_digits_after base n ds
read_digits base n [] h k = refl
read_digits base n (d ∷ ds) h k = ap (λ x. fold (numeral_next base) x (map digit_char ds)) (next_at_char base n d (let l = k.0 in omega arith)) ∙ read_digits base (n * base + d) ds h k.1

all_digits : (base : ℕ) (ds : List ℕ) → base ≤ 36 → AllBelowBase base ds → list_all (λ c. is_digit c base) (map digit_char ds) ≡ true
all_digits base [] h k = refl
all_digits base (d ∷ ds) h k = and_from (is_digit (digit_char d) base) (list_all (λ c. is_digit c base) (map digit_char ds)) (digit_char_is_digit base d k.0 h) (all_digits base ds h k.1)

pub decimal_value : (n : ℕ) → numeral_value 10 (decimal_digits n) ≡ n
decimal_value n = read_digits 10 0 (digits_of 10 n) (omega arith) (all_below_base_digits_of 10 n (omega arith)) ∙ number_digits_of 10 n (omega arith)

pub decimal_number : (n : ℕ) → 1 ≤ n → is_number (decimal_digits n) ≡ true
decimal_number n h =
    let l = length-digits_of_step 10 n (omega arith) h in
    let m = length-map (digits_of 10 n) digit_char in
    and_from (ltb 0 (length (decimal_digits n))) (list_all (λ c. is_digit c 10) (decimal_digits n)) (lt-ltb 0 (length (decimal_digits n)) (omega arith)) (all_digits 10 (digits_of 10 n) (omega arith) (all_below_base_digits_of 10 n (omega arith)))

pub decimal_read : (n : ℕ) → 1 ≤ n → n < 2 ^ 64 → number_of (decimal_digits n) ≡ Some n
decimal_read n h k = cond-true (is_number (decimal_digits n)) (number_within (numeral_value 10 (decimal_digits n))) None (decimal_number n h) ∙ ap number_within (decimal_value n) ∙ cond-true (ltb n (2 ^ 64)) (Some n) None (lt-ltb n (2 ^ 64) k)

-- a digit and those below it
hex_mod : (count v : ℕ) → v % 16 ^ suc count ≡ (v / 16 ^ count % 16) * 16 ^ count + v % 16 ^ count
hex_mod count v = let e : 4 + 4 * count ≡ 4 * suc count = omega arith in rw (e, sixteen (suc count), sixteen count) at (mod-pow-add v 4 (4 * count))

-- n hexadecimal digits
hex_value_after : (count n v : ℕ) → fold (numeral_next 16) n (hex_digits count v) ≡ n * 16 ^ count + v % 16 ^ count
hex_value_after zero n v = omega arith
hex_value_after (suc count) n v =
    let d = v / 16 ^ count % 16 in
    let p = pow-suc 16 count in
    let m = hex_mod count v in
    let x : (n * 16 + d) * 16 ^ count ≡ n * 16 ^ suc count + d * 16 ^ count = add-mul (n * 16) d (16 ^ count) ∙ ap (λ y. y + d * 16 ^ count) (mul_assoc n 16 (16 ^ count) ∙ ap (λ y. n * y) (mul_comm 16 (16 ^ count) ∙ sym p)) in
    ap (λ y. fold (numeral_next 16) y (hex_digits count v)) (next_at_char 16 n d (omega arith)) ∙ hex_value_after count (n * 16 + d) v ∙ omega arith

hex_all_digits : (count v : ℕ) → list_all (λ c. is_digit c 16 || is_underscore c) (hex_digits count v) ≡ true
hex_all_digits zero v = refl
hex_all_digits (suc count) v =
    let c = digit_char (v / 16 ^ count % 16) in
    and_from (is_digit c 16 || is_underscore c) (list_all (λ c. is_digit c 16 || is_underscore c) (hex_digits count v)) (or_left (is_digit c 16) (is_underscore c) (digit_char_is_digit 16 (v / 16 ^ count % 16) (omega arith) (omega arith))) (hex_all_digits count v)

hex_numeral : (count v : ℕ) → 1 ≤ count → is_numeral 16 (hex_digits count v) ≡ true
hex_numeral zero v h = absurd (omega arith)
hex_numeral (suc count) v h = and_from (is_digit (digit_char (v / 16 ^ count % 16)) 16) (list_all (λ c. is_digit c 16 || is_underscore c) (hex_digits count v)) (digit_char_is_digit 16 (v / 16 ^ count % 16) (omega arith) (omega arith)) (hex_all_digits count v)

hex_value : (a : Word) → IsWord a → numeral_value 16 (hex_digits (quarters a.width) a.value) ≡ a.value
hex_value a h =
    let q = (a.width + 3) / 4 in
    let p = pow_le a.width (4 * q) (omega arith) in
    let f = h.fits in
    let l : a.value < 16 ^ q = rw (← sixteen q) (omega arith) in
    hex_value_after q 0 a.value ∙ ap (λ x. 0 * 16 ^ q + x) (mod-eq_of_lt l) ∙ omega arith

-- the first `'` follows the number
no_quote : (c : ℕ) → is_digit c 10 ≡ true → is_quote c ≡ false
no_quote c h = grind (arith, nat_tests)

quote_after : (ds rest : List ℕ) → list_all (λ c. is_digit c 10) ds ≡ true → position_or_len is_quote (ds ++ 39 ∷ rest) ≡ length ds
quote_after [] rest h = refl
quote_after (d ∷ ds) rest h =
    let p = and_parts (is_digit d 10) (list_all (λ c. is_digit c 10) ds) h in
    cond-true (not (is_quote d)) (1 + position_or_len is_quote (ds ++ 39 ∷ rest)) 0 (ap not (no_quote d p.0)) ∙ ap (λ x. 1 + x) (quote_after ds rest p.1) ∙ omega arith

quote_at : (ds rest : List ℕ) → is_number ds ≡ true → position is_quote (ds ++ 39 ∷ rest) ≡ Some (length ds)
quote_at ds rest h =
    let p = and_parts (ltb 0 (length ds)) (list_all (λ c. is_digit c 10) ds) h in
    let q = quote_after ds rest p.1 in
    let l = length-append ds (39 ∷ rest) in
    let k : ltb (position_or_len is_quote (ds ++ 39 ∷ rest)) (length (ds ++ 39 ∷ rest)) ≡ true = lt-ltb _ _ (omega arith) in
    cond-true (ltb (position_or_len is_quote (ds ++ 39 ∷ rest)) (length (ds ++ 39 ∷ rest))) (Some (position_or_len is_quote (ds ++ 39 ∷ rest))) None k ∙ ap (λ x. Some x) q

-- a run of the form is read by its parts
pub literal_of_form : (width : List ℕ) (letter base : ℕ) (digits : List ℕ) → is_number width ≡ true → base_of letter ≡ Some base → is_numeral base digits ≡ true → literal_of (width ++ 39 ∷ letter ∷ digits) ≡ literal_within (numeral_value 10 width) (numeral_value base digits)
literal_of_form width letter base digits w b d =
    let run = width ++ 39 ∷ letter ∷ digits in
    let t = take_at width (39 ∷ letter ∷ digits) (length width) refl in
    let r : drop (length width + 1) run ≡ letter ∷ digits = ap (drop (length width + 1)) (sym (append_assoc width (39 ∷ []) (letter ∷ digits))) ∙ drop_at (width ++ 39 ∷ []) (letter ∷ digits) (length width + 1) (length_push width 39) in
    ap (λ o. literal_at o run) (quote_at width (letter ∷ digits) w)
    ∙ ap (λ x. literal_of_parts x (drop (length width + 1) run)) t
    ∙ ap (literal_of_parts width) r
    ∙ ap (λ o. literal_in_base o width digits) b
    ∙ cond-true (is_number width && is_numeral base digits) (literal_within (numeral_value 10 width) (numeral_value base digits)) (Err BadDigit) (and_from (is_number width) (is_numeral base digits) w d)

pub spelling_read : (a : Word) → IsWord a → literal_of (spelling a) ≡ Ok (record { width = a.width; value = a.value })
spelling_read a h =
    let p = h.positive in
    let m = h.at_most in
    let f = h.fits in
    let q = pow_le a.width 64 m in
    let digits = hex_digits (quarters a.width) a.value in
    literal_of_form (decimal_digits a.width) 104 16 digits (decimal_number a.width p) refl (hex_numeral (quarters a.width) a.value (omega arith))
    ∙ ap (λ x. literal_within x (numeral_value 16 digits)) (decimal_value a.width)
    ∙ ap (λ x. literal_within a.width x) (hex_value a h)
    ∙ cond-true (ltb a.width (2 ^ 64) && ltb a.value (2 ^ 64)) (Ok (record { width = a.width; value = a.value })) (Err TooBig) (and_from (ltb a.width (2 ^ 64)) (ltb a.value (2 ^ 64)) (lt-ltb a.width (2 ^ 64) (omega arith)) (lt-ltb a.value (2 ^ 64) (omega arith)))

pub fit_of_word : (a : Word) → IsWord a → fit_of (record { width = a.width; value = a.value }) ≡ Ok a
fit_of_word a h =
    cond-true (leb 1 a.width && leb a.width 64) (cond (ltb a.value (2 ^ a.width)) (Ok (word a.width a.value)) (Err TooBig)) (Err BadWidth) (and_from (leb 1 a.width) (leb a.width 64) (le-leb 1 a.width h.positive) (le-leb a.width 64 h.at_most))
    ∙ cond-true (ltb a.value (2 ^ a.width)) (Ok (word a.width a.value)) (Err TooBig) (lt-ltb a.value (2 ^ a.width) h.fits)

pub fit_gives_word : (a : Literal) → IfOk (fit_of a) IsWord
fit_gives_word a = cond_both (leb 1 a.width && leb a.width 64) (cond (ltb a.value (2 ^ a.width)) (Ok (word a.width a.value)) (Err TooBig)) (Err BadWidth) (λ r. IfOk r IsWord)
    (λ w. let p = and_parts (leb 1 a.width) (leb a.width 64) w in
    cond_both (ltb a.value (2 ^ a.width)) (Ok (word a.width a.value)) (Err TooBig) (λ r. IfOk r IsWord)
    (λ f. record { positive = leb-true 1 a.width p.0; at_most = leb-true a.width 64 p.1; fits = ltb-true a.value (2 ^ a.width) f })
    (λ _. tt))
    (λ _. tt)

-- the text before the first `'` and after it has the form, or is rejected
form_in_base : (run width digits : List ℕ) (letter : ℕ) → run ≡ width ++ 39 ∷ letter ∷ digits → (o : Option ℕ) → base_of letter ≡ o → (literal_in_base o width digits ≡ Err BadDigit) ⊎ IsLiteral run
form_in_base run width digits letter e None b = inl refl
form_in_base run width digits letter e (Some base) b = elim (cases_Bool (is_number width && is_numeral base digits)) [
  | inl t ↦ let p = and_parts (is_number width) (is_numeral base digits) t in inr (record { width = width; letter = letter; base = base; digits = digits; joined = e; width_ok = p.0; base_ok = b; digits_ok = p.1 })
  | inr n ↦ inl (cond-false (is_number width && is_numeral base digits) (literal_within (numeral_value 10 width) (numeral_value base digits)) (Err BadDigit) n)
]

form_of_parts : (run width rest : List ℕ) → run ≡ width ++ 39 ∷ rest → (literal_of_parts width rest ≡ Err BadDigit) ⊎ IsLiteral run
form_of_parts run width [] e = inl refl
form_of_parts run width (letter ∷ digits) e = form_in_base run width digits letter e (base_of letter) refl

pub literal_form : (run : List ℕ) → (literal_of run ≡ Err BadDigit) ⊎ IsLiteral run
literal_form run =
    let i = position_or_len is_quote run in
    elim (cases_lt i (length run)) [
      | inl l ↦
          let found : position is_quote run ≡ Some i = cond-true (ltb i (length run)) (Some i) None (lt-ltb i (length run) l) in
          let quote : get_or run i 0 ≡ 39 = eqb-true (get_or run i 0) 39 (passes_at_first is_quote run 0 l) in
          let e : run ≡ take i run ++ 39 ∷ drop (i + 1) run = split_at_first is_quote run 0 l ∙ ap (λ x. take i run ++ x ∷ drop (i + 1) run) quote in
          elim (form_of_parts run (take i run) (drop (i + 1) run) e) [
            | inl bad ↦ inl (ap (λ o. literal_at o run) found ∙ bad)
            | inr form ↦ inr form
          ]
      | inr g ↦ inl (ap (λ o. literal_at o run) (cond-false (ltb i (length run)) (Some i) None (le-ltb i (length run) g)))
    ]

pub literal_value : (run : List ℕ) (form : IsLiteral run) → literal_of run ≡ literal_within (numeral_value 10 form.width) (numeral_value form.base form.digits)
literal_value run form = ap literal_of form.joined ∙ literal_of_form form.width form.letter form.base form.digits form.width_ok form.base_ok form.digits_ok
