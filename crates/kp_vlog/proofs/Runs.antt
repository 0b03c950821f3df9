-- Runs of bytes that are written: decimal numbers, literals, names.
use Rattle.std.proofs.Common.{◌≡◌, ◌∙◌, ℕ, zero, suc, ◌+◌, ◌*◌, ◌/◌, ◌%◌, ◌^◌, ◌≤◌, ◌<◌, List, [], ◌∷◌, ◌++◌, length, take, Bool, true, false, Some, None, refl, sym, ap, subst, arith, length-append, nat_lt, add-one}
use Rattle.std.proofs.lemmas.{Fmt.decimal_by_steps, Fmt.length-decimal-le}
use Rattle.std.proofs.lemmas.Bool.{agree_below_at, cond-true, cond-false, and_from, lt-ltb, le-ltb, and_right, agree_below, and_left, Decides.nat_tests}
use Rattle.std.proofs.Math.Seq.{take-append_seam, drop-append_seam}
use Rattle.std.specs.{Prelude.codes, Prelude.decimal, Prelude.fold, Prelude.◌==◌, Prelude.◌&&◌, List.list_all, Char.digit_char}
use Rattle.std.specs.Char as chars
use Rattle.kp_bits.specs.Word as bits
use Rattle.kp_bits.specs.Literals as read
use Rattle.kp_bits.specs.Literals.{number_of, numeral_next, numeral_value, number_within, is_number}
use Rattle.kp_bits.specs.{Spelling.decimal_digits, Spelling.hex_digits, Spelling.quarters, Spelling.spelling, declared.literal.Literal.Literal}
use Rattle.kp_bits.proofs.{RoundTrips.spelling_read, Spellings.decimal_spelled}
use Rattle.kp_net.specs.Names.{is_in_identifier}
use Rattle.kp_base.specs.Characters.{is_digit, run_length, is_letter}
use Rattle.kp_vlog.specs.Tokens.{Word, name, number, literal, takes, broken, front, is_in_run, identifier, keyword_or_name, number_run, number_or_literal, literal_or_broken, is_layout, begins_with, Front}
use Rattle.kp_vlog.{specs.Words.keyword_of, proofs.Lex.Spells, proofs.Lex.spells_takes}

-- a test is true of each byte
abbrev pub Each : (ℕ → Bool) → List ℕ → Type 0
Each p [] = Unit {0}
Each p (b ∷ bs) = (p b ≡ true) × Each p bs

pub each_append : (p : ℕ → Bool) (xs ys : List ℕ) → Each p xs → Each p ys → Each p (xs ++ ys)
each_append p [] ys h k = k
each_append p (x ∷ xs) ys h k = (h.0, each_append p xs ys h.1 k)

-- a run that is written ends where what follows does not continue it
pub run_written : (p : ℕ → Bool) (xs rest : List ℕ) → Each p xs → run_length p rest ≡ 0 → run_length p (xs ++ rest) ≡ length xs
run_written p [] rest h stop = stop
run_written p (x ∷ xs) rest h stop = cond-true (p x) (run_length p (xs ++ rest) + 1) 0 h.0 ∙ ap (λ n. n + 1) (run_written p xs rest h.1 stop) ∙ add-one (length xs)

-- a digit
abbrev pub IsDigit : ℕ → Type 0
IsDigit b = (n : ℕ) × (n < 10) × (b ≡ 48 + n)

-- a test that has one answer at all digits
pub digit_at : (p : ℕ → Bool) (a : Bool) → agree_below (λ k. p (48 + k)) (λ _. a) 10 ≡ true → (b : ℕ) → IsDigit b → p b ≡ a
digit_at p a e b d = ap p d.2 ∙ agree_below_at (λ k. p (48 + k)) (λ _. a) 10 d.0 e d.1

-- what is true of each digit is true of what `decimal` writes
each_decimal : (p : ℕ → Bool) → ((n : ℕ) → n < 10 → p (48 + n) ≡ true) → (n : ℕ) → n < 2 ^ 64 → Each p (decimal n)
each_decimal p h = decimal_by_steps (λ n ds. Each p ds) (λ n low. (h n low, tt)) (λ n ds high each. each_append p ds _ each (h (n % 10) (omega arith), tt))

pub decimal_runs : (n : ℕ) → n < 2 ^ 64 → Each is_in_run (decimal n)
decimal_runs = each_decimal is_in_run (λ n h. agree_below_at (λ k. is_in_run (48 + k)) (λ _. true) 10 n refl h)

pub decimal_words : (n : ℕ) → n < 2 ^ 64 → Each is_in_identifier (decimal n)
decimal_words = each_decimal is_in_identifier (λ n h. agree_below_at (λ k. is_in_identifier (48 + k)) (λ _. true) 10 n refl h)

pub decimal_names : (n : ℕ) → n < 2 ^ 64 → Each is_digit (decimal n)
decimal_names = each_decimal is_digit (λ n h. agree_below_at (λ k. is_digit (48 + k)) (λ _. true) 10 n refl h)

decimal_tens : (n : ℕ) → n < 2 ^ 64 → Each (λ c. chars.is_digit c 10) (decimal n)
decimal_tens = each_decimal (λ c. chars.is_digit c 10) (λ n h. agree_below_at (λ k. chars.is_digit (48 + k) 10) (λ _. true) 10 n refl h)

pub all_of : (p : ℕ → Bool) (xs : List ℕ) → Each p xs → list_all p xs ≡ true
all_of p [] h = refl
all_of p (x ∷ xs) h = and_from (p x) (list_all p xs) h.0 (all_of p xs h.1)

-- the value of what `decimal` writes
next_digit : (m d : ℕ) → d < 10 → numeral_next 10 m (48 + d) ≡ m * 10 + d
next_digit m d h =
    cond-false (read.is_underscore (48 + d)) m (m * 10 + chars.digit_value (48 + d)) (agree_below_at (λ k. read.is_underscore (48 + k)) (λ _. false) 10 d refl h)
    ∙ ap (λ v. m * 10 + v) (value d h)
  where
    value : (d : ℕ) → d < 10 → chars.digit_value (48 + d) ≡ d
    value d h = let t = agree_below_at (λ k. chars.digit_value (48 + k) == k) (λ _. true) 10 d refl h in grind (arith, nat_tests)

fold_more : (m : ℕ) (ds : List ℕ) (d : ℕ) → fold (numeral_next 10) m (ds ++ d ∷ []) ≡ numeral_next 10 (fold (numeral_next 10) m ds) d
fold_more m [] d = refl
fold_more m (x ∷ ds) d = fold_more (numeral_next 10 m x) ds d

decimal_counts : (n : ℕ) → n < 2 ^ 64 → numeral_value 10 (decimal n) ≡ n
decimal_counts = decimal_by_steps (λ n ds. numeral_value 10 ds ≡ n)
    (λ n low. next_digit 0 n low ∙ omega arith)
    (λ n ds high before. fold_more 0 ds (48 + n % 10) ∙ ap (λ m. numeral_next 10 m (48 + n % 10)) before ∙ next_digit (n / 10) (n % 10) (omega arith) ∙ omega arith)

decimal_some : (n : ℕ) → n < 2 ^ 64 → 0 < length (decimal n)
decimal_some = decimal_by_steps (λ n ds. 0 < length ds) (λ n low. omega arith) (λ n ds high before. simp length-append (omega arith))

pub decimal_is : (n : ℕ) → n < 2 ^ 64 → number_of (decimal n) ≡ Some n
decimal_is n h =
    cond-true (is_number (decimal n)) (number_within (numeral_value 10 (decimal n))) None (and_from _ _ (lt-ltb 0 (length (decimal n)) (decimal_some n h)) (all_of _ (decimal n) (decimal_tens n h)))
    ∙ ap number_within (decimal_counts n h)
    ∙ cond-true (nat_lt n (2 ^ 64)) (Some n) None (lt-ltb n (2 ^ 64) h)

-- the first byte of a decimal number
pub record Led (ds : List ℕ) : Type 0 where
  pub first : ℕ
  pub more : List ℕ
  pub same : ds ≡ first ∷ more
  pub is : IsDigit first

led_append : (xs ys : List ℕ) → Led xs → Led (xs ++ ys)
led_append xs ys l = record { first = l.first; more = l.more ++ ys; same = ap (λ zs. zs ++ ys) l.same; is = l.is }

pub decimal_led : (n : ℕ) → n < 2 ^ 64 → Led (decimal n)
decimal_led = decimal_by_steps (λ n ds. Led ds) (λ n low. record { first = 48 + n; more = []; same = refl; is = (n, low, refl) }) (λ n ds high l. led_append ds _ l)

digit_front : (b : ℕ) (t : List ℕ) → IsDigit b → front (b ∷ t) ≡ number_run (take (run_length is_in_run (b ∷ t)) (b ∷ t))
digit_front b t d =
    let slash = digit_at (λ c. c == 47) false refl b d in
    cond-false (is_layout b) _ _ (digit_at is_layout false refl b d)
    ∙ cond-false (b == 47 && begins_with 47 t) _ _ (and_left (b == 47) _ slash) ∙ cond-false (b == 47 && begins_with 42 t) _ _ (and_left (b == 47) _ slash)
    ∙ cond-false (is_letter b) _ _ (digit_at is_letter false refl b d) ∙ cond-true (is_digit b) _ _ (digit_at is_digit true refl b d)

-- A run that is written, and that nothing continues, is at the front.
spells_front : (p : ℕ → Bool) (f : List ℕ → Front) (b : ℕ) (t rest : List ℕ) (w : Word) (ws : List Word) → ((u : List ℕ) → front (b ∷ u) ≡ f (take (run_length p (b ∷ u)) (b ∷ u)))
    → Each p (b ∷ t) → f (b ∷ t) ≡ takes w (length (b ∷ t)) → run_length p rest ≡ 0 → Spells rest ws → Spells ((b ∷ t) ++ rest) (w ∷ ws)
spells_front p f b t rest w ws first each value stop s =
    let len = run_written p (b ∷ t) rest each stop in
    let run : take (run_length p ((b ∷ t) ++ rest)) ((b ∷ t) ++ rest) ≡ b ∷ t = ap (λ n. take n ((b ∷ t) ++ rest)) len ∙ take-append_seam (b ∷ t) rest in
    spells_takes w (length (b ∷ t)) (first (t ++ rest) ∙ ap f run ∙ value) (subst (λ (r : List ℕ). Spells r ws) (sym (drop-append_seam (b ∷ t) rest)) s)

spells_led : (ds rest : List ℕ) (w : Word) (ws : List Word) → Led ds → Each is_in_run ds → number_run ds ≡ takes w (length ds) → run_length is_in_run rest ≡ 0
    → Spells rest ws → Spells (ds ++ rest) (w ∷ ws)
spells_led ds rest w ws l each value stop s =
    subst (λ (xs : List ℕ). Spells (xs ++ rest) (w ∷ ws)) (sym l.same)
    (spells_front is_in_run number_run l.first l.more rest w ws (λ u. digit_front l.first u l.is) (subst (Each is_in_run) l.same each)
    (subst (λ (xs : List ℕ). number_run xs ≡ takes w (length xs)) l.same value) stop s)

pub spells_number : (n : ℕ) (rest : List ℕ) (ws : List Word) → n < 2 ^ 64 → run_length is_in_run rest ≡ 0 → Spells rest ws → Spells (decimal n ++ rest) (number n ∷ ws)
spells_number n rest ws h stop s =
    spells_led (decimal n) rest (number n) ws (decimal_led n h) (decimal_runs n h) (ap (number_or_literal (decimal n)) (decimal_is n h)) stop s

-- a literal
abbrev pub literal_for : bits.Word → Literal
literal_for a = record { width = a.width; value = a.value }

hex_runs : (k v : ℕ) → Each is_in_run (hex_digits k v)
hex_runs zero v = tt
hex_runs (suc k) v = (agree_below_at (λ d. is_in_run (digit_char d)) (λ _. true) 16 (v / 16 ^ k % 16) refl (omega arith), hex_runs k v)

not_all : (p : ℕ → Bool) (xs : List ℕ) (y : ℕ) (ys : List ℕ) → p y ≡ false → list_all p (xs ++ y ∷ ys) ≡ false
not_all p [] y ys e = ap (λ t. t && list_all p ys) e
not_all p (x ∷ xs) y ys e = ap (λ t. p x && t) (not_all p xs y ys e) ∙ and_right (p x) false refl

no_number : (ds rest : List ℕ) → number_of (ds ++ 39 ∷ rest) ≡ None
no_number ds rest =
    let run = ds ++ 39 ∷ rest in
    cond-false (is_number run) (number_within (numeral_value 10 run)) None
    (ap (λ t. nat_lt 0 (length run) && t) (not_all (λ c. chars.is_digit c 10) ds 39 rest refl) ∙ and_right (nat_lt 0 (length run)) false refl)

pub spells_literal : (a : bits.Word) (rest : List ℕ) (ws : List Word) → bits.IsWord a → run_length is_in_run rest ≡ 0 → Spells rest ws → Spells (spelling a ++ rest) (literal (literal_for a) ∷ ws)
spells_literal a rest ws h stop s =
    let low = h.positive in
    let high = h.at_most in
    let digits = hex_digits (quarters a.width) a.value in
    let same : decimal a.width ≡ decimal_digits a.width = decimal_spelled a.width low (omega arith) in
    let value : number_run (spelling a) ≡ takes (literal (literal_for a)) (length (spelling a)) =
    ap (number_or_literal (spelling a)) (no_number (decimal_digits a.width) (104 ∷ digits)) ∙ ap (literal_or_broken (length (spelling a))) (spelling_read a h) in
    spells_led (spelling a) rest (literal (literal_for a)) ws
    (led_append (decimal_digits a.width) _ (subst Led same (decimal_led a.width (omega arith))))
    (each_append is_in_run (decimal_digits a.width) _ (subst (Each is_in_run) same (decimal_runs a.width (omega arith))) (refl, (refl, hex_runs (quarters a.width) a.value)))
    value stop s

-- The first letters of names that are written.
pub data IsInitial : ℕ → Type 0 where
  at_m : IsInitial 109
  at_n : IsInitial 110
  at_r : IsInitial 114
  at_q : IsInitial 113
  at_f : IsInitial 102
  at_s : IsInitial 115

letter_front : (b : ℕ) (t : List ℕ) → IsInitial b → front (b ∷ t) ≡ identifier (take (run_length is_in_identifier (b ∷ t)) (b ∷ t))
letter_front _ t at_m = refl
letter_front _ t x = refl

-- a name that can be written
pub record IsWritten (n : List ℕ) : Type 0 where
  pub first : ℕ
  pub more : List ℕ
  pub same : n ≡ first ∷ more
  pub initial : IsInitial first
  pub bytes : Each is_in_identifier (first ∷ more)
  pub short : length (first ∷ more) ≤ 70
  pub plain : keyword_of (first ∷ more) ≡ None

name_here : (run : List ℕ) → length run ≤ 70 → keyword_of run ≡ None → identifier run ≡ takes (name run) (length run)
name_here run h e = cond-false (nat_lt 70 (length run)) broken _ (le-ltb 70 (length run) h) ∙ ap (λ k. takes (keyword_or_name run k) (length run)) e

pub spells_name : (n rest : List ℕ) (ws : List Word) → IsWritten n → run_length is_in_identifier rest ≡ 0 → Spells rest ws → Spells (n ++ rest) (name n ∷ ws)
spells_name n rest ws h stop s =
    subst (λ (xs : List ℕ). Spells (xs ++ rest) (name xs ∷ ws)) (sym h.same)
    (spells_front is_in_identifier identifier h.first h.more rest (name (h.first ∷ h.more)) ws (λ u. letter_front h.first u h.initial) h.bytes
    (name_here (h.first ∷ h.more) h.short h.plain) stop s)

pub wire_written : (j : ℕ) → j ≤ 16777216 → IsWritten (codes "n" ++ decimal j)
wire_written j h = record {
  first = 110;
  more = decimal j;
  same = refl;
  initial = at_n;
  bytes = (refl, decimal_words j (omega arith));
  short = omega (arith, length-decimal-le 8 j (omega arith) (omega arith) (omega arith));
  plain = refl;
}
