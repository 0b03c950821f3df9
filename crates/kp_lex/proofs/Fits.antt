-- A token or gap at the front is at least one byte long, and no longer than the text.
use Rattle.std.proofs.Common.{ℕ, suc, ◌+◌, ◌≤◌, ◌<◌, ◌≡◌, List, [], ◌∷◌, length, length-take-le, ◌==◌, nat_lt, Bool, true, false, not, cond, Option, Some, None, Result, Ok, Err, refl, subst, arith}
use Rattle.std.proofs.lemmas.Bool.{ltb-true, or_left, or_right}
use Rattle.kp_base.specs.Characters.{is_digit, is_letter, is_word, run_length}
use Rattle.kp_bits.specs.{Literals.number_of, Literals.literal_of, declared.literal.Literal.Literal, declared.literal.LiteralFault.LiteralFault}
use Rattle.kp_lex.specs.Text.{is_layout, begins_comment, gap_length, is_in_run, run_of, keyword_or_name, identifier, literal_or_broken, number_or_literal, number_run, mark_or_broken, mark_or_shorter, mark, token_of, front_of}
use Rattle.kp_lex.specs.declared.{front.Front.Front, token.Mark.Mark, token.TokenKind.TokenKind}
use Rattle.kp_lex.specs.Words.{keyword_of, single_mark, double_mark}
use Rattle.kp_lex.specs.declared.front.Front.TheVariants as fronts
use Rattle.kp_lex.specs.declared.front.TokenFault.TheVariants as faults

-- the length of a token or gap at the front of a text of this length
abbrev pub Fits : ℕ → Front → Type 0
Fits len fronts.End = len ≡ 0
Fits len (fronts.Gap n) = (0 < n) × (n ≤ len)
Fits len (fronts.Token kind n) = (0 < n) × (n ≤ len)
Fits len (fronts.Broken fault) = Unit {0}

one_more : (test : Bool) (n m : ℕ) → n ≤ m → cond test (n + 1) 0 ≤ suc m
one_more true n m h = omega arith
one_more false n m h = omega arith

pub run_within : (test : ℕ → Bool) (text : List ℕ) → run_length test text ≤ length text
run_within test [] = omega arith
run_within test (byte ∷ rest) = one_more (test byte) (run_length test rest) (length rest) (run_within test rest)

gap_step : (a b : Bool) (n m k : ℕ) → n ≤ k → m ≤ k → cond a (n + 1) (cond b (m + 1) 0) ≤ suc k
gap_step true b n m k h i = omega arith
gap_step false true n m k h i = omega arith
gap_step false false n m k h i = omega arith

pub gap_within : (inside : Bool) (text : List ℕ) → gap_length inside text ≤ length text
gap_within true [] = omega arith
gap_within false [] = omega arith
gap_within true (byte ∷ rest) = let h = gap_within (not (byte == 10)) rest in omega arith
gap_within false (byte ∷ rest) =
    gap_step (begins_comment (byte ∷ rest)) (is_layout byte) (gap_length true rest) (gap_length false rest) (length rest) (gap_within true rest) (gap_within false rest)

fits_identifier : (run : List ℕ) (n : ℕ) → 0 < length run → length run ≤ n → Fits n (identifier run)
fits_identifier run n low high = go (nat_lt 64 (length run))
  where
    go : (a : Bool) → Fits n (cond a (fronts.Broken (faults.LongName (length run))) (fronts.Token (keyword_or_name (keyword_of run)) (length run)))
    go true = tt
    go false = (low, high)

fits_number : (run : List ℕ) (n : ℕ) → 0 < length run → length run ≤ n → Fits n (number_run run)
fits_number run n low high = go (number_of run) (literal_of run)
  where
    literal : (r : Result Literal LiteralFault) → Fits n (literal_or_broken (length run) r)
    literal (Ok l) = (low, high)
    literal (Err e) = tt

    go : (o : Option ℕ) (r : Result Literal LiteralFault) → Fits n (number_or_literal run o)
    go (Some k) r = (low, high)
    go None r = literal (literal_of run)

fits_single : (n first : ℕ) (o : Option Mark) → Fits (suc n) (mark_or_broken first o)
fits_single n first (Some m) = (omega arith, omega arith)
fits_single n first None = tt

fits_double : (n first : ℕ) (o : Option Mark) → Fits (suc (suc n)) (mark_or_shorter first o)
fits_double n first (Some m) = (omega arith, omega arith)
fits_double n first None = fits_single (suc n) first (single_mark first)

fits_mark : (first : ℕ) (rest : List ℕ) → Fits (suc (length rest)) (mark first rest)
fits_mark first [] = fits_single 0 first (single_mark first)
fits_mark first (second ∷ rest) = fits_double (length rest) first (double_mark first second)

fits_one : (a d : Bool) (n : ℕ) (x y z : Front) → (a ≡ true → Fits n x) → (d ≡ true → Fits n y) → Fits n z → Fits n (cond a x (cond d y z))
fits_one true d n x y z f g h = f refl
fits_one false true n x y z f g h = g refl
fits_one false false n x y z f g h = h

run_positive : (test : ℕ → Bool) (byte : ℕ) (rest : List ℕ) → test byte ≡ true → 0 < run_length test (byte ∷ rest)
run_positive test byte rest h = rw h (omega arith)

pub run_fits : (test : ℕ → Bool) (byte : ℕ) (rest : List ℕ) → test byte ≡ true
    → (0 < length (run_of test (byte ∷ rest))) × (length (run_of test (byte ∷ rest)) ≤ suc (length rest))
run_fits test byte rest h =
    let within : run_length test (byte ∷ rest) ≤ suc (length rest) = run_within test (byte ∷ rest) in
    let same : length (run_of test (byte ∷ rest)) ≡ run_length test (byte ∷ rest) = length-take-le (run_length test (byte ∷ rest)) (byte ∷ rest) within in
    let low : 0 < run_length test (byte ∷ rest) = run_positive test byte rest h in
    (omega arith, omega arith)

fits_token : (text : List ℕ) → Fits (length text) (token_of text)
fits_token [] = refl
fits_token (first ∷ rest) =
    fits_one (is_letter first) (is_digit first) (suc (length rest)) (identifier (run_of is_word (first ∷ rest))) (number_run (run_of is_in_run (first ∷ rest))) (mark first rest)
    (λ h. let f = run_fits is_word first rest (or_left (is_letter first) (is_digit first) h) in fits_identifier (run_of is_word (first ∷ rest)) (suc (length rest)) f.0 f.1)
    (λ h. let f = run_fits is_in_run first rest (or_left (is_word first) (first == 39) (or_right (is_letter first) (is_digit first) h)) in fits_number (run_of is_in_run (first ∷ rest)) (suc (length rest)) f.0 f.1)
    (fits_mark first rest)

fits_gap : (a : Bool) (n len : ℕ) (next : Front) → nat_lt 0 n ≡ a → n ≤ len → Fits len next → Fits len (cond a (fronts.Gap n) next)
fits_gap true n len next e h f = (ltb-true 0 n e, h)
fits_gap false n len next e h f = f

pub fits_front : (text : List ℕ) → Fits (length text) (front_of text)
fits_front text = fits_gap (nat_lt 0 (gap_length false text)) (gap_length false text) (length text) (token_of text) refl (gap_within false text) (fits_token text)

pub gap_fits : (text : List ℕ) (len : ℕ) → front_of text ≡ fronts.Gap len → (0 < len) × (len ≤ length text)
gap_fits text len e = subst (Fits (length text)) e (fits_front text)

pub token_fits : (text : List ℕ) (kind : TokenKind) (len : ℕ) → front_of text ≡ fronts.Token kind len → (0 < len) × (len ≤ length text)
token_fits text kind len e = subst (Fits (length text)) e (fits_front text)
