-- The names among the tokens of a text are identifiers, and there are no more tokens than bytes.
use Rattle.std.proofs.Common.{◌≡◌, ℕ, suc, ◌+◌, ◌≤◌, List, [], ◌∷◌, length, take, drop, Bool, true, false, Option, Some, None, Result, Ok, Err, refl, sym, subst, arith, All}
use Rattle.std.proofs.lemmas.{Bool.Decides.nat_tests, List.length-drop, List.Elements.All-nil, List.Elements.All-cons, Bool.or_left}
use Rattle.std.specs.Prelude.{◌==◌, ◌&&◌, ◌||◌, nat_lt, if◌then◌else◌}
use Rattle.kp_bits.specs.{Literals.number_of, Literals.literal_of, declared.literal.Literal.Literal, declared.literal.LiteralFault.LiteralFault}
use Rattle.kp_net.specs.Names.{is_in_identifier}
use Rattle.kp_base.specs.Characters.{is_digit, is_letter, run_length}
use Rattle.kp_vlog.specs.Tokens.{Word, Token, Front, finish, takes, broken, is_layout, is_in_run, begins_with, to_close, keyword_or_name, identifier, literal_or_broken, number_or_literal, comment_front, mark_or_broken, mark_or_shorter, mark_front, front, Lexes, at_end, past, token}
use Rattle.kp_vlog.specs.{declared.token.Keyword.Keyword, declared.token.Mark.Mark, Words.keyword_of, Words.single_mark, Words.double_mark, Language.name_in}
use Rattle.kp_vlog.proofs.Tests.{apart}

-- bytes of an identifier, at most 70
pub record IsIdentifier (n : List ℕ) : Type 0 where
  pub bytes : All (λ b. is_in_identifier b ≡ true) n
  pub short : length n ≤ 70

pub no_name : IsIdentifier []
no_name = record { bytes = All-nil (λ b. is_in_identifier b ≡ true); short = omega arith }

-- a token of such a name, of one byte or more
abbrev pub Fine : Front → Type 0
Fine (takes w n) = IsIdentifier (name_in w) × (1 ≤ n)
Fine _ = Unit {0}

chosen : (c : Bool) (x y : Front) → (c ≡ true → Fine x) → (c ≡ false → Fine y) → Fine (if c then x else y)
chosen true x y f g = f refl
chosen false x y f g = g refl

run_passes : (p : ℕ → Bool) (xs : List ℕ) → All (λ b. p b ≡ true) (take (run_length p xs) xs)
run_passes p [] = All-nil (λ b. p b ≡ true)
run_passes p (x ∷ xs) = by (p x) refl (run_passes p xs)
  where
    by : (b : Bool) → p x ≡ b → All (λ b. p b ≡ true) (take (run_length p xs) xs) → All (λ b. p b ≡ true) (take (if b then run_length p xs + 1 else 0) (x ∷ xs))
    by true e h =
        let z : run_length p xs + 1 ≡ suc (run_length p xs) = omega arith in
        subst (λ (k : ℕ). All (λ b. p b ≡ true) (take k (x ∷ xs))) (sym z) (All-cons (λ b. p b ≡ true) x (take (run_length p xs) xs) e h)
    by false e h = All-nil (λ b. p b ≡ true)

run_positive : (p : ℕ → Bool) (x : ℕ) (xs : List ℕ) → p x ≡ true → 1 ≤ length (take (run_length p (x ∷ xs)) (x ∷ xs))
run_positive p x xs h = by (p x) h
  where
    by : (b : Bool) → b ≡ true → 1 ≤ length (take (if b then run_length p xs + 1 else 0) (x ∷ xs))
    by true e =
        let z : run_length p xs + 1 ≡ suc (run_length p xs) = omega arith in
        subst (λ (k : ℕ). 1 ≤ length (take k (x ∷ xs))) (sym z) (omega arith)
    by false e = absurd (apart false e refl)

word_named : (run : List ℕ) (k : Option Keyword) → IsIdentifier run → IsIdentifier (name_in (keyword_or_name run k))
word_named run (Some k) h = no_name
word_named run None h = h

not_more : (n : ℕ) → nat_lt 70 n ≡ false → n ≤ 70
not_more n h = grind (arith, nat_tests)

identifier_fine : (run : List ℕ) → All (λ b. is_in_identifier b ≡ true) run → 1 ≤ length run → Fine (identifier run)
identifier_fine run h l =
    chosen (nat_lt 70 (length run)) broken (takes (keyword_or_name run (keyword_of run)) (length run)) (λ e. tt)
    (λ e. (word_named run (keyword_of run) (record { bytes = h; short = not_more (length run) e }), l))

literal_fine : (len : ℕ) (r : Result Literal LiteralFault) → 1 ≤ len → Fine (literal_or_broken len r)
literal_fine len (Ok l) h = (no_name, h)
literal_fine len (Err f) h = tt

number_fine : (run : List ℕ) (o : Option ℕ) → 1 ≤ length run → Fine (number_or_literal run o)
number_fine run (Some n) h = (no_name, h)
number_fine run None h = literal_fine (length run) (literal_of run) h

one_mark : (o : Option Mark) → Fine (mark_or_broken o)
one_mark (Some m) = (no_name, omega arith)
one_mark None = tt

two_marks : (first : ℕ) (o : Option Mark) → Fine (mark_or_shorter first o)
two_marks first (Some m) = (no_name, omega arith)
two_marks first None = one_mark (single_mark first)

mark_fine : (first : ℕ) (rest : List ℕ) → Fine (mark_front first rest)
mark_fine first [] = one_mark (single_mark first)
mark_fine first (second ∷ rest) = two_marks first (double_mark first second)

comment_fine : (o : Option ℕ) → Fine (comment_front o)
comment_fine (Some n) = tt
comment_fine None = tt

letter_word : (b : ℕ) → is_letter b ≡ true → is_in_identifier b ≡ true
letter_word b h = or_left (is_letter b || is_digit b) (b == 36) (or_left (is_letter b) (is_digit b) h)

digit_in_run : (b : ℕ) → is_digit b ≡ true → is_in_run b ≡ true
digit_in_run b h = or_left (is_in_identifier b) (b == 39) (or_left (is_letter b || is_digit b) (b == 36) (by (is_letter b) h))
  where
    by : (c : Bool) → is_digit b ≡ true → (c || is_digit b) ≡ true
    by true h = refl
    by false h = h

pub front_fine : (text : List ℕ) → Fine (front text)
front_fine [] = tt
front_fine (b ∷ bs) =
    chosen (is_layout b) _ _ (λ e. tt) (λ e1.
    chosen (b == 47 && begins_with 47 bs) _ _ (λ e. tt) (λ e2.
    chosen (b == 47 && begins_with 42 bs) _ _ (λ e. comment_fine (to_close (drop 1 bs))) (λ e3.
    chosen (is_letter b) _ _
    (λ e. identifier_fine (take (run_length is_in_identifier (b ∷ bs)) (b ∷ bs)) (run_passes is_in_identifier (b ∷ bs)) (run_positive is_in_identifier b bs (letter_word b e))) (λ e4.
    chosen (is_digit b) _ _
    (λ e. number_fine (take (run_length is_in_run (b ∷ bs)) (b ∷ bs)) (number_of (take (run_length is_in_run (b ∷ bs)) (b ∷ bs))) (run_positive is_in_run b bs (digit_in_run b e))) (λ e5.
    mark_fine b bs)))))

-- all tokens have such names
abbrev pub Named : List Token → Type 0
Named [] = Unit {0}
Named (t ∷ ts) = IsIdentifier (name_in t.word) × Named ts

pub named : (at : ℕ) (text : List ℕ) (ts : List Token) → Lexes at text ts → Named ts
named at text _ (at_end e) = tt
named at text ts (past n e l) = named (at + n) (drop n text) ts l
named at text _ (token {ts = ts} w n e l) = ((subst Fine e (front_fine text)).0, named (at + n) (drop n text) ts l)

not_taken : (w : Word) (n : ℕ) → finish ≡ takes w n → ⊥
not_taken w n e = cc

not_empty : (text : List ℕ) (w : Word) (n : ℕ) → front text ≡ takes w n → 1 ≤ length text
not_empty [] w n e = absurd (not_taken w n e)
not_empty (b ∷ bs) w n e = omega arith

pub few : (at : ℕ) (text : List ℕ) (ts : List Token) → Lexes at text ts → length ts ≤ length text
few at text _ (at_end e) = omega arith
few at text ts (past n e l) = let h = few (at + n) (drop n text) ts l in let d = length-drop n text in omega arith
few at text _ (token {ts = ts} w n e l) =
    let h = few (at + n) (drop n text) ts l in let d = length-drop n text in
    let one = (subst Fine e (front_fine text)).1 in let some = not_empty text w n e in omega arith
