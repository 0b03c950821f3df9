-- The front that the code computes is that of the text, and it is no longer than the text.
use Rattle.std.proofs.Common.{ℕ, suc, ◌+◌, ◌≤◌, ◌<◌, ◌≡◌, ◌∙◌, List, [], ◌∷◌, length, length-take-le, take, drop, ◌==◌, nat_lt, Bool, true, false, cond, ◌||◌, ◌&&◌, Option, Some, None, Result, Ok, Err, refl, ap, arith}
use Rattle.std.{proofs.lemmas.Bool.false≢true, proofs.lemmas.Bool.and_parts, proofs.lemmas.Bool.or_left, proofs.lemmas.Bool.or_right, specs.Prelude.IfSome}
use Rattle.kp_bits.specs.{Literals.number_of, Literals.literal_of, declared.literal.Literal.Literal, declared.literal.LiteralFault.LiteralFault}
use Rattle.kp_net.specs.Names.{is_in_identifier}
use Rattle.kp_base.specs.Characters.{is_letter, is_digit, run_length}
use Rattle.kp_vlog.specs.declared.{front.Front.Front, token.Keyword.Keyword, token.Mark.Mark}
use Rattle.kp_vlog.specs.Words.{keyword_of, single_mark, double_mark}
use Rattle.kp_vlog.specs.{Tokens.is_layout, Tokens.is_in_line, Tokens.is_in_run, Tokens.begins_with, Tokens.one_more, Tokens.to_close, Fronts.seen, Fronts.Fits}
use Rattle.kp_vlog.specs.Kinds.{kind_or_name, identifier, literal_kind, number_kind, number_run, comment, mark_kind, mark_or_shorter, mark, front_of}
use Rattle.kp_vlog.specs.declared.front.Front.TheVariants as fronts
use Rattle.kp_vlog.specs.declared.front.TokenFault.TheVariants as faults
use Rattle.kp_vlog.specs.Tokens as tokens

-- a comment that is closed the given number of bytes later
abbrev pub shifted : ℕ → Option ℕ → Option ℕ
shifted k None = None
shifted k (Some n) = Some (k + n)

pub begun : (c : ℕ) (rest : List ℕ) → begins_with c rest ≡ true → 1 ≤ length rest
begun c [] e = absurd (false≢true e)
begun c (b ∷ rest) e = omega arith

seen_cond : (text : List ℕ) (b : Bool) (x y : Front) (u v : tokens.Front) → seen text x ≡ u → seen text y ≡ v → seen text (cond b x y) ≡ cond b u v
seen_cond text true x y u v e f = e
seen_cond text false x y u v e f = f

run_within : (test : ℕ → Bool) (text : List ℕ) → run_length test text ≤ length text
run_within test [] = omega arith
run_within test (byte ∷ rest) = go (test byte) (run_within test rest)
  where
    go : (b : Bool) → run_length test rest ≤ length rest → cond b (run_length test rest + 1) 0 ≤ suc (length rest)
    go true h = omega arith
    go false h = omega arith

run_taken : (test : ℕ → Bool) (text : List ℕ) → take (length (take (run_length test text) text)) text ≡ take (run_length test text) text
run_taken test text = ap (λ n. take n text) (length-take-le (run_length test text) text (run_within test text))

seen_keyword : (text run : List ℕ) (o : Option Keyword) → take (length run) text ≡ run
    → seen text (fronts.Token (kind_or_name o) (length run)) ≡ tokens.takes (tokens.keyword_or_name run o) (length run)
seen_keyword text run (Some k) e = refl
seen_keyword text run None e = ap (λ (r : List ℕ). tokens.takes (tokens.name r) (length run)) e

seen_identifier : (text run : List ℕ) → take (length run) text ≡ run → seen text (identifier run) ≡ tokens.identifier run
seen_identifier text run e = seen_cond text (nat_lt 70 (length run)) (fronts.Broken (faults.LongName (length run))) (fronts.Token (kind_or_name (keyword_of run)) (length run)) tokens.broken _ refl (seen_keyword text run (keyword_of run) e)

seen_literal : (text : List ℕ) (len : ℕ) (r : Result Literal LiteralFault) → seen text (literal_kind len r) ≡ tokens.literal_or_broken len r
seen_literal text len (Ok l) = refl
seen_literal text len (Err e) = refl

seen_number : (text run : List ℕ) (o : Option ℕ) → seen text (number_kind run o) ≡ tokens.number_or_literal run o
seen_number text run (Some n) = refl
seen_number text run None = seen_literal text (length run) (literal_of run)

seen_comment : (text : List ℕ) (o : Option ℕ) → seen text (comment o) ≡ tokens.comment_front o
seen_comment text (Some n) = refl
seen_comment text None = refl

seen_single : (text : List ℕ) (first : ℕ) (o : Option Mark) → seen text (mark_kind first o) ≡ tokens.mark_or_broken o
seen_single text first (Some m) = refl
seen_single text first None = refl

seen_double : (text : List ℕ) (first : ℕ) (o : Option Mark) → seen text (mark_or_shorter first o) ≡ tokens.mark_or_shorter first o
seen_double text first (Some m) = refl
seen_double text first None = seen_single text first (single_mark first)

seen_mark : (text : List ℕ) (first : ℕ) (rest : List ℕ) → seen text (mark first rest) ≡ tokens.mark_front first rest
seen_mark text first [] = seen_single text first (single_mark first)
seen_mark text first (second ∷ rest) = seen_double text first (double_mark first second)

pub seen_front : (text : List ℕ) → seen text (front_of text) ≡ tokens.front text
seen_front [] = refl
seen_front (b ∷ bs) =
    let text = b ∷ bs in
    seen_cond text (is_layout b) _ _ _ _ refl
    (seen_cond text (b == 47 && begins_with 47 bs) _ _ _ _ refl
    (seen_cond text (b == 47 && begins_with 42 bs) _ _ _ _ (seen_comment text (to_close (drop 1 bs)))
    (seen_cond text (is_letter b) _ _ _ _ (seen_identifier text (take (run_length is_in_identifier text) text) (run_taken is_in_identifier text))
    (seen_cond text (is_digit b) _ _ _ _ (seen_number text (take (run_length is_in_run text) text) (number_of (take (run_length is_in_run text) text)))
    (seen_mark text b bs)))))

fits_cond : (len : ℕ) (b : Bool) (x y : Front) → (b ≡ true → Fits len x) → Fits len y → Fits len (cond b x y)
fits_cond len true x y f g = f refl
fits_cond len false x y f g = g

run_positive : (test : ℕ → Bool) (byte : ℕ) (rest : List ℕ) → test byte ≡ true → 0 < run_length test (byte ∷ rest)
run_positive test byte rest h = rw h (omega arith)

run_fits : (test : ℕ → Bool) (byte : ℕ) (rest : List ℕ) → test byte ≡ true
    → (0 < length (take (run_length test (byte ∷ rest)) (byte ∷ rest))) × (length (take (run_length test (byte ∷ rest)) (byte ∷ rest)) ≤ suc (length rest))
run_fits test byte rest h =
    let within : run_length test (byte ∷ rest) ≤ suc (length rest) = run_within test (byte ∷ rest) in
    let same = length-take-le (run_length test (byte ∷ rest)) (byte ∷ rest) within in
    let low : 0 < run_length test (byte ∷ rest) = run_positive test byte rest h in
    (omega arith, omega arith)

fits_identifier : (run : List ℕ) (n : ℕ) → 0 < length run → length run ≤ n → Fits n (identifier run)
fits_identifier run n low high = fits_cond n (nat_lt 70 (length run)) (fronts.Broken _) _ (λ e. tt) (low, high)

fits_number : (run : List ℕ) (n : ℕ) → 0 < length run → length run ≤ n → Fits n (number_run run)
fits_number run n low high = go (number_of run)
  where
    literal : (r : Result Literal LiteralFault) → Fits n (literal_kind (length run) r)
    literal (Ok l) = (low, high)
    literal (Err e) = tt

    go : (o : Option ℕ) → Fits n (number_kind run o)
    go (Some k) = (low, high)
    go None = literal (literal_of run)

close_within : (rest : List ℕ) → IfSome (to_close rest) (λ n. n ≤ length rest)
close_within [] = tt
close_within (b ∷ rest) = go (b == 42 && begins_with 47 rest) (to_close rest) refl (close_within rest)
  where
    go : (t : Bool) (o : Option ℕ) → (b == 42 && begins_with 47 rest) ≡ t → IfSome o (λ n. n ≤ length rest) → IfSome (cond t (Some 2) (one_more o)) (λ n. n ≤ suc (length rest))
    go true o e h = let l = begun 47 rest ((and_parts (b == 42) (begins_with 47 rest) e).1) in omega arith
    go false (Some n) e h = omega arith
    go false None e h = tt

fits_comment : (bs : List ℕ) → begins_with 42 bs ≡ true → (o : Option ℕ) → IfSome o (λ n. n ≤ length (drop 1 bs)) → Fits (suc (length bs)) (comment o)
fits_comment [] e o h = absurd (false≢true e)
fits_comment (c ∷ bs) e (Some n) h = (omega arith, omega arith)
fits_comment (c ∷ bs) e None h = tt

fits_single : (n first : ℕ) (o : Option Mark) → Fits (suc n) (mark_kind first o)
fits_single n first (Some m) = (omega arith, omega arith)
fits_single n first None = tt

fits_double : (n first : ℕ) (o : Option Mark) → Fits (suc (suc n)) (mark_or_shorter first o)
fits_double n first (Some m) = (omega arith, omega arith)
fits_double n first None = fits_single (suc n) first (single_mark first)

fits_mark : (first : ℕ) (rest : List ℕ) → Fits (suc (length rest)) (mark first rest)
fits_mark first [] = fits_single 0 first (single_mark first)
fits_mark first (second ∷ rest) = fits_double (length rest) first (double_mark first second)

slash_in_line : (b : ℕ) → (b == 47) ≡ true → is_in_line b ≡ true
slash_in_line b e = grind (arith)

pub fits_front : (text : List ℕ) → Fits (length text) (front_of text)
fits_front [] = refl
fits_front (b ∷ bs) =
    fits_cond (suc (length bs)) (is_layout b) _ _ (λ e. (omega arith, omega arith))
    (fits_cond (suc (length bs)) (b == 47 && begins_with 47 bs) _ _
    (λ e. (run_positive is_in_line b bs (slash_in_line b ((and_parts (b == 47) (begins_with 47 bs) e).0)), run_within is_in_line (b ∷ bs)))
    (fits_cond (suc (length bs)) (b == 47 && begins_with 42 bs) _ _
    (λ e. fits_comment bs ((and_parts (b == 47) (begins_with 42 bs) e).1) (to_close (drop 1 bs)) (close_within (drop 1 bs)))
    (fits_cond (suc (length bs)) (is_letter b) _ _
    (λ e. let f = run_fits is_in_identifier b bs (or_left (is_letter b || is_digit b) (b == 36) (or_left (is_letter b) (is_digit b) e)) in fits_identifier _ (suc (length bs)) f.0 f.1)
    (fits_cond (suc (length bs)) (is_digit b) _ _
    (λ e. let f = run_fits is_in_run b bs (or_left (is_in_identifier b) (b == 39) (or_left (is_letter b || is_digit b) (b == 36) (or_right (is_letter b) (is_digit b) e))) in
    fits_number _ (suc (length bs)) f.0 f.1)
    (fits_mark b bs)))))
