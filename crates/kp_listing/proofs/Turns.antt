-- From one line to all, and from a line to its text, which is no longer.
use Rattle.std.proofs.Common.{◌≡◌, ◌∙◌, ℕ, ◌≤◌, Bool, true, false, cond, List, [], ◌∷◌, ◌++◌, length, drop, Option, Some, None, append_assoc, refl, sym, ap, arith}
use Rattle.std.proofs.lemmas.List.{length-drop}
use Rattle.std.specs.{Prelude.◌==◌, Prelude.◌&&◌, Prelude.nat_lt, Prelude.⊤, Char.is_ascii_hexdigit}
use Rattle.kp_base.specs.{Characters.run_length, Lines.Piece, Lines.is_blank}
use Rattle.kp_bits.specs.Literals.{number_within, numeral_value}
use Rattle.kp_listing.specs.Listings.{Entry, after_code, after_digits, after_tab, coded, digits_from, entries_from, entry_in, is_untabbed, numbered_in, or_all, prefixed, with_address, with_entry}

one : (e : Option Entry) (rest : List Entry) → with_entry e [] ++ rest ≡ with_entry e rest
one None rest = refl
one (Some e) rest = refl

-- the lines that are left after one
pub next_line : (old new all : List Entry) (line : Piece) (left more : List Piece) → left ≡ line ∷ more → new ≡ old ++ with_entry (entry_in line.bytes) []
    → old ++ entries_from left ≡ all → new ++ entries_from more ≡ all
next_line old new all line left more is added so_far =
    ap (λ (es : List Entry). es ++ entries_from more) added
    ∙ append_assoc old (with_entry (entry_in line.bytes) []) (entries_from more)
    ∙ ap (λ (es : List Entry). old ++ es) (one (entry_in line.bytes) (entries_from more) ∙ ap entries_from (sym is))
    ∙ so_far

-- SHORT: the text is no longer than this
abbrev Rest : ℕ → Option (List ℕ) → Type 0
Rest n None = ⊤
Rest n (Some bytes) = length bytes ≤ n

abbrev pub Short : ℕ → Option Entry → Type 0
Short n None = ⊤
Short n (Some e) = length e.text ≤ n

drop_short : (n : ℕ) (xs : List ℕ) → length (drop n xs) ≤ length xs
drop_short n xs = let l = length-drop n xs in omega (arith, l)

if_rest : (n : ℕ) (t : Bool) (o : Option (List ℕ)) → Rest n o → Rest n (cond t o None)
if_rest n true o h = h
if_rest n false o h = tt

if_short : (n : ℕ) (t : Bool) (o : Option Entry) → Short n o → Short n (cond t o None)
if_short n true o h = h
if_short n false o h = tt

or_short : (o : Option (List ℕ)) (all : List ℕ) → Rest (length all) o → length (or_all o all) ≤ length all
or_short None all h = omega arith
or_short (Some rest) all h = h

prefixed_short : (bytes : List ℕ) → Rest (length bytes) (prefixed bytes)
prefixed_short [] = tt
prefixed_short (a ∷ []) = tt
prefixed_short (a ∷ b ∷ rest) = if_rest (length (a ∷ b ∷ rest)) (a == 48 && b == 120) (Some rest) (omega arith)

after_tab_short : (n : ℕ) (rest : List ℕ) → length rest ≤ n → Rest n (after_tab rest)
after_tab_short n [] h = tt
after_tab_short n (tab ∷ text) h = omega (arith, h)

coded_short : (text : List ℕ) → Rest (length text) (coded text)
coded_short [] = tt
coded_short (c ∷ rest) =
    let n = run_length is_untabbed rest in
    let d = drop_short n rest in
    if_rest (length (c ∷ rest)) (c == 9) (after_tab (drop n rest)) (after_tab_short (length (c ∷ rest)) (drop n rest) (omega (arith, d)))

with_address_short : (n : ℕ) (address : Option ℕ) (text : List ℕ) → length text ≤ n → Short n (with_address address text)
with_address_short n None text h = tt
with_address_short n (Some a) text h = h

after_digits_short : (n : ℕ) (digits rest : List ℕ) → length rest ≤ n → Short n (after_digits digits rest)
after_digits_short n digits [] h = tt
after_digits_short n digits (c ∷ text) h =
    let s : length (after_code text) ≤ length text = or_short (coded text) text (coded_short text) in
    if_short n (c == 58 && nat_lt 0 (length digits)) (with_address (number_within (numeral_value 16 digits)) (after_code text))
    (with_address_short n (number_within (numeral_value 16 digits)) (after_code text) (omega (arith, h, s)))

-- the text of a line
pub numbered_short : (line : List ℕ) → Short (length line) (numbered_in line)
numbered_short line =
    let rest = drop (run_length is_blank line) line in
    let bytes = digits_from rest in
    let n = run_length is_ascii_hexdigit bytes in
    let a = drop_short (run_length is_blank line) line in
    let b : length bytes ≤ length rest = or_short (prefixed rest) rest (prefixed_short rest) in
    let c = drop_short n bytes in
    after_digits_short (length line) _ (drop n bytes) (omega (arith, a, b, c))
