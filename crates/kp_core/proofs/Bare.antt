-- A text without `/`, with comments added and then left out, is the same text.
use Rattle.std.proofs.Common.{◌≡◌, ◌∙◌, ℕ, zero, suc, ◌<◌, ◌≤◌, ◌==◌, ◌&&◌, Bool, true, false, cond, not, List, [], ◌∷◌, ◌++◌, length, drop, get_or, refl, sym, ap, arith, append_assoc, append-nil}
use Rattle.std.{proofs.Math.Bool.and-false, proofs.lemmas.Bool.and_parts, specs.List.list_all, specs.Prelude.flat_map, specs.Prelude.if◌then◌else◌}
use Rattle.kp_core_ports.specs.Core.{is_in_line}
use Rattle.kp_wires.specs.{Comments.comment_of, Comments.next_line, Comments.line_of, Comments.byte_at, Comments.byte_text, Comments.with_comments, Table.below}
use Rattle.kp_core.{specs.Bare.begins_comment, specs.Bare.left_of, specs.Bare.without_comments, proofs.Slashes.is_other, proofs.Slashes.Free}

-- ---- from the first byte on

abbrev from : (ℕ → List ℕ) → ℕ → List ℕ → List ℕ
from note line [] = []
from note line (b ∷ bs) = byte_text note line b ++ from note (next_line line b) bs

drop_next : (xs : List ℕ) (n : ℕ) → n < length xs → drop n xs ≡ get_or xs n 0 ∷ drop (suc n) xs
drop_next [] n h = absurd (omega (arith, h))
drop_next (x ∷ xs) zero h = refl
drop_next (x ∷ xs) (suc n) h = drop_next xs n (omega (arith, h))

drop_past : (xs : List ℕ) → drop (length xs) xs ≡ []
drop_past [] = refl
drop_past (x ∷ xs) = drop_past xs

module _ (note : ℕ → List ℕ) (text : List ℕ) where
  split : (n : ℕ) → n ≤ length text → below (byte_at note text) n ++ from note (line_of text n) (drop n text) ≡ from note 0 text
  split zero h = refl
  split (suc n) h =
      let rest : List ℕ = from note (line_of text (suc n)) (drop (suc n) text) in
      append_assoc (below (byte_at note text) n) (byte_at note text n) rest
      ∙ ap (λ (xs : List ℕ). below (byte_at note text) n ++ from note (line_of text n) xs) (sym (drop_next text n (omega (arith, h))))
      ∙ split n (omega (arith, h))

  from_first : with_comments note text ≡ from note 0 text
  from_first =
      sym (append-nil (with_comments note text))
      ∙ ap (λ (xs : List ℕ). with_comments note text ++ from note (line_of text (length text)) xs) (sym (drop_past text))
      ∙ split (length text) (omega arith)

-- ---- one byte, with the comment before it where it ends a line

abbrev Other : ℕ → Type 0
Other b = (b == 47) ≡ false

other : (b : ℕ) (t : Bool) → (b == 47) ≡ t → is_other b ≡ true → Other b
other b true e h = absurd (cc (sym (ap not e) ∙ h))
other b false e h = e

abbrev one : Bool → List ℕ → ℕ → List ℕ → List ℕ
one t n b rest = (cond t [] (comment_of n) ++ b ∷ []) ++ rest

first : (t : Bool) (n : List ℕ) (b : ℕ) (rest : List ℕ) → Other b → Other (get_or (one t n b rest) 0 0)
first true n b rest h = h
first false [] b rest h = h
first false (c ∷ cs) b rest h = refl

second : (t : Bool) (n : List ℕ) (b : ℕ) (rest : List ℕ) → Other (get_or rest 0 0) → Other (get_or (one t n b rest) 1 0)
second true n b rest h = h
second false [] b rest h = h
second false (c ∷ cs) b rest h = refl

-- no comment begins two bytes before a byte other than `/`
none_begins : (b : ℕ) (rest : List ℕ) → Other (get_or rest 1 0) → begins_comment (b ∷ rest) ≡ false
none_begins b [] h = refl
none_begins b (x ∷ []) h = refl
none_begins b (x ∷ y ∷ []) h = refl
none_begins b (x ∷ y ∷ z ∷ rest) h =
    ap (λ (t : Bool). b == 32 && x == 32 && t && z == 47) h ∙ ap (λ (t : Bool). t && z == 47) (and-false (b == 32 && x == 32))

kept : (b : ℕ) (rest text : List ℕ) → Other (get_or rest 1 0) → left_of false rest ≡ text → left_of false (b ∷ rest) ≡ b ∷ text
kept b rest text h e = ap (λ (t : Bool). cond t (left_of true rest) (b ∷ left_of false rest)) (none_begins b rest h) ∙ ap (λ (bs : List ℕ). b ∷ bs) e

abbrev in_line : List ℕ → List ℕ
in_line note = flat_map (λ (b : ℕ). if is_in_line b then b ∷ [] else []) note

-- a comment is passed over up to a line feed
module _ (b : ℕ) (rest : List ℕ) (ends : is_in_line b ≡ false) where
  passed_one : (c : ℕ) (cs : List ℕ) (t : Bool) → is_in_line c ≡ t → left_of true (in_line cs ++ b ∷ rest) ≡ b ∷ left_of false rest
      → left_of true (in_line (c ∷ cs) ++ b ∷ rest) ≡ b ∷ left_of false rest
  passed_one c cs true e h =
      ap (λ (t : Bool). left_of true ((cond t (c ∷ []) [] ++ in_line cs) ++ b ∷ rest)) e
      ∙ ap (λ (t : Bool). cond t (left_of true (in_line cs ++ b ∷ rest)) (c ∷ left_of false (in_line cs ++ b ∷ rest))) e
      ∙ h
  passed_one c cs false e h = ap (λ (t : Bool). left_of true ((cond t (c ∷ []) [] ++ in_line cs) ++ b ∷ rest)) e ∙ h

  passed : (note : List ℕ) → left_of true (in_line note ++ b ∷ rest) ≡ b ∷ left_of false rest
  passed [] = ap (λ (t : Bool). cond t (left_of true rest) (b ∷ left_of false rest)) ends
  passed (c ∷ cs) = passed_one c cs (is_in_line c) refl (passed cs)

left_one : (t : Bool) (n : List ℕ) (b : ℕ) (rest text : List ℕ) → is_in_line b ≡ t → Other (get_or rest 1 0) → left_of false rest ≡ text → left_of false (one t n b rest) ≡ b ∷ text
left_one true n b rest text e h is = kept b rest text h is
left_one false [] b rest text e h is = kept b rest text h is
left_one false (c ∷ cs) b rest text e h is =
    ap (λ (x : List ℕ). left_of true x) (append_assoc (in_line (c ∷ cs)) (b ∷ []) rest) ∙ passed b rest e (c ∷ cs) ∙ ap (λ (bs : List ℕ). b ∷ bs) is

-- ---- all bytes

module _ (note : ℕ → List ℕ) where
  first_of : (line : ℕ) (text : List ℕ) → Free text → Other (get_or (from note line text) 0 0)
  first_of line [] h = refl
  first_of line (b ∷ bs) h =
      first (is_in_line b) (note line) b (from note (next_line line b) bs) (other b (b == 47) refl (and_parts (is_other b) (list_all is_other bs) h).0)

  second_of : (line : ℕ) (text : List ℕ) → Free text → Other (get_or (from note line text) 1 0)
  second_of line [] h = refl
  second_of line (b ∷ bs) h =
      second (is_in_line b) (note line) b (from note (next_line line b) bs) (first_of (next_line line b) bs (and_parts (is_other b) (list_all is_other bs) h).1)

  left : (line : ℕ) (text : List ℕ) → Free text → left_of false (from note line text) ≡ text
  left line [] h = refl
  left line (b ∷ bs) h =
      let more = (and_parts (is_other b) (list_all is_other bs) h).1 in
      left_one (is_in_line b) (note line) b (from note (next_line line b) bs) bs refl (second_of (next_line line b) bs more) (left (next_line line b) bs more)

pub bare : (note : ℕ → List ℕ) (text : List ℕ) → Free text → without_comments (with_comments note text) ≡ text
bare note text h = ap (left_of false) (from_first note text) ∙ left note 0 text h
