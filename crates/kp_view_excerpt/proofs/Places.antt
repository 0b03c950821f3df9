-- The place of a byte: after complete lines and a part of a line.
use Rattle.std.proofs.Common.{◌≡◌, ◌∙◌, refl, sym, ap, ap₂, ℕ, suc, ◌+◌, ◌-◌, min, Bool, true, false, List, [], ◌∷◌, ◌++◌, length, take, drop, arith, append_assoc, append-nil, inl, inr}
use Rattle.std.proofs.lemmas.{List.length-append, List.drop_at, Grind.common_steps}
use Rattle.std.specs.Prelude.{count_by, if◌then◌else◌, ◌==◌}
use Rattle.kp_base.specs.{Characters.run_length, Place.column_after, Place.line_after, Place.place_after}
use Rattle.kp_base.proofs.Places.{column_after_next, line_after_next}
use Rattle.kp_view_excerpt.specs.Lines.{AreLines, IsInLine, after_lines, first_line, from_place, is_in_line, line_at, offset_at}

-- the text after the last line feed
skip : (front rest : List ℕ) → after_lines (suc (count_by (λ byte. byte == 10) front)) (front ++ 10 ∷ rest) ≡ rest
skip [] rest = refl
skip (b ∷ front) rest = by (b == 10) refl (skip front rest)
  where
    by : (x : Bool) → (b == 10) ≡ x → after_lines (suc (count_by (λ byte. byte == 10) front)) (front ++ 10 ∷ rest) ≡ rest
        → (if x then after_lines (count_by (λ byte. byte == 10) (b ∷ front)) (front ++ 10 ∷ rest) else after_lines (suc (count_by (λ byte. byte == 10) (b ∷ front))) (front ++ 10 ∷ rest)) ≡ rest
    by true e skips =
        let more : count_by (λ byte. byte == 10) (b ∷ front) ≡ suc (count_by (λ byte. byte == 10) front) = grind (arith, common_steps) in
        ap (λ (n : ℕ). after_lines n (front ++ 10 ∷ rest)) more ∙ skips
    by false e skips =
        let same : count_by (λ byte. byte == 10) (b ∷ front) ≡ count_by (λ byte. byte == 10) front = grind (arith, common_steps) in
        ap (λ (n : ℕ). after_lines (suc n) (front ++ 10 ∷ rest)) same ∙ skips

pub rest_is : (lines rest : List ℕ) → AreLines lines → (after_lines (line_after lines - 1) (lines ++ rest) ≡ rest) × (column_after lines ≡ 1)
rest_is lines rest (inl none) = (ap (λ (xs : List ℕ). after_lines (line_after xs - 1) (xs ++ rest)) none, ap column_after none)
rest_is lines rest (inr (front, is)) =
    let one : line_after (front ++ 10 ∷ []) - 1 ≡ suc (count_by (λ byte. byte == 10) front) = omega (arith, line_after_next front 10) in (
      ap (λ (xs : List ℕ). after_lines (line_after xs - 1) (xs ++ rest)) is
          ∙ ap₂ (λ (n : ℕ) (text : List ℕ). after_lines n text) one (append_assoc front (10 ∷ []) rest)
          ∙ skip front rest,
      ap column_after is ∙ column_after_next front 10,
    )

-- the place after a part of a line
tail_is : (b : ℕ) (part : List ℕ) → IsInLine (b ∷ part) → (is_in_line b ≡ true) × IsInLine part
tail_is b part all = (all 0 0 (omega arith), λ k d lt. all (suc k) d (omega arith))

pub part_is : (front part : List ℕ) → IsInLine part → (line_after (front ++ part) ≡ line_after front) × (column_after (front ++ part) ≡ column_after front + length part)
part_is front [] all = rw (append-nil front) (refl, omega arith)
part_is front (b ∷ part) all =
    let (in_line, rest) = tail_is b part all in
    let next = part_is (front ++ b ∷ []) part rest in
    let together : (front ++ b ∷ []) ++ part ≡ front ++ b ∷ part = append_assoc front (b ∷ []) part in
    let other : (b == 10) ≡ false = grind (arith, common_steps) in
    let line : line_after (front ++ b ∷ []) ≡ line_after front = line_after_next front b ∙ ap (λ (x : Bool). if x then line_after front + 1 else line_after front) other in
    let column : column_after (front ++ b ∷ []) ≡ column_after front + 1 = column_after_next front b ∙ ap (λ (x : Bool). if x then 1 else column_after front + 1) other in
    (ap line_after (sym together) ∙ next.0 ∙ line, ap column_after (sym together) ∙ next.1 ∙ omega (arith, column))

-- the rest of the line
pub first_is : (part rest : List ℕ) → IsInLine part → first_line (part ++ rest) ≡ part ++ first_line rest
first_is [] rest all = refl
first_is (b ∷ part) rest all =
    let (in_line, more) = tail_is b part all in
    let long : run_length is_in_line (b ∷ (part ++ rest)) ≡ suc (run_length is_in_line (part ++ rest)) = grind (arith, common_steps) in
    ap (λ (n : ℕ). take n (b ∷ (part ++ rest))) long ∙ ap (λ (text : List ℕ). b ∷ text) (first_is part rest more)

module _ (lines part rest : List ℕ) (are : AreLines lines) (within : IsInLine part) where
  after : after_lines (line_after (lines ++ part) - 1) (lines ++ (part ++ rest)) ≡ part ++ rest
  after = ap (λ (n : ℕ). after_lines (n - 1) (lines ++ (part ++ rest))) (part_is lines part within).0 ∙ (rest_is lines (part ++ rest) are).0

  column : column_after (lines ++ part) - 1 ≡ length part
  column = omega (arith, (part_is lines part within).1, (rest_is lines (part ++ rest) are).1)

  line : line_at (lines ++ (part ++ rest)) (line_after (lines ++ part)) ≡ part ++ first_line rest
  line = ap first_line after ∙ first_is part rest within

  pub line_is : from_place (lines ++ (part ++ rest)) (place_after (lines ++ part)) ≡ first_line rest
  line_is = ap₂ (λ (n : ℕ) (xs : List ℕ). drop n xs) column line ∙ drop_at part (first_line rest) _ refl

  pub offset_is : offset_at (lines ++ (part ++ rest)) (place_after (lines ++ part)) ≡ length (lines ++ part)
  offset_is =
      let long = length-append lines (part ++ rest) in
      let start : length (lines ++ (part ++ rest)) - length (part ++ rest) ≡ length lines = omega (arith, long) in
      let most : min (length part) (length part + length (first_line rest)) ≡ length part = omega arith in
      ap₂ (λ (n m : ℕ). n + m) (ap (λ (xs : List ℕ). length (lines ++ (part ++ rest)) - length xs) after ∙ start)
      (ap₂ min column (ap length line ∙ length-append part (first_line rest)) ∙ most)
      ∙ sym (length-append lines part)
