-- One more byte of a text.
use Rattle.std.proofs.{Common.◌≡◌, Common.ℕ, Common.◌+◌, Common.List, Common.[], Common.◌∷◌, Common.◌++◌, Common.arith, lemmas.List.reverse-append}
use Rattle.std.{proofs.lemmas.List.Sums.take_while-cons, proofs.lemmas.Grind.common_steps, specs.Prelude.◌==◌, specs.Prelude.if◌then◌else◌}
use Rattle.kp_base.specs.Place.{line_after, column_after}

pub line_after_next : (front : List ℕ) (byte : ℕ) → line_after (front ++ byte ∷ []) ≡ (if byte == 10 then line_after front + 1 else line_after front)
line_after_next front byte = grind (arith, common_steps)

pub column_after_next : (front : List ℕ) (byte : ℕ) → column_after (front ++ byte ∷ []) ≡ (if byte == 10 then 1 else column_after front + 1)
column_after_next front byte = simp (reverse-append, take_while-cons) (grind (arith, common_steps))
