-- One more line of an image.
use Rattle.std.proofs.Common.{◌≡◌, ◌∙◌, ℕ, ◌+◌, ◌≤◌, ◌<◌, List, ◌++◌, length, get_or, drop, ap, sym, append_assoc}
use Rattle.std.proofs.lemmas.List.{at_drop_more, at_drop_all, append-nil}
use Rattle.kp_bits.specs.Word.{word}
use Rattle.kp_asm.specs.Image.{image_line, lines_from}

pub line_more : (text words : List ℕ) (i : ℕ) → i < length words → (text ++ image_line i (word 32 (get_or words i 0))) ++ lines_from (i + 1) (drop (i + 1) words) ≡ text ++ lines_from i (drop i words)
line_more text words i h =
    append_assoc text (image_line i (word 32 (get_or words i 0))) (lines_from (i + 1) (drop (i + 1) words)) ∙ ap (λ (l : List ℕ). text ++ l) (sym (at_drop_more (lines_from i) words i 0 h))

pub lines_all : (text words : List ℕ) (i : ℕ) → length words ≤ i → text ++ lines_from i (drop i words) ≡ text
lines_all text words i h = ap (λ (l : List ℕ). text ++ l) (at_drop_all (lines_from i) words i h) ∙ append-nil text
