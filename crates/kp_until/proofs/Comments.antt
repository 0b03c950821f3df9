-- A line is cut at the first token that begins a comment.
use Rattle.std.proofs.Common.{◌≡◌, ◌<◌, ℕ, zero, suc, Bool, true, false, cond, List, [], ◌∷◌, length, get_or, map, take, refl, sym, ap, ◌∙◌, arith}
use Rattle.kp_base.specs.{Lines.Piece, Lines.piece_of, declared.run.Run.Run}
use Rattle.kp_until.specs.Expected.{begins_comment, uncommented}

abbrev pub begins : List ℕ → Run → Bool
begins text w = begins_comment (piece_of text w).bytes

module _ (text : List ℕ) where
  abbrev chosen : Run → List Run → Bool → List Piece
  chosen w ws b = cond b [] (piece_of text w ∷ uncommented (map (piece_of text) ws))

  pub cut : (ws : List Run) (d e : Run) (k : ℕ) → k < length ws → ((j : ℕ) → j < k → begins text (get_or ws j d) ≡ false) → begins text (get_or ws k e) ≡ true
      → map (piece_of text) (take k ws) ≡ uncommented (map (piece_of text) ws)
  cut [] d e k h clean on = absurd (omega (arith, h))
  cut (w ∷ ws) d e zero h clean on = sym (ap (chosen w ws) on)
  cut (w ∷ ws) d e (suc k) h clean on =
      ap (λ (ps : List Piece). piece_of text w ∷ ps) (cut ws d e k (omega (arith, h)) (λ j x. clean (suc j) (omega (arith, x))) on)
      ∙ sym (ap (chosen w ws) (clean 0 (omega arith)))

  pub whole : (ws : List Run) (d : Run) → ((j : ℕ) → j < length ws → begins text (get_or ws j d) ≡ false)
      → map (piece_of text) ws ≡ uncommented (map (piece_of text) ws)
  whole [] d clean = refl
  whole (w ∷ ws) d clean =
      ap (λ (ps : List Piece). piece_of text w ∷ ps) (whole ws d (λ j x. clean (suc j) (omega (arith, x))))
      ∙ sym (ap (chosen w ws) (clean 0 (omega arith)))
