-- Words that overwrite others don't change those before them and those after them.
use Rattle.std.proofs.Common.{◌≡◌, ◌∙◌, ℕ, ◌+◌, ◌-◌, ◌≤◌, List, length, take, drop, arith, sym, ap, refl}
use Rattle.std.proofs.lemmas.{List.length-take-le, List.take-append-le, List.take-take, List.drop-drop, Slice.between_is, Slice.drop-put_mid}
use Rattle.std.specs.Prelude.{slice_range}
use Rattle.kp_region.specs.Words.{laid_over}

module _ (ws others : List ℕ) (at : ℕ) (room : at ≤ length ws) where
  -- the words before
  pub take-laid_over : (n : ℕ) → n ≤ at → take n (laid_over ws at others) ≡ take n ws
  take-laid_over n h =
      let front : n ≤ length (take at ws) = omega (arith, length-take-le at ws room) in
      take-append-le n (take at ws) _ front ∙ take-take n at ws h

  -- a span before
  pub laid_below : (a e : ℕ) → e ≤ at → slice_range (laid_over ws at others) a e ≡ slice_range ws a e
  laid_below a e h =
      between_is (laid_over ws at others) a e ∙ ap (drop a) (take-laid_over e h) ∙ sym (between_is ws a e)

  -- the words after them
  pub drop-laid_over : (n : ℕ) → at + length others ≤ n → drop n (laid_over ws at others) ≡ drop n ws
  drop-laid_over n h =
      rw (sym (drop-drop (length others) at ws)) (drop-put_mid at (length others) ws others n h room refl)

  -- a span after them
  pub laid_above : (a e : ℕ) → at + length others ≤ a → slice_range (laid_over ws at others) a e ≡ slice_range ws a e
  laid_above a e h = ap (take (e - a)) (drop-laid_over a h)
