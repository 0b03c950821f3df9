-- Parts of a run.
use Rattle.std.proofs.Common.{◌≡◌, ℕ, ◌+◌, ◌-◌, ◌≤◌, List, length, take, drop, sym, ap, ◌∙◌, arith}
use Rattle.std.specs.Prelude.{slice_range}
use Rattle.std.proofs.lemmas.List.{length-take, length-drop, take-take, drop-drop, drop-take}
use Rattle.kp_base.specs.{Lines.IsWithin, Lines.Piece, Lines.piece_of, declared.run.Run.Run}
use Rattle.kp_directive.specs.Directives.{from_on, run_of}

pub size_of : (text : List ℕ) (at end : ℕ) → at ≤ end → end ≤ length text → at + length (slice_range text at end) ≡ end
size_of text at end h w = let a = length-take (end - at) (drop at text) in let b = length-drop at text in omega (arith, a, b)

-- the first bytes of a run
front_bytes : (text : List ℕ) (at end n : ℕ) → n ≤ end - at → slice_range text at (at + n) ≡ take n (slice_range text at end)
front_bytes text at end n h =
    let back : (at + n) - at ≡ n = omega arith in
    ap (λ (k : ℕ). take k (drop at text)) back ∙ sym (take-take n (end - at) (drop at text) h)

-- the bytes from one of them on
rest_bytes : (text : List ℕ) (at end n : ℕ) → at + n ≤ end → slice_range text (at + n) end ≡ drop n (slice_range text at end)
rest_bytes text at end n h =
    let left : end - at ≡ n + (end - (at + n)) = omega arith in
    sym (ap (λ (k : ℕ). drop n (take k (drop at text))) left ∙ drop-take n (end - (at + n)) (drop at text)
    ∙ ap (take (end - (at + n))) (drop-drop n at text))

module _ (text : List ℕ) (run : Run) (within : IsWithin text run) (n : ℕ) (short : n ≤ length (piece_of text run).bytes) where
  pub fits : run.at + n ≤ run.end
  fits = let size = size_of text run.at run.end within.0 within.1 in omega (arith, size, short)

  -- its first bytes
  pub front_piece : piece_of text (record { at = run.at; end = run.at + n }) ≡ record { at = run.at; bytes = take n (piece_of text run).bytes }
  front_piece =
      let room : n ≤ run.end - run.at = let f = fits in omega (arith, f) in
      let piece : List ℕ → Piece = λ bytes. record { at = run.at; bytes = bytes } in
      ap piece (front_bytes text run.at run.end n room)

  -- those after them
  pub rest_piece : piece_of text (record { at = run.at + n; end = run.end }) ≡ from_on n (piece_of text run)
  rest_piece = let piece : List ℕ → Piece = λ bytes. record { at = run.at + n; bytes = bytes } in ap piece (rest_bytes text run.at run.end n fits)

-- a run is where its piece is
pub run_again : (text : List ℕ) (run : Run) → IsWithin text run → run_of (piece_of text run) ≡ run
run_again text run h = let to : ℕ → Run = λ e. record { at = run.at; end = e } in ap to (size_of text run.at run.end h.0 h.1)
