-- The steps of the loops that fill a text, and that write spaces.
use Rattle.std.proofs.Common.{◌≡◌, ◌∙◌, ℕ, ◌+◌, ◌-◌, ◌<◌, ◌≤◌, min, List, [], ◌∷◌, ◌++◌, length, get_or, take, drop, ap, sym, append_assoc, arith, length-drop}
use Rattle.std.proofs.lemmas.List.{drop_all, drop_min, drop_more, drop-drop, take_all}
use Rattle.std.{proofs.lemmas.List.replicate-append-replicate, specs.Prelude.map, specs.Prelude.replicate}
use Rattle.kp_base.specs.Texts.{filled, hole_in, piece_text, spaces}
use Rattle.kp_base.specs.declared.piece.Piece.{Piece}

pub spaces_next : (left here : ℕ) → here ≤ left → spaces left ≡ spaces here ++ spaces (left - here)
spaces_next left here b =
    let e : here + (left - here) ≡ left = omega arith in
    sym (replicate-append-replicate here (left - here) 32 ∙ ap (λ (n : ℕ). replicate n 32) e)

-- a slice from an index to the end
pub tail_is : (text : List ℕ) (at : ℕ) → take (length text - at) (drop at text) ≡ drop at text
tail_is text at = take_all (length text - at) (drop at text) (omega (arith, length-drop at text))

-- what is left after a hole, or nothing
rest_next : (text : List ℕ) (at before : ℕ) → drop (min (at + before + 1) (length text)) text ≡ drop (before + 1) (drop at text)
rest_next text at before =
    let sums : at + before + 1 ≡ at + (before + 1) = omega arith in
    drop_min (at + before + 1) text ∙ ap (λ (next : ℕ). drop next text) sums ∙ sym (drop-drop (before + 1) at text)

-- A step, by the slice and the piece that the loop has: the text before the hole, and the piece in it.
pub filled_step : (text rest : List ℕ) (pieces : List Piece) (at before after i : ℕ) (p : Piece) → rest ≡ drop at text → i < length pieces → p ≡ get_or pieces i p
    → before ≡ hole_in rest → after ≡ min (at + before + 1) (length text)
    → filled (drop at text) (map piece_text (drop i pieces)) ≡ (take before rest ++ piece_text p) ++ filled (drop after text) (map piece_text (drop (i + 1) pieces))
unfolding filled
filled_step text rest pieces at before after i p same b item is to =
    let parts = map piece_text (drop (i + 1) pieces) in
    ap (λ (from : List ℕ). filled from (map piece_text (drop i pieces))) (sym same)
    ∙ ap (λ (ps : List Piece). filled rest (map piece_text ps)) (drop_more pieces i p b ∙ ap (λ (x : Piece). x ∷ drop (i + 1) pieces) (sym item))
    ∙ sym (append_assoc (take (hole_in rest) rest) (piece_text p) (filled (drop (hole_in rest + 1) rest) parts))
    ∙ ap (λ (hole : ℕ). (take hole rest ++ piece_text p) ++ filled (drop (hole + 1) rest) parts) (sym is)
    ∙ ap (λ (from : List ℕ). (take before rest ++ piece_text p) ++ filled from parts)
    (ap (drop (before + 1)) same ∙ sym (rest_next text at before) ∙ sym (ap (λ (next : ℕ). drop next text) to))

pub filled_end : (text : List ℕ) (pieces : List Piece) (i : ℕ) → length pieces ≤ i → filled text (map piece_text (drop i pieces)) ≡ text
unfolding filled
filled_end text pieces i b = ap (λ (ps : List Piece). filled text (map piece_text ps)) (drop_all i pieces b)
