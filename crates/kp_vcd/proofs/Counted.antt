-- A text has no more tokens than bytes.
use Rattle.std.proofs.Common.{◌≡◌, ℕ, ◌+◌, ◌≤◌, Bool, true, false, List, [], ◌∷◌, ◌++◌, length, refl, arith, length-append}
use Rattle.kp_vcd.specs.{Words.is_layout, Words.Spot, Words.ended, Words.words_from, inner.Left.left_at}

ended_few : (front bytes : List ℕ) (spots : List Spot) → length (ended front bytes spots) ≤ length bytes + length spots
ended_few front [] spots = omega arith
ended_few front (b ∷ bs) spots = omega arith

pub words_few : (front bytes text : List ℕ) → length (words_from front bytes text) ≤ length bytes + length text
words_few front bytes [] = ended_few front bytes []
words_few front bytes (b ∷ rest) = go (is_layout b) refl (words_few (front ++ (bytes ++ b ∷ [])) [] rest) (words_few front (bytes ++ b ∷ []) rest)
  where
    go : (t : Bool) → is_layout b ≡ t
        → length (words_from (front ++ (bytes ++ b ∷ [])) [] rest) ≤ length {A = ℕ} [] + length rest
        → length (words_from front (bytes ++ b ∷ []) rest) ≤ length (bytes ++ b ∷ []) + length rest
        → length (words_from front bytes (b ∷ rest)) ≤ length bytes + length (b ∷ rest)
    go true is parted joined = rw is (let e = ended_few front bytes (words_from (front ++ (bytes ++ b ∷ [])) [] rest) in omega (arith, e, parted))
    go false is parted joined = rw is (let l = length-append bytes (b ∷ []) in omega (arith, l, joined))

pub left_few : (text : List ℕ) → length (left_at text 0).words ≤ length text
unfolding left_at
left_few text = let h = words_few [] [] text in omega (arith, h)
