-- Pieces of a text, in order.
use Rattle.std.proofs.Common.{◌≡◌, ℕ, suc, ◌<◌, List, ◌++◌, length, get_or, take, drop, sym, ap, ◌∙◌, drop-cons}
use Rattle.std.{proofs.lemmas.List.take-append-drop, proofs.lemmas.Grind.flat_map-append, specs.Prelude.flat_map}

-- the text before a piece, the piece, and the text after it
pub flat_map_split : {X : Type 0} (f : X → List ℕ) (xs : List X) (i : ℕ) (d : X) → i < length xs → flat_map f xs ≡ flat_map f (take i xs) ++ (f (get_or xs i d) ++ flat_map f (drop (suc i) xs))
flat_map_split f xs i d within =
    sym (ap (flat_map f) (take-append-drop i xs)) ∙ flat_map-append f (take i xs) (drop i xs) ∙ ap (λ ys. flat_map f (take i xs) ++ flat_map f ys) (drop-cons xs i d within)
