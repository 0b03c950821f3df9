-- The first of the positions in two lists, and in the blocks in order.
use Rattle.std.proofs.Common.{◌≡◌, ◌∙◌, ℕ, ◌+◌, ◌<◌, List, [], ◌∷◌, ◌++◌, Option, Some, length, get_or, drop, refl, ap, sym}
use Rattle.std.proofs.lemmas.List.{drop_more}
use Rattle.kp_base.specs.declared.place.Place.{Place}
use Rattle.kp_ast.specs.declared.tree.Block.{Block}
use Rattle.kp_timing.specs.Unfit.{earlier, first_of, guesses_in, guesses_at}

pub first_both : (found : Option Place) (xs ys : List Place) → first_of found (xs ++ ys) ≡ first_of (first_of found xs) ys
first_both found [] ys = refl
first_both found (x ∷ xs) ys = first_both (Some (earlier found x)) xs ys

pub guesses_next : (found : Option Place) (bs : List Block) (i : ℕ) (b : Block) → i < length bs → b ≡ get_or bs i b
    → first_of (first_of found (guesses_in b.stmts)) (guesses_at (drop (i + 1) bs)) ≡ first_of found (guesses_at (drop i bs))
guesses_next found bs i b h is =
    sym (first_both found (guesses_in b.stmts) (guesses_at (drop (i + 1) bs)))
    ∙ sym (ap (λ (l : List Block). first_of found (guesses_at l)) (drop_more bs i b h ∙ ap (λ (y : Block). y ∷ drop (i + 1) bs) (sym is)))
