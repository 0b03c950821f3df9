-- The instructions in flight after a cycle: those that stay are moved to the front of the same list.
use Rattle.std.proofs.Common.{◌≡◌, ◌∙◌, ℕ, ◌+◌, ◌<◌, List, [], ◌∷◌, ◌++◌, map, get_or, length, take, Option, Some, None, refl, ap, sym}
use Rattle.std.proofs.lemmas.List.{map-append, take_more}
use Rattle.kp_pipeline.specs.Rows.{Row}
use Rattle.kp_diagram.specs.{Diagram.next_place, Flights.Placed, Flights.kept, Flights.moved}
use Rattle.kp_diagram_text.specs.Windows.{placed_seen}
use Rattle.kp_diagram_text.specs.declared.window.Placed as code
use Rattle.kp_diagram_run.specs.inner.Walks.{no_placed}

kept-append : (number : ℕ) (place : Option ℕ) (xs ys : List Placed) → kept number place (xs ++ ys) ≡ kept number place xs ++ ys
kept-append number None xs ys = refl
kept-append number (Some k) xs ys = refl

moved-append : (n : ℕ) (r : Row) (xs ys : List Placed) → moved n r (xs ++ ys) ≡ moved n r xs ++ moved n r ys
moved-append n r [] ys = refl
moved-append n r (p ∷ xs) ys =
    ap (kept p.number (next_place n r p.stage)) (moved-append n r xs ys) ∙ kept-append p.number (next_place n r p.stage) (moved n r xs) (moved n r ys)

-- one instruction more
pub one-moved : (n : ℕ) (r : Row) (old : List code.Placed) (i : ℕ) (x : code.Placed) → i < length old → x ≡ get_or old i no_placed
    → moved n r (map placed_seen (take (i + 1) old)) ≡ moved n r (map placed_seen (take i old)) ++ kept x.number (next_place n r x.stage) []
one-moved n r old i x inside here =
    ap (λ (ps : List code.Placed). moved n r (map placed_seen ps)) (take_more old i no_placed inside)
    ∙ ap (moved n r) (map-append placed_seen (take i old) (get_or old i no_placed ∷ []))
    ∙ moved-append n r (map placed_seen (take i old)) (placed_seen (get_or old i no_placed) ∷ [])
    ∙ ap (λ (p : code.Placed). moved n r (map placed_seen (take i old)) ++ kept p.number (next_place n r p.stage) []) (sym here)
