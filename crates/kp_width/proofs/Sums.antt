-- The steps of a sum of widths.
use Rattle.std.proofs.Common.{◌≡◌, ◌∙◌, ℕ, ◌+◌, ◌<◌, length, get_or, drop, List, ◌∷◌, Ok, map, min, ap, sym}
use Rattle.std.proofs.lemmas.List.{drop_more}
use Rattle.kp_base.specs.Check.{bind}
use Rattle.kp_ast.specs.declared.tree.Expr.{Expr}
use Rattle.kp_width.specs.Expressions.{Part, sum_of}

pub sum_turn : (f : Expr → Part) (es : List Expr) (i : ℕ) (e : Expr) (sum w : ℕ) → i < length es → e ≡ get_or es i e → (f e).width.found ≡ Ok w
    → (sum_of sum (map f (drop i es))).found ≡ (sum_of (min (sum + w) 65) (map f (drop (i + 1) es))).found
sum_turn f es i e sum w h is found =
    ap (λ xs. (sum_of sum (map f xs)).found) (drop_more es i e h)
    ∙ ap (λ x. (sum_of sum (map f (x ∷ drop (i + 1) es))).found) (sym is)
    ∙ ap (λ r. bind r (λ w. (sum_of (min (sum + w) 65) (map f (drop (i + 1) es))).found)) found
