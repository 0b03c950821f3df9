-- The sizes of the bodies of functions, one declaration after another.
use Rattle.std.proofs.Common.{◌≡◌, ◌∙◌, ℕ, ◌+◌, ◌<◌, zero, suc, min, Bool, true, false, cond, List, [], ◌∷◌, ◌++◌, length, take, get_or, fold, refl, ap, sym, arith}
use Rattle.std.proofs.lemmas.List.{take_more, Sums.fold-append}
use Rattle.kp_ast.specs.{declared.tree.Decl.Decl, Expressions.is_function}
use Rattle.kp_ast.specs.Size.{Bodies, body_size_of, bodies_after, bodies_of, no_bodies, capped_from, capped_bodies}

length-from : (known : Bodies) (ds : List Decl) → length (capped_from known ds) ≡ length ds
length-from known [] = refl
length-from known (d ∷ ds) = ap (λ n. suc n) (length-from (bodies_after known d) ds)

pub length-capped_bodies : (ds : List Decl) → length (capped_bodies ds) ≡ length ds
length-capped_bodies ds = length-from no_bodies ds

from_push : (known : Bodies) (ds : List Decl) (d : Decl) → capped_from known (ds ++ d ∷ []) ≡ capped_from known ds ++ min (body_size_of (fold bodies_after known ds) d) 100001 ∷ []
from_push known [] d = refl
from_push known (x ∷ ds) d = ap (λ ns. min (body_size_of known x) 100001 ∷ ns) (from_push (bodies_after known x) ds d)

get_or-from : (known : Bodies) (ds : List Decl) (i : ℕ) (d : Decl) → i < length ds →
    get_or (capped_from known ds) i 0 ≡ min (body_size_of (fold bodies_after known (take i ds)) (get_or ds i d)) 100001
get_or-from known [] i d h = absurd (omega arith)
get_or-from known (x ∷ ds) zero d h = refl
get_or-from known (x ∷ ds) (suc i) d h = get_or-from (bodies_after known x) ds i d (omega arith)

module _ (ds : List Decl) (i : ℕ) (d : Decl) (h : i < length ds) (read : d ≡ get_or ds i d) where
  split : take (i + 1) ds ≡ take i ds ++ d ∷ []
  split = take_more ds i d h ∙ ap (λ x. take i ds ++ x ∷ []) (sym read)

  -- the table grows by the size of the next body
  pub capped_more : capped_bodies (take (i + 1) ds) ≡ capped_bodies (take i ds) ++ min (body_size_of (bodies_of (take i ds)) d) 100001 ∷ []
  capped_more = ap capped_bodies split ∙ from_push no_bodies (take i ds) d

  -- what is known grows by the next body
  pub bodies_more : bodies_of (take (i + 1) ds) ≡ bodies_after (bodies_of (take i ds)) d
  bodies_more = ap bodies_of split ∙ fold-append bodies_after no_bodies (take i ds) (d ∷ [])

  -- and is in the table
  pub capped_at : get_or (capped_bodies ds) i 0 ≡ min (body_size_of (bodies_of (take i ds)) d) 100001
  capped_at = get_or-from no_bodies ds i d h ∙ ap (λ x. min (body_size_of (bodies_of (take i ds)) x) 100001) (sym read)

  module _ (name : List ℕ) where
    here : (b : Bool) (x y : ℕ) → b ≡ true → min (cond b x y) 100001 ≡ min x 100001
    here b x y e = ap (λ t. min (cond t x y) 100001) e

    past : (b : Bool) (x y : ℕ) → b ≡ false → min (cond b x y) 100001 ≡ min y 100001
    past b x y e = ap (λ t. min (cond t x y) 100001) e

    -- a function of the name is the last so far
    pub found_here : is_function name d ≡ true → get_or (capped_bodies ds) i 0 ≡ min (bodies_of (take (i + 1) ds) name) 100001
    found_here e = capped_at ∙ sym (ap (λ (b : Bodies). min (b name) 100001) bodies_more ∙ here (is_function name d) _ _ e)

    -- and anything else changes nothing
    pub found_before : is_function name d ≡ false → min (bodies_of (take i ds) name) 100001 ≡ min (bodies_of (take (i + 1) ds) name) 100001
    found_before e = sym (ap (λ (b : Bodies). min (b name) 100001) bodies_more ∙ past (is_function name d) _ _ e)
