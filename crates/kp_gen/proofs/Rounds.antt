-- One more item that is built for a register, or for a stage.
use Rattle.std.proofs.Common.{◌-◌, false, map, arith, cond, ◌≡◌, ◌∙◌, ℕ, ◌+◌, ◌≤◌, ◌<◌, List, [], ◌∷◌, ◌++◌, length, get_or, drop, ap, sym, refl, append_assoc}
use Rattle.std.proofs.lemmas.{List.at_drop_more, List.at_drop_all, List.append-nil, List.FromFn.map-range_with_len_more, Bool.eq-eqb}
use Rattle.std.specs.{Prelude.◌==◌, List.range_with_len}
use Rattle.kp_ast.specs.declared.tree.Stmt.{Stmt}
use Rattle.kp_gen.specs.{declared.draws.Route.Route, Generated.for_each, Generated.sets_from, Generated.set}

pub each_more : {X : Type 0} (make : ℕ → Route → X) (made : List X) (rs : List Route) (i : ℕ) (r : Route) → i < length rs → r ≡ get_or rs i r
    → (made ++ make i r ∷ []) ++ for_each make (i + 1) (drop (i + 1) rs) ≡ made ++ for_each make i (drop i rs)
each_more make made rs i r h e =
    append_assoc made (make i r ∷ []) (for_each make (i + 1) (drop (i + 1) rs)) ∙ ap (λ l. made ++ l) (ap (λ x. for_each make i (x ∷ drop (i + 1) rs)) e ∙ sym (at_drop_more (for_each make i) rs i r h))

-- an arbitrary choice, where it doesn't matter
no_route : Route
no_route = record { write = 0; set = 0; other = 0 }

pub each_plain : {X : Type 0} (make : ℕ → X) (made : List X) (rs : List Route) (i : ℕ) → i < length rs
    → (made ++ make i ∷ []) ++ for_each (λ i r. make i) (i + 1) (drop (i + 1) rs) ≡ made ++ for_each (λ i r. make i) i (drop i rs)
each_plain make made rs i h =
    append_assoc made (make i ∷ []) (for_each (λ i r. make i) (i + 1) (drop (i + 1) rs)) ∙ ap (λ l. made ++ l) (sym (at_drop_more (for_each (λ i r. make i) i) rs i no_route h))

pub each_all : {X : Type 0} (make : ℕ → Route → X) (made : List X) (rs : List Route) (i : ℕ) → length rs ≤ i → made ++ for_each make i (drop i rs) ≡ made
each_all make made rs i h = ap (λ l. made ++ l) (at_drop_all (for_each make i) rs i h) ∙ append-nil made

-- a result that stage k sets, and one that it doesn't
pub sets_more : (k : ℕ) (made : List Stmt) (rs : List Route) (i : ℕ) (r : Route) → i < length rs → r ≡ get_or rs i r → r.set ≡ k
    → (made ++ set i r ∷ []) ++ sets_from k (i + 1) (drop (i + 1) rs) ≡ made ++ sets_from k i (drop i rs)
sets_more k made rs i r h e s =
    let here : cond (r.set == k) (set i r ∷ sets_from k (i + 1) (drop (i + 1) rs)) (sets_from k (i + 1) (drop (i + 1) rs)) ≡ set i r ∷ sets_from k (i + 1) (drop (i + 1) rs) = rw (eq-eqb r.set k s) refl in
    append_assoc made (set i r ∷ []) (sets_from k (i + 1) (drop (i + 1) rs))
    ∙ ap (λ l. made ++ l) (sym here ∙ ap (λ x. sets_from k i (x ∷ drop (i + 1) rs)) e ∙ sym (at_drop_more (sets_from k i) rs i r h))

pub sets_past : (k : ℕ) (made : List Stmt) (rs : List Route) (i : ℕ) (r : Route) → i < length rs → r ≡ get_or rs i r → (r.set == k) ≡ false
    → made ++ sets_from k (i + 1) (drop (i + 1) rs) ≡ made ++ sets_from k i (drop i rs)
sets_past k made rs i r h e s =
    let here : cond (r.set == k) (set i r ∷ sets_from k (i + 1) (drop (i + 1) rs)) (sets_from k (i + 1) (drop (i + 1) rs)) ≡ sets_from k (i + 1) (drop (i + 1) rs) = rw s refl in
    ap (λ l. made ++ l) (sym here ∙ ap (λ x. sets_from k i (x ∷ drop (i + 1) rs)) e ∙ sym (at_drop_more (sets_from k i) rs i r h))

pub sets_all : (k : ℕ) (made : List Stmt) (rs : List Route) (i : ℕ) → length rs ≤ i → made ++ sets_from k i (drop i rs) ≡ made
sets_all k made rs i h = ap (λ l. made ++ l) (at_drop_all (sets_from k i) rs i h) ∙ append-nil made

-- one more stage
pub blocks_more : {X : Type 0} (make : ℕ → X) (k : ℕ) → 1 ≤ k → map make (range_with_len 1 ((k + 1) - 1)) ≡ map make (range_with_len 1 (k - 1)) ++ make k ∷ []
blocks_more make k h =
    let e : (k + 1) - 1 ≡ (k - 1) + 1 = omega arith in
    rw e (map-range_with_len_more make 1 (k - 1) k (omega arith))
