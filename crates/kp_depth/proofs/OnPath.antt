-- The wires that are named beside a path.
use Rattle.std.{specs.List.Contains, specs.List.flat_map}
use Rattle.std.proofs.Common.{◌≡◌, ◌∙◌, ◌==◌, ℕ, Bool, true, false, cond, List, [], ◌∷◌, refl, sym, ap, subst, arith, ⊎_elim}
use Rattle.std.proofs.lemmas.Bool.{eqb-true, eq-eqb}
use Rattle.std.proofs.lemmas.List.Elements.{Contains-append_cases, Contains-append_left, Contains-append_right, Contains-push, Contains-push_cases}
use Rattle.kp_wires.specs.declared.wire.Wire.{Wire}
use Rattle.kp_depth.specs.declared.stages.Path.{Path}
use Rattle.kp_depth.specs.Statements.{if_at, named_at, nodes_of, NamesExactly}

-- ---- elements of lists of lists

not_in : {X : Type 0} (x : X) → Contains [] x → ⊥
not_in x (k, l, e) = omega (arith, l)

one_of : {X : Type 0} (y x : X) → Contains (y ∷ []) x → y ≡ x
one_of y x h = ⊎_elim (λ (n : Contains [] x). absurd (not_in x n)) (λ (e : y ≡ x). e) (Contains-push_cases [] y x h)

reaches : {X A : Type 0} (f : X → List A) (xs : List X) (x : X) (a : A) → Contains xs x → Contains (f x) a → Contains (flat_map f xs) a
reaches {X} {A} f [] x a h g = absurd (not_in x h)
reaches {X} {A} f (y ∷ ys) x a h g =
    ⊎_elim
    (λ (l : Contains (y ∷ []) x). Contains-append_left (f y) (flat_map f ys) a (subst (λ (z : X). Contains (f z) a) (sym (one_of y x l)) g))
    (λ (r : Contains ys x). Contains-append_right (f y) (flat_map f ys) a (reaches f ys x a r g))
    (Contains-append_cases (y ∷ []) ys x h)

record From {X A : Type 0} (f : X → List A) (xs : List X) (a : A) : Type 0 where
  x : X
  there : Contains xs x
  from : Contains (f x) a

comes : {X A : Type 0} (f : X → List A) (xs : List X) (a : A) → Contains (flat_map f xs) a → From f xs a
comes {X} {A} f [] a h = absurd (not_in a h)
comes {X} {A} f (y ∷ ys) a h =
    ⊎_elim
    (λ (l : Contains (f y) a). record { x = y; there = Contains-append_left (y ∷ []) ys y (Contains-push [] y); from = l })
    (λ (r : Contains (flat_map f ys) a).
    let g = comes f ys a r in
    record { x = g.x; there = Contains-append_right (y ∷ []) ys g.x g.there; from = g.from })
    (Contains-append_cases (f y) (flat_map f ys) a h)

-- ---- the wires of a node

kept : (b : Bool) (w v : Wire) → Contains (cond b (w ∷ []) []) v → (b ≡ true) × (w ≡ v)
kept true w v h = (refl, one_of w v h)
kept false w v h = absurd (not_in v h)

keeps : (i : ℕ) (w : Wire) → w.node.0 ≡ i → Contains (if_at i w) w
keeps i w e = subst (λ (b : Bool). Contains (cond b (w ∷ []) []) w) (sym (eq-eqb w.node.0 i e)) (Contains-push [] w)

at_node : (wires : List Wire) (i : ℕ) (w : Wire) → Contains (named_at wires i) w → Contains wires w × (w.node.0 ≡ i)
at_node wires i w h =
    let g = comes (if_at i) wires w h in
    let k = kept (g.x.node.0 == i) g.x w g.from in
    (subst (Contains wires) k.1 g.there, ap (λ (v : Wire). v.node.0) (sym k.1) ∙ eqb-true g.x.node.0 i k.0)

pub names_exactly : (wires : List Wire) (p : Path) → NamesExactly wires p
names_exactly wires p = record {
  on_path = λ w h.
      let g = comes (named_at wires) (nodes_of p) w h in
      let a = at_node wires g.x w g.from in
      (a.0, subst (Contains (nodes_of p)) (sym a.1) g.there);
  named = λ w h g. reaches (named_at wires) (nodes_of p) w.node.0 w g (reaches (if_at w.node.0) wires w w h (keeps w.node.0 w refl));
}
