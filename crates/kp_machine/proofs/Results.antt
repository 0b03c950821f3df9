-- The result of a target is the one that names it: its write stage is that of the target.
use Rattle.std.proofs.Common.{◌≡◌, ◌∙◌, ℕ, zero, suc, ◌+◌, min, List, [], ◌∷◌, map, Option, Some, None, Bool, true, false, cond, eqb, refl, ap, sym, subst, arith, ⊎_elim}
use Rattle.std.proofs.lemmas.Bool.{eqb-true, eq-eqb, both_ways, false_from_ne_true, cond-true, cond-false, cases_lt}
use Rattle.std.specs.Prelude.{slice_get}
use Rattle.kp_base.specs.First.{first}
use Rattle.kp_ast.specs.{Expressions.is_same_name, declared.tree.ResultDecl.ResultDecl, declared.tree.Decl.Decl}
use Rattle.kp_ast.specs.declared.tree.Decl.TheVariants as decls
use Rattle.kp_stage.specs.{Facts.results_of, Facts.stage_at, Facts.write_at, Facts.less, Facts.least, Facts.written_of, Rules.holds_of}
use Rattle.kp_machine.{specs.Slots.Slot, specs.Slots.number_of, specs.Slots.result_named, specs.Slots.result_to, proofs.Cases.by_test}
use Rattle.kp_machine.proofs.Names.{IsIn, same_name, is_same, number_determines}

-- a result is among the declarations
pub record Stands (ds : List Decl) (r : ResultDecl) : Type 0 where
  pub index : ℕ
  pub there : slice_get ds index ≡ Some (decls.Target r)

one_later : (d : Decl) (ds : List Decl) (r : ResultDecl) → Stands ds r → Stands (d ∷ ds) r
one_later d ds r s = record { index = suc s.index; there = s.there }

some_of : {X G : Type 0} (b : Bool) (x y : X) (o : Option X) → (b ≡ true → x ≡ y → G) → (b ≡ false → o ≡ Some y → G) → cond b (Some x) o ≡ Some y → G
some_of true x y o here later e = here refl cc
some_of false x y o here later e = later refl e

-- The first result of a name is among them, and the name's write stage is its own.
pub named_stands : (ds : List Decl) (name : List ℕ) (r : ResultDecl) → result_named ds name ≡ Some r → Stands ds r × (first (map (stage_at name) ds) ≡ Some r.stage.value)
named_stands [] name r e = cc
named_stands (decls.Target q ∷ ds) name r e =
    some_of (is_same_name name q.name.name) q r (result_named ds name)
    (λ y same. (
      record { index = 0; there = ap (λ x. Some (decls.Target x)) same },
      ap (λ b. first (cond b (Some q.stage.value) None ∷ map (stage_at name) ds)) y ∙ ap (λ (x : ResultDecl). Some x.stage.value) same,
    ))
    (λ n o. let more = named_stands ds name r o in (
      one_later (decls.Target q) ds r more.0,
      ap (λ b. first (cond b (Some q.stage.value) None ∷ map (stage_at name) ds)) n ∙ more.1,
    ))
    e
named_stands (d ∷ ds) name r e = let more = named_stands ds name r e in (one_later d ds r more.0, more.1)

-- the least of some numbers is at most each of them, and one of them
least_at : (os : List (Option ℕ)) (j v : ℕ) → slice_get os j ≡ Some (Some v) → (w : ℕ) × (least os ≡ Some w)
least_at [] j v at = cc
least_at (None ∷ os) zero v at = cc
least_at (Some u ∷ os) zero v at = elim (least os) as (λ o. (w : ℕ) × (less (Some u) o ≡ Some w)) [ None ↦ (u, refl) | Some x ↦ (min u x, refl) ]
least_at (None ∷ os) (suc j) v at = least_at os j v at
least_at (Some u ∷ os) (suc j) v at = elim (least os) as (λ o. (w : ℕ) × (less (Some u) o ≡ Some w)) [ None ↦ (u, refl) | Some x ↦ (min u x, refl) ]

min_is : {G : Type 0} (a b w : ℕ) → (a ≡ w → G) → (b ≡ w → G) → min a b ≡ w → G
min_is a b w left right e = ⊎_elim (λ p. left (omega arith)) (λ p. right (omega arith)) (cases_lt a b)

less_is : {G : Type 0} (u w : ℕ) (o : Option ℕ) → less (Some u) o ≡ Some w → (u ≡ w → G) → (o ≡ Some w → G) → G
less_is u w None e left right = left cc
less_is u w (Some v) e left right = let p : min u v ≡ w = cc in min_is u v w left (λ q. right (ap Some q)) p

least_is_there : (os : List (Option ℕ)) (w : ℕ) → least os ≡ Some w → (j : ℕ) × (slice_get os j ≡ Some (Some w))
least_is_there [] w e = cc
least_is_there (None ∷ os) w e = let r = least_is_there os w e in (suc r.0, r.1)
least_is_there (Some u ∷ os) w e =
    less_is u w (least os) e (λ p. (0, ap (λ x. Some (Some x)) p)) (λ p. let r = least_is_there os w p in (suc r.0, r.1))

written_at : (name : List ℕ) (d : Decl) (w : ℕ) → write_at name d ≡ Some w → (r : ResultDecl) × ((d ≡ decls.Target r) × ((r.target.name ≡ name) × (r.stage.value ≡ w)))
written_at name (decls.Target r) w e =
    some_of (is_same_name name r.target.name) r.stage.value w None (λ y v. (r, (refl, (sym (same_name name r.target.name y), v)))) (λ n no. cc) e
written_at name d w e = cc

from_map : {X Y : Type 0} (f : X → Y) (xs : List X) (n : ℕ) (y : Y) → slice_get (map f xs) n ≡ Some y → (x : X) × ((slice_get xs n ≡ Some x) × (f x ≡ y))
from_map f [] n y e = cc
from_map f (x ∷ xs) zero y e = (x, (refl, cc))
from_map f (x ∷ xs) (suc n) y e = from_map f xs n y e

to_map : {X Y : Type 0} (f : X → Y) (xs : List X) (n : ℕ) (x : X) → slice_get xs n ≡ Some x → slice_get (map f xs) n ≡ Some (f x)
to_map f [] n x e = cc
to_map f (y ∷ ys) zero x e = let p : y ≡ x = cc in ap (λ z. Some (f z)) p
to_map f (y ∷ ys) (suc n) x e = to_map f ys n x e

-- a target that a result names is written
pub written_where : (ds : List Decl) (name : List ℕ) (r : ResultDecl) → Stands ds r → r.target.name ≡ name → (w : ℕ) × (written_of ds name ≡ Some w)
written_where ds name r s e =
    let at = to_map (write_at name) ds s.index (decls.Target r) s.there in
    let here : write_at name (decls.Target r) ≡ Some r.stage.value =
    ap (λ b. cond b (Some r.stage.value) None) (is_same name r.target.name (sym e)) in
    least_at (map (write_at name) ds) s.index r.stage.value (at ∙ ap Some here)

-- and a target that is written at a stage is named by a result of that write stage
pub written_by : (ds : List Decl) (name : List ℕ) (w : ℕ) → written_of ds name ≡ Some w → (r : ResultDecl) × (Stands ds r × ((r.target.name ≡ name) × (r.stage.value ≡ w)))
written_by ds name w e =
    let some = least_is_there (map (write_at name) ds) w e in
    let from = from_map (write_at name) ds some.0 (Some w) some.1 in
    let r = written_at name from.0 w from.1.1 in
    (r.0, (record { index = some.0; there = from.1.0 ∙ ap Some r.1.0 }, r.1.1))

module _ (targets : List Slot) where
  -- the first result of a number is among them, and its target has the number
  pub to_stands : (ds : List Decl) (t : ℕ) (r : ResultDecl) → result_to targets ds t ≡ Some r → Stands ds r × (number_of targets r.target.name ≡ t)
  to_stands [] t r e = cc
  to_stands (decls.Target q ∷ ds) t r e =
      some_of (eqb (number_of targets q.target.name) t) q r (result_to targets ds t)
      (λ y same. (
        record { index = 0; there = ap (λ x. Some (decls.Target x)) same },
        ap (λ (x : ResultDecl). number_of targets x.target.name) (sym same) ∙ eqb-true (number_of targets q.target.name) t y,
      ))
      (λ n o. let more = to_stands ds t r o in (one_later (decls.Target q) ds r more.0, more.1))
      e
  to_stands (d ∷ ds) t r e = let more = to_stands ds t r e in (one_later d ds r more.0, more.1)

  abbrev to : List Decl → ResultDecl → Option ResultDecl
  to ds r = result_to targets ds (number_of targets r.target.name)

  abbrev IsFirst : List Decl → ℕ → ℕ → List ℕ → Type 0
  IsFirst ds i n name = holds_of (λ x. eqb x n) (first (results_of name i ds)) ≡ true

  here_first : (q : ResultDecl) (ds : List Decl) → to (decls.Target q ∷ ds) q ≡ Some q
  here_first q ds = cond-true (eqb (number_of targets q.target.name) (number_of targets q.target.name)) (Some q) (to ds q) (eq-eqb _ _ refl)

  past_first : (q r : ResultDecl) (ds : List Decl) → IsIn targets r.target.name → is_same_name r.target.name q.target.name ≡ false → to (decls.Target q ∷ ds) r ≡ to ds r
  past_first q r ds h n =
      cond-false (eqb (number_of targets q.target.name) (number_of targets r.target.name)) (Some q) (to ds r)
      (false_from_ne_true _ (λ y.
      let same : r.target.name ≡ q.target.name =
      number_determines targets r.target.name q.target.name h (sym (eqb-true (number_of targets q.target.name) (number_of targets r.target.name) y)) in
      both_ways _ n (is_same r.target.name q.target.name same)))

  -- A result that is the first of its target is the result of its target's number.
  pub first_result : (ds : List Decl) (i j : ℕ) (r : ResultDecl) → IsIn targets r.target.name → slice_get ds j ≡ Some (decls.Target r)
      → IsFirst ds i (i + j) r.target.name → to ds r ≡ Some r
  first_result [] i j r h at e = cc
  first_result (decls.Target q ∷ ds) i zero r h at e = let p : q ≡ r = cc in subst (λ x. to (decls.Target q ∷ ds) x ≡ Some x) p (here_first q ds)
  first_result (decls.Target q ∷ ds) i (suc j) r h at e =
      by_test (is_same_name r.target.name q.target.name)
      (λ y.
      let p : eqb i (i + suc j) ≡ true = subst (λ b. holds_of (λ x. eqb x (i + suc j)) (first (cond b (Some i) None ∷ results_of r.target.name (i + 1) ds)) ≡ true) y e in
      let s : i ≡ i + suc j = eqb-true i (i + suc j) p in
      absurd (omega arith))
      (λ n.
      let p : IsFirst ds (i + 1) (i + suc j) r.target.name =
      subst (λ b. holds_of (λ x. eqb x (i + suc j)) (first (cond b (Some i) None ∷ results_of r.target.name (i + 1) ds)) ≡ true) n e in
      let z : i + suc j ≡ (i + 1) + j = omega arith in
      past_first q r ds h n ∙ first_result ds (i + 1) j r h at (subst (λ m. IsFirst ds (i + 1) m r.target.name) z p))
  first_result (d ∷ ds) i zero r h at e = cc
  first_result (d ∷ ds) i (suc j) r h at e =
      let z : i + suc j ≡ (i + 1) + j = omega arith in
      first_result ds (i + 1) j r h at (subst (λ m. IsFirst ds (i + 1) m r.target.name) z e)
