-- Names and entries by their indices.
use Rattle.std.proofs.Common.{◌≡◌, ◌∙◌, ℕ, zero, suc, ◌<◌, ◌≤◌, Bool, true, false, cond, List, [], ◌∷◌, take, length, get_or, map, refl, ap, sym, subst, arith}
use Rattle.std.proofs.lemmas.{Bool.eq-eqb, Bool.or_parts, List.length-take-le, List.Filters.length-filter_both}
use Rattle.std.specs.{List.filter, Prelude.not}
use Rattle.kp_machine.{specs.Slots.Slot, specs.Slots.is_register, specs.Machine.files_before, proofs.Cases.by_test}
use Rattle.kp_net.specs.Names.{same, among, Differ}
use Rattle.kp_implements.specs.Naming.{place_among}

-- an entry that passes a test has an index among those that pass
pub record PassesAt {X : Type 0} (p : X → Bool) (xs : List X) (t : ℕ) (d : X) : Type 0 where
  pub few : length (filter p (take t xs)) < length (filter p xs)
  pub here : get_or (filter p xs) (length (filter p (take t xs))) d ≡ get_or xs t d

passes_first : {X : Type 0} (p : X → Bool) (x : X) (xs : List X) (d : X) → p x ≡ true → PassesAt p (x ∷ xs) 0 d
passes_first p x xs d e = record {
  few = rw e (omega arith);
  here = rw e refl;
}

passes_behind : {X : Type 0} (p : X → Bool) (x : X) (xs : List X) (t : ℕ) (d : X) → PassesAt p xs t d → PassesAt p (x ∷ xs) (suc t) d
passes_behind p x xs t d h = by_test (p x)
    (λ b. let f = h.few in record { few = rw b (omega (arith, f)); here = rw b h.here })
    (λ b. record { few = rw b h.few; here = rw b h.here })

pub passes_at : {X : Type 0} (p : X → Bool) (xs : List X) (t : ℕ) (d : X) → t < length xs → p (get_or xs t d) ≡ true → PassesAt p xs t d
passes_at p [] t d l e = absurd (omega arith)
passes_at p (x ∷ xs) zero d l e = passes_first p x xs d e
passes_at p (x ∷ xs) (suc t) d l e = passes_behind p x xs t d (passes_at p xs t d (omega arith) e)

-- and each of those that pass is such an entry
pub record ComesFrom {X : Type 0} (p : X → Bool) (xs : List X) (i : ℕ) (d : X) : Type 0 where
  pub at : ℕ
  pub there : at < length xs
  pub passes : p (get_or xs at d) ≡ true
  pub is : get_or (filter p xs) i d ≡ get_or xs at d
  pub before : length (filter p (take at xs)) ≡ i

later : {X : Type 0} (p : X → Bool) (x : X) (xs : List X) (i j : ℕ) (d : X) (h : ComesFrom p xs i d)
    → get_or (filter p (x ∷ xs)) j d ≡ get_or (filter p xs) i d → length (filter p (x ∷ take h.at xs)) ≡ j → ComesFrom p (x ∷ xs) j d
later p x xs i j d h e b = let l = h.there in record { at = suc h.at; there = omega (arith, l); passes = h.passes; is = e ∙ h.is; before = b }

from_first : {X : Type 0} (p : X → Bool) (x : X) (xs : List X) (i : ℕ) (d : X) → p x ≡ true → i < suc (length (filter p xs))
    → ((k : ℕ) → k < length (filter p xs) → ComesFrom p xs k d) → ComesFrom p (x ∷ xs) i d
from_first p x xs zero d b l more = record { at = 0; there = omega arith; passes = b; is = rw b refl; before = refl }
from_first p x xs (suc i) d b l more = let h = more i (omega (arith, l)) in later p x xs i (suc i) d h (rw b refl) (rw b (ap suc h.before))

pub comes_from : {X : Type 0} (p : X → Bool) (xs : List X) (i : ℕ) (d : X) → i < length (filter p xs) → ComesFrom p xs i d
comes_from p [] i d l = absurd (omega (arith, l))
comes_from p (x ∷ xs) i d l = by_test (p x)
    (λ b. from_first p x xs i d b (subst (λ (y : Bool). i < length (cond y (x ∷ filter p xs) (filter p xs))) b l) (λ k h. comes_from p xs k d h))
    (λ b. let h = comes_from p xs i d (subst (λ (y : Bool). i < length (cond y (x ∷ filter p xs) (filter p xs))) b l) in later p x xs i i d h (rw b refl) (rw b h.before))

-- distinct names by their indices
same_refl : (n : List ℕ) → same n n ≡ true
same_refl [] = refl
same_refl (x ∷ xs) = rw (eq-eqb x x refl) (same_refl xs)

apart_at : (ns : List (List ℕ)) (n : List ℕ) (i : ℕ) → among ns n ≡ false → i < length ns → same n (get_or ns i []) ≡ false
apart_at [] n i h l = absurd (omega arith)
apart_at (k ∷ ks) n zero h l = (or_parts (same n k) (among ks n) h).0
apart_at (k ∷ ks) n (suc i) h l = apart_at ks n i (or_parts (same n k) (among ks n) h).1 (omega arith)

pub stands_at : (ns : List (List ℕ)) (i : ℕ) → Differ ns → i < length ns → place_among ns (get_or ns i []) ≡ i
stands_at [] i h l = absurd (omega arith)
stands_at (n ∷ ns) zero h l = rw (same_refl n) refl
stands_at (n ∷ ns) (suc i) h l = rw (apart_at ns n i h.0 (omega arith)) (ap suc (stands_at ns i h.1 (omega arith)))

-- what is known of the first entries of a list is known at their indices
inside : {X Y : Type 0} (f : X → Y) (xs : List X) (m i : ℕ) (d : X) (e : Y) → i < length (map f (take m xs)) → (i < length xs) × (f (get_or xs i d) ≡ get_or (map f (take m xs)) i e)
inside f [] zero i d e l = absurd (omega (arith, l))
inside f [] (suc m) i d e l = absurd (omega (arith, l))
inside f (x ∷ xs) zero i d e l = absurd (omega (arith, l))
inside f (x ∷ xs) (suc m) zero d e l = (omega arith, refl)
inside f (x ∷ xs) (suc m) (suc i) d e l = let r = inside f xs m i d e (omega (arith, l)) in let z = r.0 in (omega (arith, z), r.1)

pub first_at : {X Y : Type 0} (f : X → Y) (xs : List X) (ys : List Y) (m i : ℕ) (d : X) (e : Y) → map f (take m xs) ≡ ys → i < length ys
    → (i < length xs) × (f (get_or xs i d) ≡ get_or ys i e)
first_at f xs ys m i d e h l =
    let n : i < length (map f (take m xs)) = subst (λ (z : List _). i < length z) (sym h) l in
    let r = inside f xs m i d e n in
    (r.0, r.1 ∙ ap (λ z. get_or z i e) h)

-- a file has its number among the files
pub file_number : (ss : List Slot) (t : ℕ) → t ≤ length ss → files_before ss t ≡ length (filter (λ (s : Slot). not (is_register s)) (take t ss))
file_number ss t l =
    let a = length-filter_both is_register (λ (s : Slot). not (is_register s)) (λ x. refl) (take t ss) in
    let b = length-take-le t ss l in
    omega (arith, a, b)
