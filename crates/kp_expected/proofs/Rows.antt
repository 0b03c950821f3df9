-- The alternative of a name for a class, and answers for a list of classes.
use Rattle.std.proofs.Common.{ℕ, ◌≡◌, ◌≢◌, ◌<◌, ◌≤◌, ◌+◌, List, [], ◌∷◌, ◌++◌, map, reverse, Bool, true, false, cond, Option, Some, None, refl, sym, ap, ◌∙◌, subst, length, drop, get_or, arith, Bor, set, inl, inr}
use Rattle.std.specs.Prelude.{◌↔◌, slice_get, option_map, MatchOption}
use Rattle.std.proofs.lemmas.{Bool.cases_lt, List.drop_more, List.drop_all, List.length-set, List.get_or-set_same, List.get_or-set_other, List.map-append, List.reverse-append, List.reverse-reverse}
use Rattle.std.proofs.lemmas.Option.{get_or_from_slice_get, slice_get-get_or, slice_get_within}
use Rattle.kp_grammar.specs.{Grammar.alternatives, Tables.Tables, Tables.choose, Tables.pick}
use Rattle.kp_expected.specs.{Plain.Plain, Plain.PlainRules, Plain.plain_symbol, Plain.stack, Starts.starts, declared.class.Symbol.Symbol as CodeSymbol}
use Rattle.kp_expected.proofs.Starts.{firsts_start}

-- the first alternative that begins with the class, else the last one, or d where there is none
abbrev pub choose_or : Tables → Option (List Plain) → ℕ → List (List Plain) → Option (List Plain)
choose_or t d c [] = d
choose_or t d c (b ∷ bs) = cond (starts t b c) (Some b) (choose_or t (Some b) c bs)

same_either : (x : Bool) (b : List Plain) → Some b ≡ cond x (Some b) (Some b)
same_either true b = refl
same_either false b = refl

pub chosen : (t : Tables) (c : ℕ) (bs : List (List Plain)) → choose t c bs ≡ choose_or t None c bs
chosen t c [] = refl
chosen t c (b ∷ []) = same_either (starts t b c) b
chosen t c (b ∷ e ∷ bs) =
    ap (λ (x : Bool). cond x (Some b) (choose t c (e ∷ bs))) (firsts_start t b c) ∙ ap (cond (starts t b c) (Some b)) (chosen t c (e ∷ bs))

module _ {C P : Type 0} (number : C → ℕ) (name : P → ℕ) where
  -- the alternatives of the code
  abbrev pub seen : List (Bor (List (CodeSymbol C P))) → List (List Plain)
  seen all = map (λ a. map (plain_symbol number name) a.now) all

  abbrev pub seen_one : Option (Bor (List (CodeSymbol C P))) → Option (List Plain)
  seen_one o = option_map (λ b. map (plain_symbol number name) b.now) o

  seen_more : (all : List (Bor (List (CodeSymbol C P)))) (i : ℕ) (d : Bor (List (CodeSymbol C P))) → i < length all
      → seen (drop i all) ≡ map (plain_symbol number name) (get_or all i d).now ∷ seen (drop (i + 1) all)
  seen_more all i d h = ap seen (drop_more all i d h)

  module _ (t : Tables) (c : ℕ) (all : List (Bor (List (CodeSymbol C P)))) (i : ℕ) (d : Bor (List (CodeSymbol C P))) (o : Option (List Plain)) (w : Option (List Plain)) (within : i < length all) where
    -- This alternative begins with the class,
    pub picked_now : choose_or t o c (seen (drop i all)) ≡ w → starts t (map (plain_symbol number name) (get_or all i d).now) c ≡ true → Some (map (plain_symbol number name) (get_or all i d).now) ≡ w
    picked_now before yes' = rw yes' at (sym (ap (choose_or t o c) (seen_more all i d within)) ∙ before)

    -- or it doesn't.
    pub passed : choose_or t o c (seen (drop i all)) ≡ w → starts t (map (plain_symbol number name) (get_or all i d).now) c ≡ false
        → choose_or t (Some (map (plain_symbol number name) (get_or all i d).now)) c (seen (drop (i + 1) all)) ≡ w
    passed before no' = rw no' at (sym (ap (choose_or t o c) (seen_more all i d within)) ∙ before)

  -- All alternatives have been read.
  pub picked_last : (t : Tables) (c : ℕ) (all : List (Bor (List (CodeSymbol C P)))) (i : ℕ) (o w : Option (List Plain)) → length all ≤ i → choose_or t o c (seen (drop i all)) ≡ w → o ≡ w
  picked_last t c all i o w h before = rw (drop_all i all h) at before

  -- The alternative that is chosen is that of the rules.
  is_pick : (rules : PlainRules) (t : Tables) (n c : ℕ) (all : List (Bor (List (CodeSymbol C P)))) (o : Option (List Plain)) → seen all ≡ alternatives rules n → o ≡ choose_or t None c (seen all) → o ≡ pick rules t n c
  is_pick rules t n c all o same e = e ∙ (ap (choose_or t None c) same ∙ sym (chosen t c (alternatives rules n)))

  pub chosen_now : (rules : PlainRules) (t : Tables) (n c : ℕ) (all : List (Bor (List (CodeSymbol C P)))) (i : ℕ) (item : Bor (List (CodeSymbol C P))) (o : Option (List Plain)) (is : Bool) → i < length all → get_or all i item ≡ item
      → choose_or t o c (seen (drop i all)) ≡ choose_or t None c (seen all) → seen all ≡ alternatives rules n → is ≡ starts t (map (plain_symbol number name) item.now) c → is ≡ true
      → Some (map (plain_symbol number name) item.now) ≡ pick rules t n c
  chosen_now rules t n c all i item o is h it before same e yes' =
      let now : starts t (map (plain_symbol number name) (get_or all i item).now) c ≡ true = ap (λ (z : Bor (List (CodeSymbol C P))). starts t (map (plain_symbol number name) z.now) c) it ∙ (sym e ∙ yes') in
      let picked = picked_now t c all i item o (choose_or t None c (seen all)) h before now in
      is_pick rules t n c all (Some (map (plain_symbol number name) item.now)) same (ap (λ (z : Bor (List (CodeSymbol C P))). Some (map (plain_symbol number name) z.now)) (sym it) ∙ picked)

  pub chosen_last : (rules : PlainRules) (t : Tables) (n c : ℕ) (all : List (Bor (List (CodeSymbol C P)))) (i : ℕ) (o : Option (List Plain)) → length all ≤ i → choose_or t o c (seen (drop i all)) ≡ choose_or t None c (seen all)
      → seen all ≡ alternatives rules n → o ≡ pick rules t n c
  chosen_last rules t n c all i o h before same = is_pick rules t n c all o same (picked_last t c all i o (choose_or t None c (seen all)) h before)

  -- THE STACK

  pub popped : (xs ys : List (CodeSymbol C P)) (x y : CodeSymbol C P) → xs ≡ ys ++ x ∷ [] → x ≡ y → stack number name xs ≡ plain_symbol number name y ∷ stack number name ys
  popped xs ys x y e f =
      ap (stack number name) e ∙ (ap (map (plain_symbol number name)) (reverse-append ys (x ∷ [])) ∙ ap (λ (z : CodeSymbol C P). plain_symbol number name z ∷ stack number name ys) f)

  pub none_left : (xs : List (CodeSymbol C P)) → length xs ≡ 0 → stack number name xs ≡ []
  none_left [] h = refl
  none_left (x ∷ xs) h = absurd (omega (arith, h))

  pub pushed : (xs ys b : List (CodeSymbol C P)) → xs ≡ ys ++ reverse b → stack number name xs ≡ map (plain_symbol number name) b ++ stack number name ys
  pushed xs ys b e =
      ap (stack number name) e
      ∙ (ap (map (plain_symbol number name)) (reverse-append ys (reverse b) ∙ ap (λ (z : List (CodeSymbol C P)). z ++ reverse ys) (reverse-reverse b)) ∙ map-append (plain_symbol number name) b (reverse ys))

-- ANSWERS

-- An answer by what is still to come is that of the sentences.
pub answered : {R : Type 0} (o : Option R) (v : Bool) (G : Type 0) (S : R → Bool) → MatchOption o (v ≡ false) (λ r. v ≡ S r) → MatchOption o (G → ⊥) (λ r. (S r ≡ true) ↔ G) → (v ≡ true) ↔ G
answered None v G S e h = ((λ y. cc (e, y)), (λ x. absurd (h x)))
answered (Some r) v G S e h = ((λ y. h.0 (sym e ∙ y)), (λ x. e ∙ h.1 x))

-- An answer at one more index.
pub answer_more : {A : Type 0} (P : Bool → A → Type 0) (xs : List Bool) (all : List A) (i : ℕ) (v : Bool) (d : A) → length xs ≡ length all → i < length all → get_or all i d ≡ d → P v d
    → ((k : ℕ) (c : A) → k < i → slice_get all k ≡ Some c → (b : Bool) × (slice_get xs k ≡ Some b) × P b c)
    → (k : ℕ) (c : A) → k < i + 1 → slice_get all k ≡ Some c → (b : Bool) × (slice_get (set xs i v) k ≡ Some b) × P b c
answer_more {A} P xs all i v d size within same now before k c h at = elim (cases_lt k i) [
  | inl l ↦
      let r = before k c l at in
      let there = slice_get_within xs k r.0 r.1 in
      let bound : k < length (set xs i v) = subst (λ (n : ℕ). k < n) (sym (length-set xs i v)) there in
      let ne : k ≢ i = omega (arith, l) in
      (r.0, slice_get-get_or (set xs i v) k r.0 bound ∙ ap Some (get_or-set_other xs i k v r.0 ne ∙ get_or_from_slice_get xs k r.0 r.0 r.1), r.2)
  | inr g ↦
      let j : k ≡ i = omega (arith, g, h) in
      let inside : i < length xs = omega (arith, size, within) in
      let bound : i < length (set xs i v) = subst (λ (n : ℕ). i < n) (sym (length-set xs i v)) inside in
      let it : slice_get all i ≡ Some c = subst (λ (z : ℕ). slice_get all z ≡ Some c) j at in
      let alike : d ≡ c = sym same ∙ get_or_from_slice_get all i c d it in
      (v, subst (λ (z : ℕ). slice_get (set xs i v) z ≡ Some v) (sym j) (slice_get-get_or (set xs i v) i v bound ∙ ap Some (get_or-set_same xs i v v inside)), subst (λ (z : A). P v z) alike now)
]

pub answer_all : {A : Type 0} (P : Bool → A → Type 0) (xs : List Bool) (all : List A) (i : ℕ) → length all ≤ i
    → ((k : ℕ) (c : A) → k < i → slice_get all k ≡ Some c → (b : Bool) × (slice_get xs k ≡ Some b) × P b c)
    → (k : ℕ) (c : A) → slice_get all k ≡ Some c → (b : Bool) × (slice_get xs k ≡ Some b) × P b c
answer_all P xs all i h before k c at = let within = slice_get_within all k c at in before k c (omega (arith, within, h)) at
