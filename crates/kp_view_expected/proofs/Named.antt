-- A class is in a set exactly where the list for the set names it.
use Rattle.std.specs.Prelude.{ℕ, zero, suc, ◌≡◌, ◌↔◌, List, [], ◌∷◌, length, slice_get, Bool, true, false, not, ◌&&◌, if◌then◌else◌, Option, Some, None}
use Rattle.std.proofs.{Common.refl, Common.sym, Common.ap, Common.subst, Common.◌∙◌, Common.arith, lemmas.Bool.and_parts}
use Rattle.kp_lex.specs.declared.token.Mark.TheVariants as marks
use Rattle.kp_view_expected.specs.declared.{token_class.TokenClass.TokenClass, set.Expected.Expected, display.Group.Group, display.Thing.Thing}
use Rattle.kp_view_expected.specs.GoesOn.{all_classes, Lists}
use Rattle.kp_view_expected.specs.Texts.{in_group, is_last, all_of, has_all, group_of, thing_of, things, before_these, Names, IsNamed}
use Rattle.kp_view_expected.proofs.Exact.{indexed}
use Rattle.kp_view_expected.specs.declared.token_class.TokenClass.TheVariants as classes
use Rattle.kp_view_expected.specs.declared.display.Group.TheVariants as groups
use Rattle.kp_view_expected.specs.declared.display.Thing.TheVariants as thing

abbrev At : List TokenClass → List Bool → TokenClass → Type 0
At cs bs c = (k : ℕ) × (slice_get cs k ≡ Some c) × (slice_get bs k ≡ Some true)

abbrev In : List Thing → Thing → Type 0
In ts t = (k : ℕ) × (slice_get ts k ≡ Some t)

in_more : (o : Option Thing) (ts : List Thing) (t : Thing) → In ts t → In (before_these o ts) t
in_more None ts t h = h
in_more (Some u) ts t (k, h) = (suc k, h)

in_here : (o : Option Thing) (ts : List Thing) (t : Thing) → o ≡ Some t → In (before_these o ts) t
in_here o ts t is = subst (λ (p : Option Thing). In (before_these p ts) t) (sym is) (0, refl)

-- what is listed for a class of the set is in the list
listed_for : (g : Option Group) (cs : List TokenClass) (bs : List Bool) (c : TokenClass) (t : Thing) → thing_of g c ≡ Some t → (k : ℕ) → slice_get cs k ≡ Some c → slice_get bs k ≡ Some true
    → In (things g cs bs) t
listed_for g [] bs c t is k p q = absurd (cc)
listed_for g (d ∷ cs) [] c t is k p q = absurd (cc)
listed_for g (d ∷ cs) (b ∷ bs) c t is zero p q =
    let same : d ≡ c = cc in let on : b ≡ true = cc in
    in_here (if b then thing_of g d else None) (things g cs bs) t
    (ap (λ (x : Bool). if x then thing_of g d else None) on ∙ ap (thing_of g) same ∙ is)
listed_for g (d ∷ cs) (b ∷ bs) c t is (suc k) p q = in_more (if b then thing_of g d else None) (things g cs bs) t (listed_for g cs bs c t is k p q)

-- and what is in the list is listed for a class of the set
abbrev Comes : Option Group → List TokenClass → List Bool → Thing → Type 0
Comes g cs bs t = (c : TokenClass) × At cs bs c × (thing_of g c ≡ Some t)

comes_later : (g : Option Group) (d : TokenClass) (cs : List TokenClass) (b : Bool) (bs : List Bool) (t : Thing) → Comes g cs bs t → Comes g (d ∷ cs) (b ∷ bs) t
comes_later g d cs b bs t (c, (k, p, q), is) = (c, (suc k, p, q), is)

since_here : (g : Option Group) (d : TokenClass) (cs : List TokenClass) (bs : List Bool) (t : Thing) → ((k : ℕ) → slice_get (things g cs bs) k ≡ Some t → Comes g cs bs t)
    → (o : Option Thing) → thing_of g d ≡ o → (k : ℕ) → slice_get (before_these o (things g cs bs)) k ≡ Some t → Comes g (d ∷ cs) (true ∷ bs) t
since_here g d cs bs t later None is k p = comes_later g d cs true bs t (later k p)
since_here g d cs bs t later (Some u) is zero p = (d, (0, refl, refl), is ∙ p)
since_here g d cs bs t later (Some u) is (suc k) p = comes_later g d cs true bs t (later k p)

listed_since : (g : Option Group) (cs : List TokenClass) (bs : List Bool) (t : Thing) (k : ℕ) → slice_get (things g cs bs) k ≡ Some t → Comes g cs bs t
listed_since g [] bs t k p = absurd (cc)
listed_since g (d ∷ cs) [] t k p = absurd (cc)
listed_since g (d ∷ cs) (false ∷ bs) t k p = comes_later g d cs false bs t (listed_since g cs bs t k p)
listed_since g (d ∷ cs) (true ∷ bs) t k p = since_here g d cs bs t (λ j q. listed_since g cs bs t j q) (thing_of g d) refl k p

-- each class of a group that is in the set is in the set
of_group : (g : Group) (cs : List TokenClass) (bs : List Bool) (k : ℕ) (c : TokenClass) → length bs ≡ length cs → all_of g cs bs ≡ true → in_group g c ≡ true → slice_get cs k ≡ Some c
    → slice_get bs k ≡ Some true
of_group g [] bs k c size all within p = absurd (cc)
of_group g (d ∷ cs) [] k c size all within p = absurd (omega (arith, size))
of_group g (d ∷ cs) (true ∷ bs) zero c size all within p = refl
of_group g (d ∷ cs) (false ∷ bs) zero c size all within p =
    let same : d ≡ c = cc in
    let has : in_group g d ≡ true = ap (in_group g) same ∙ within in
    let not_all = subst (λ (x : Bool). (not x && all_of g cs bs) ≡ true) has all in
    absurd (cc)
of_group g (d ∷ cs) (true ∷ bs) (suc k) c size all within p = of_group g cs bs k c (omega (arith, size)) all within p
of_group g (d ∷ cs) (false ∷ bs) (suc k) c size all within p = of_group g cs bs k c (omega (arith, size)) (and_parts (not (in_group g d)) (all_of g cs bs) all).1 within p

abbrev last : Group → TokenClass
last groups.Expression = classes.Literal
last groups.Operator = classes.Mark marks.EqualsEquals
last groups.OtherOperator = classes.Mark marks.ShiftRight

last_within : (g : Group) → in_group g (last g) ≡ true
last_within groups.Expression = refl
last_within _ = refl

last_listed : (g : Group) → thing_of (Some g) (last g) ≡ Some (thing.Group g)
last_listed groups.Expression = refl
last_listed _ = refl

-- the group that is listed is in the set
group_has : (e : Expected) (g : Group) → group_of e ≡ Some g → has_all e g ≡ true
group_has e g is = first (has_all e groups.Expression) (has_all e groups.Operator) (has_all e groups.OtherOperator) refl refl refl is
  where
    first : (a b c : Bool) → has_all e groups.Expression ≡ a → has_all e groups.Operator ≡ b → has_all e groups.OtherOperator ≡ c
        → (if a then Some groups.Expression else if b then Some groups.Operator else if c then Some groups.OtherOperator else None) ≡ Some g → has_all e g ≡ true
    first true b c p q r s = let same : groups.Expression ≡ g = cc in subst (λ (h : Group). has_all e h ≡ true) same p
    first false true c p q r s = let same : groups.Operator ≡ g = cc in subst (λ (h : Group). has_all e h ≡ true) same q
    first false false true p q r s = let same : groups.OtherOperator ≡ g = cc in subst (λ (h : Group). has_all e h ≡ true) same r
    first false false false p q r s = absurd (cc)

-- what is listed for a class names it, and a class that it names is the same one, or in the same group
alone : (g : Group) (c : TokenClass) → in_group g c ≡ false → thing_of (Some g) c ≡ Some (thing.Class c)
alone g c out = ap (λ (b : Bool). if b then (if is_last g c then Some (thing.Group g) else None) else Some (thing.Class c)) out

listed_class : (g : Option Group) (c d : TokenClass) → thing_of g c ≡ Some (thing.Class d) → c ≡ d
listed_class None c d is = cc
listed_class (Some g) c d is = by (in_group g c) (is_last g c) is
  where
    by : (a b : Bool) → (if a then (if b then Some (thing.Group g) else None) else Some (thing.Class c)) ≡ Some (thing.Class d) → c ≡ d
    by true true h = absurd (cc)
    by true false h = absurd (cc)
    by false b h = cc

listed_group : (g : Option Group) (c : TokenClass) (h : Group) → thing_of g c ≡ Some (thing.Group h) → g ≡ Some h
listed_group None c h is = absurd (cc)
listed_group (Some g) c h is = by (in_group g c) (is_last g c) is
  where
    by : (a b : Bool) → (if a then (if b then Some (thing.Group g) else None) else Some (thing.Class c)) ≡ Some (thing.Group h) → Some g ≡ Some h
    by true true k = cc
    by true false k = absurd (cc)
    by false b k = absurd (cc)

module _ (e : Expected) (size : length e.listed ≡ 53) where
  named : (c : TokenClass) → Lists e c → IsNamed e c
  named c (k, p, q) = by (group_of e) refl
    where
      alone_in : (g : Option Group) → group_of e ≡ g → thing_of g c ≡ Some (thing.Class c) → IsNamed e c
      alone_in g is only =
          let found = listed_for g all_classes e.listed c (thing.Class c) only k p q in
          (thing.Class c, subst (λ (h : Option Group). In (things h all_classes e.listed) (thing.Class c)) (sym is) found, refl)

      with_group : (g : Group) → group_of e ≡ Some g → (b : Bool) → in_group g c ≡ b → IsNamed e c
      with_group g is false out = alone_in (Some g) is (alone g c out)
      with_group g is true within =
          let place = indexed (last g) in
          let has = of_group g all_classes e.listed place.0 (last g) size (group_has e g is) (last_within g) place.1 in
          let found = listed_for (Some g) all_classes e.listed (last g) (thing.Group g) (last_listed g) place.0 place.1 has in
          (thing.Group g, subst (λ (h : Option Group). In (things h all_classes e.listed) (thing.Group g)) (sym is) found, within)

      by : (g : Option Group) → group_of e ≡ g → IsNamed e c
      by None is = alone_in None is refl
      by (Some g) is = with_group g is (in_group g c) refl

  listed : (c : TokenClass) → IsNamed e c → Lists e c
  listed c (t, (k, p), names) = let comes = listed_since (group_of e) all_classes e.listed t k p in by t names comes.0 comes.1 comes.2
    where
      by : (t : Thing) → Names t c → (d : TokenClass) → At all_classes e.listed d → thing_of (group_of e) d ≡ Some t → Lists e c
      by (thing.Class b) same d at is = subst (λ (x : TokenClass). At all_classes e.listed x) (listed_class (group_of e) d b is ∙ same) at
      by (thing.Group g) within d at is =
          let place = indexed c in
          let has = group_has e g (listed_group (group_of e) d g is) in
          (place.0, place.1, of_group g all_classes e.listed place.0 c size has within place.1)

  pub named_exactly : (c : TokenClass) → Lists e c ↔ IsNamed e c
  named_exactly c = (named c, listed c)
