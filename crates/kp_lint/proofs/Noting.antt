-- The names of a table are those that were noted.
use Rattle.std.proofs.Common.{◌≡◌, ◌∙◌, ℕ, ◌+◌, ◌<◌, List, [], ◌∷◌, ◌++◌, length, drop, get_or, map, Option, Some, None, Bool, true, false, cond, refl, ap, sym}
use Rattle.std.specs.{Prelude.◌||◌, Prelude.is_some, List.flat_map, Cmp.Lexicographic.bytes_decides, Cmp.Lexicographic.nat_list_eq_equiv}
use Rattle.kp_base.proofs.Collecting.{step}
use Rattle.kp_ast.specs.Expressions.{is_same_name}
use Rattle.kp_lint.specs.Tables.{value_of, with_first, with_value}
use Rattle.kp_lint.specs.{Used.Names, Used.is_used, inner.Noted.has, inner.Noted.noted}

abbrev Values : Type 0
Values = List ℕ → Option Bool

-- some names, and then others
pub append : (f : Values) (xs ys : Names) → noted f (xs ++ ys) ≡ noted (noted f xs) ys
append f [] ys = refl
append f (x ∷ xs) ys = append (with_first f x true) xs ys

-- the step of a loop: the names of item i are noted
pub more : {X : Type 0} (names : X → Names) (f g : Values) (xs : List X) (i : ℕ) (x : X) → i < length xs → x ≡ get_or xs i x → g ≡ noted f (names x)
    → noted g (flat_map names (drop (i + 1) xs)) ≡ noted f (flat_map names (drop i xs))
more names f g xs i x within is e =
    let rest = flat_map names (drop (i + 1) xs) in
    ap (λ h. noted h rest) e ∙ sym (append f (names x) rest) ∙ step (λ ys. noted f (flat_map names ys)) xs i x within is

-- the same in the parts of an expression
pub more_parts : {X : Type 0} (names : X → Names) (f g : Values) (xs : List X) (i : ℕ) (x : X) → i < length xs → x ≡ get_or xs i x → g ≡ noted f (names x)
    → noted g (flat_map (λ ns. ns) (map names (drop (i + 1) xs))) ≡ noted f (flat_map (λ ns. ns) (map names (drop i xs)))
more_parts names f g xs i x within is e =
    let rest = flat_map (λ ns. ns) (map names (drop (i + 1) xs)) in
    ap (λ h. noted h rest) e ∙ sym (append f (names x) rest) ∙ step (λ ys. noted f (flat_map (λ ns. ns) (map names ys))) xs i x within is

-- the parts of an expression, one after the other
pub two : (f g : Values) (xs ys : Names) → g ≡ noted f xs → noted g ys ≡ noted f (xs ++ ys)
two f g xs ys e = ap (λ h. noted h ys) e ∙ sym (append f xs ys)

pub three : (f g h : Values) (xs ys zs : Names) → g ≡ noted f xs → h ≡ noted g ys → noted h zs ≡ noted f (xs ++ (ys ++ zs))
three f g h xs ys zs e d = two g h ys zs d ∙ two f g xs (ys ++ zs) e

by_test : {G : Type 0} (b : Bool) → (b ≡ true → G) → (b ≡ false → G) → G
by_test true then_so else_so = then_so refl
by_test false then_so else_so = else_so refl

or_true : (a : Bool) → (a || true) ≡ true
or_true true = refl
or_true false = refl

or_false : (a : Bool) → (a || false) ≡ a
or_false true = refl
or_false false = refl

or_assoc : (a b c : Bool) → ((a || b) || c) ≡ (a || (b || c))
or_assoc true b c = refl
or_assoc false b c = refl

module _ (f : Values) (m n : List ℕ) where
  abbrev kept : Bool → Bool
  kept b = is_some ((cond b f (with_value f m true)) n)

  abbrev found : Bool → Bool
  found b = is_some (cond b (Some true) (f n))

  here : is_same_name n m ≡ true → is_some (with_first f m true n) ≡ true
  here y = by_test (is_some (f m))
      (λ s. ap kept s ∙ ap (λ x. is_some (f x)) ((bytes_decides n m).0 y) ∙ s)
      (λ s. ap kept s ∙ ap found (nat_list_eq_equiv.symm m n ∙ y))

  other : is_same_name n m ≡ false → is_some (with_first f m true n) ≡ is_some (f n)
  other differ = by_test (is_some (f m)) (λ s. ap kept s) (λ s. ap kept s ∙ ap found (nat_list_eq_equiv.symm m n ∙ differ))

  one : is_some (with_first f m true n) ≡ (is_some (f n) || is_same_name n m)
  one = by_test (is_same_name n m)
      (λ y. here y ∙ sym (ap (λ b. is_some (f n) || b) y ∙ or_true (is_some (f n))))
      (λ differ. other differ ∙ sym (ap (λ b. is_some (f n) || b) differ ∙ or_false (is_some (f n))))

all : (f : Values) (names : Names) (n : List ℕ) → is_some (noted f names n) ≡ (is_some (f n) || is_used names n)
all f [] n = sym (or_false (is_some (f n)))
all f (m ∷ names) n = all (with_first f m true) names n ∙ ap (λ b. b || is_used names n) (one f m n) ∙ or_assoc (is_some (f n)) (is_same_name n m) (is_used names n)

-- a table into which some names were noted, or some and then others
pub has_names : (empty table : List (List ℕ × Bool)) (names : Names) → empty ≡ [] → value_of table ≡ noted (value_of empty) names → has table ≡ is_used names
has_names empty table names none is i n =
    (ap (λ f. is_some (f n)) (is ∙ ap (λ t. noted (value_of t) names) none) ∙ all (value_of []) names n) i

pub has_both : (empty first table : List (List ℕ × Bool)) (xs ys : Names) → empty ≡ [] → value_of first ≡ noted (value_of empty) xs
    → value_of table ≡ noted (value_of first) ys → has table ≡ is_used (xs ++ ys)
has_both empty first table xs ys none is then = has_names empty table (xs ++ ys) none (then ∙ ap (λ f. noted f ys) is ∙ sym (append (value_of empty) xs ys))
