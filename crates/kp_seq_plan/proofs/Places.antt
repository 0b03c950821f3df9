-- The index of a name in a list to which names are added.
use Rattle.std.proofs.Common.{◌≡◌, ◌∙◌, ℕ, ◌+◌, ◌<◌, ◌≤◌, ◌++◌, List, [], ◌∷◌, length, Bool, true, false, cond, not, Bor, Option, Some, None, IfSome, refl, sym, ap, arith}
use Rattle.std.proofs.lemmas.{Bool.false≢true, Grind.common_steps, List.Folds.list_any_none, List.Folds.list_any_at, List.Folds.position_or_len_push}
use Rattle.std.proofs.lemmas.List.{Quantifiers.position-Some, Sums.fails_before_first, Sums.prefix_len-le-length}
use Rattle.std.specs.{Prelude.nat_eq, Prelude.nat_lt, Option.is_some, Option.option_copied, Cmp.Lexicographic.pointwise, Cmp.Lexicographic.bytes_decides}
use Rattle.std.specs.{Map.lookup, List.list_any, List.position, List.position_or_len}
use Rattle.indexmap.specs.IndexSet.{insert_key}
use Rattle.kp_ast.specs.Expressions.{is_same_name}
use Rattle.kp_seq_plan.specs.inner.Keys.{HasPlaces}

-- the first element that passes, in a list with one more element
new_at : (k n : ℕ) (b : Bool) → n ≤ k → k ≤ n
    → cond (nat_lt (cond (nat_eq k n) (n + cond b 0 1) k) (n + 1)) (Some (cond (nat_eq k n) (n + cond b 0 1) k)) None ≡ cond b (Some n) None
new_at k n true l m = grind arith
new_at k n false l m = grind arith

old_at : (k n more : ℕ) → k < n → cond (nat_lt (cond (nat_eq k n) more k) (n + 1)) (Some (cond (nat_eq k n) more k)) None ≡ Some k
old_at k n more l = grind arith

module _ {X : Type 0} (p : X → Bool) (xs : List X) (x : X) where
  pushed : position p (xs ++ x ∷ []) ≡ cond (nat_lt (position_or_len p (xs ++ x ∷ [])) (length xs + 1)) (Some (position_or_len p (xs ++ x ∷ []))) None
  pushed = grind (arith, common_steps)

  position_new : position p xs ≡ None → position p (xs ++ x ∷ []) ≡ cond (p x) (Some (length xs)) None
  position_new e =
      let past : length xs ≤ position_or_len p xs = grind (arith, common_steps) in
      pushed ∙ ap (λ i. cond (nat_lt i (length xs + 1)) (Some i) None) (position_or_len_push p xs x)
      ∙ new_at (position_or_len p xs) (length xs) (p x) past (prefix_len-le-length _ xs)

  position_kept : (i : ℕ) → position p xs ≡ Some i → position p (xs ++ x ∷ []) ≡ Some i
  position_kept i e =
      let within : position_or_len p xs < length xs = grind (arith, common_steps) in
      let there : position_or_len p xs ≡ i = grind (arith, common_steps) in
      pushed ∙ ap (λ j. cond (nat_lt j (length xs + 1)) (Some j) None) (position_or_len_push p xs x)
      ∙ old_at (position_or_len p xs) (length xs) (length xs + cond (p x) 0 1) within ∙ ap Some there

  lacks : position p xs ≡ None → list_any p xs ≡ false
  lacks e =
      let past : length xs ≤ position_or_len p xs = grind (arith, common_steps) in
      list_any_none p xs (λ k d l. fails_before_first p xs k d (omega (arith, l, past)))

nat_same : (a b : ℕ) → nat_eq a b ≡ nat_eq b a
nat_same a b = grind arith

turned : (xs ys : List ℕ) → is_same_name xs ys ≡ is_same_name ys xs
turned [] [] = refl
turned [] (y ∷ ys) = refl
turned (x ∷ xs) [] = refl
turned (x ∷ xs) (y ∷ ys) = rw (nat_same x y, turned xs ys) refl

-- a name that is not in the list is added
pub added : (es fs : List (List ℕ × ℕ)) (names : List (List ℕ)) (n key : List ℕ) (count : ℕ) → HasPlaces es names → lookup (is_same_name n) es ≡ None → key ≡ n → count ≡ length names
    → ((q : List ℕ) → lookup (is_same_name q) fs ≡ cond (is_same_name key q) (Some count) (lookup (is_same_name q) es)) → HasPlaces fs (names ++ n ∷ [])
added es fs names n key count h none e f put q =
    put q ∙ (λ i. cond (is_same_name (e i) q) (Some (f i)) (h q i)) ∙ by (position (is_same_name q) names) refl (is_same_name n q) refl
  where
    absent : position (is_same_name n) names ≡ None
    absent = sym (h n) ∙ none

    by : (o : Option ℕ) → position (is_same_name q) names ≡ o → (b : Bool) → is_same_name n q ≡ b → cond b (Some (length names)) o ≡ position (is_same_name q) (names ++ n ∷ [])
    by None e b s = ap (λ c. cond c (Some (length names)) None) (sym s ∙ turned n q) ∙ sym (position_new (is_same_name q) names n e)
    by (Some i) e false s = sym (position_kept (is_same_name q) names n i e)
    by (Some i) e true s =
        let there : position (is_same_name q) names ≡ None = ap (λ m. position (is_same_name m) names) (sym ((bytes_decides n q).0 s)) ∙ absent in
        let never : Some i ≡ None = sym e ∙ there in
        (cc)

none_from : {A : Type 0} (o : Option A) → is_some o ≡ false → o ≡ None
none_from None e = refl
none_from (Some x) e = absurd (false≢true (sym e))

copied_some : {A : Type 0} (o : Option (Bor A)) → is_some (option_copied o) ≡ is_some o
copied_some None = refl
copied_some (Some x) = refl

-- what a lookup finds
pub found_none : {A : Type 0} (o : Option (Bor A)) (r : Option A) (b : Bool) → option_copied o ≡ r → is_some o ≡ not b → b ≡ true → r ≡ None
found_none o r b e f g = none_from r (ap is_some (sym e) ∙ copied_some o ∙ f ∙ ap not g)

pub found_some : {A : Type 0} (o : Option (Bor A)) (r : Option A) (b : Bool) → option_copied o ≡ r → is_some o ≡ not b → b ≡ false → is_some r ≡ true
found_some o r b e f g = ap is_some (sym e) ∙ copied_some o ∙ f ∙ ap not g

pub inserted : (names : List (List ℕ)) (n : List ℕ) → position (is_same_name n) names ≡ None → names ++ n ∷ [] ≡ insert_key (pointwise nat_eq) names n
inserted names n e = ap (λ (b : Bool). cond b names (names ++ n ∷ [])) (sym (lacks (is_same_name n) names n e))

pub kept : (names : List (List ℕ)) (n : List ℕ) (o : Option ℕ) → position (is_same_name n) names ≡ o → is_some o ≡ true → names ≡ insert_key (pointwise nat_eq) names n
kept names n None e h = absurd (false≢true h)
kept names n (Some i) e h =
    let at = position-Some (is_same_name n) names i [] e in
    ap (λ (b : Bool). cond b names (names ++ n ∷ [])) (sym (list_any_at (is_same_name n) names i [] at.0 at.1))

pub within : {X : Type 0} (p : X → Bool) (xs : List X) (d : X) (o : Option ℕ) → o ≡ position p xs → IfSome o (λ i. i < length xs)
within p xs d None e = tt
within p xs d (Some i) e = (position-Some p xs i d (sym e)).0
