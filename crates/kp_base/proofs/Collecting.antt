-- The findings that are collected are the first ones of all.
use Rattle.std.proofs.Common.{◌≡◌, ◌∙◌, ℕ, ◌+◌, ◌<◌, ◌≤◌, List, [], ◌∷◌, ◌++◌, length, take, drop, get_or, Option, Some, None, Bool, true, false, cond, append-nil, append_assoc, refl, ap, sym, arith}
use Rattle.std.specs.Prelude.{nat_lt, nat_le, slice_get}
use Rattle.std.proofs.lemmas.{Bool.ltb-true, Bool.ltb-false, Bool.leb-true, Bool.le-ltb, Bool.le-leb, List.at_drop_more, List.take_all, List.take-append-le, List.length-append}
use Rattle.kp_base.specs.First.{first}
use Rattle.kp_base.specs.Findings.{findings, Collected, with_answer, with_answers}

by_test : {G : Type 0} (b : Bool) → (b ≡ true → G) → (b ≡ false → G) → G
by_test true then_so else_so = then_so refl
by_test false then_so else_so = else_so refl

-- some answers, and then others
pub append : {F : Type 0} (n : Collected F) (xs ys : List (Option F)) → with_answers n (xs ++ ys) ≡ with_answers (with_answers n xs) ys
append n [] ys = refl
append n (x ∷ xs) ys = append (with_answer n x) xs ys

-- answers of which none is a violation
pub none_noted : {F : Type 0} (n : Collected F) (xs : List (Option F)) → first xs ≡ None → with_answers n xs ≡ n
none_noted n [] e = refl
none_noted n (None ∷ xs) e = none_noted n xs e
none_noted n (Some f ∷ xs) e = cc

full_test : (m k : ℕ) → nat_le m k ≡ true → nat_lt k m ≡ false
full_test m k e = le-ltb k m (leb-true m k e)

full_one : {F : Type 0} (n : Collected F) (x : Option F) → nat_le n.most (length n.found) ≡ true → with_answer n x ≡ n
full_one n None e = refl
full_one n (Some f) e = ap (λ b. cond b (record { most = n.most; found = n.found ++ f ∷ [] }) n) (full_test n.most (length n.found) e)

-- where there are enough, no more is noted
pub full_stays : {F : Type 0} (n : Collected F) (xs : List (Option F)) → nat_le n.most (length n.found) ≡ true → with_answers n xs ≡ n
full_stays n [] e = refl
full_stays n (x ∷ xs) e = ap (λ m. with_answers m xs) (full_one n x e) ∙ full_stays n xs e

-- the findings so far and the first of the others, up to the limit
pub found_is : {F : Type 0} (n : Collected F) (xs : List (Option F)) → length n.found ≤ n.most → (with_answers n xs).found ≡ take n.most (n.found ++ findings xs)
found_is n [] h = sym (ap (take n.most) (append-nil n.found) ∙ take_all n.most n.found h)
found_is n (None ∷ xs) h = found_is n xs h
found_is {F = F} n (Some f ∷ xs) h = by_test (nat_lt (length n.found) n.most)
    (λ y.
    let more : Collected F = record { most = n.most; found = n.found ++ f ∷ [] } in
    let short = ltb-true (length n.found) n.most y in
    let fits : length more.found ≤ n.most = omega (arith, short, length-append n.found (f ∷ [])) in
    ap (λ b. (with_answers (cond b more n) xs).found) y
    ∙ found_is more xs fits
    ∙ ap (take n.most) (append_assoc n.found (f ∷ []) (findings xs)))
    (λ m.
    let full = ltb-false (length n.found) n.most m in
    ap (λ b. (with_answers (cond b (record { most = n.most; found = n.found ++ f ∷ [] }) n) xs).found) m
    ∙ ap (λ (k : Collected F). k.found) (full_stays n xs (le-leb n.most (length n.found) full))
    ∙ sym (take-append-le n.most n.found (f ∷ findings xs) full ∙ take_all n.most n.found h))

-- the first findings of all
pub first_of_all : {F : Type 0} (most : ℕ) (xs : List (Option F)) → (with_answers (record { most = most; found = [] }) xs).found ≡ take most (findings xs)
first_of_all most xs = found_is (record { most = most; found = [] }) xs (omega arith)

-- the first one
pub first_taken : {F : Type 0} (xs : List (Option F)) → slice_get (take 1 (findings xs)) 0 ≡ first xs
first_taken [] = refl
first_taken (None ∷ xs) = first_taken xs
first_taken (Some f ∷ xs) = refl

-- a function of what is left of a list, where the next item is known
pub step : {X Y : Type 0} (f : List X → Y) (xs : List X) (i : ℕ) (x : X) → i < length xs → x ≡ get_or xs i x → f (x ∷ drop (i + 1) xs) ≡ f (drop i xs)
step f xs i x within is = sym (at_drop_more f xs i x within ∙ ap (λ y. f (y ∷ drop (i + 1) xs)) (sym is))
