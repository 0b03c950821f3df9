-- NAMES of stages.
use Rattle.std.proofs.Common.{◌≡◌, ◌∙◌, ℕ, suc, ◌+◌, ◌<◌, ◌≤◌, ◌==◌, ◌&&◌, ◌||◌, Bool, true, false, leb, ltb, max, List, [], length, get_or, map, take, decimal, refl, ap, ap₂, sym, ⊎_elim, arith}
use Rattle.std.proofs.lemmas.{Bool.and_parts, Bool.cases_lt, Bool.cond-false, Bool.cond-true, Bool.le-ltb, Bool.leb-true, Bool.lt-ltb, Fmt.length-decimal-le}
use Rattle.std.proofs.lemmas.List.{get_or-map, length-map, take_all, Folds.list_all_at, Folds.list_all-map, Folds.list_all_more}
use Rattle.std.specs.List.{list_all}
use Rattle.kp_base.specs.Characters.{is_word, run_length}
use Rattle.kp_diagram_text.specs.{Charts.are_names, Charts.is_name, Text.longest, Text.stage_name}

-- the name that a chart has for stage k, or its number
pub name_at : {X : Type 0} (f : X → List ℕ) (names : List X) (k : ℕ) (x : X) → k < length names → x ≡ get_or names k x
    → stage_name (map f names) k ≡ f x
name_at f names k x b is =
    let e : length (map f names) ≡ length names = length-map names f in
    cond-true (ltb k (length (map f names))) _ _ (lt-ltb k (length (map f names)) (omega arith))
    ∙ get_or-map f names k x [] b ∙ ap f (sym is)

pub name_past : {X : Type 0} (f : X → List ℕ) (names : List X) (k : ℕ) → length names ≤ k → stage_name (map f names) k ≡ decimal k
name_past f names k b =
    let e : length (map f names) ≡ length names = length-map names f in
    cond-false (ltb k (length (map f names))) _ _ (le-ltb k (length (map f names)) (omega arith))

short : (name : List ℕ) → is_name name ≡ true → length name ≤ 8
short name h =
    leb-true (length name) 8
    (and_parts (ltb 0 (length name)) _ (and_parts (ltb 0 (length name) && leb (length name) 8) (run_length is_word name == length name) h).0).1

-- each name is short
pub short_name : (names : List (List ℕ)) (n k : ℕ) → are_names names n ≡ true → k < 256 → length (stage_name names k) ≤ 8
short_name names n k h few = ⊎_elim
    (λ (b : k < length names). rw (cond-true (ltb k (length names)) (get_or names k []) (decimal k) (lt-ltb k (length names) b)) (go b (is_name (get_or names k [])) refl))
    (λ (b : length names ≤ k). rw (cond-false (ltb k (length names)) (get_or names k []) (decimal k) (le-ltb k (length names) b))
    (let three : length (decimal k) ≤ 3 = length-decimal-le 3 k (omega arith) (omega (arith, few)) (omega (arith, few)) in omega (arith, three)))
    (cases_lt k (length names))
  where
    go : k < length names → (c : Bool) → is_name (get_or names k []) ≡ c → length (get_or names k []) ≤ 8
    go b true e = short (get_or names k []) e
    go b false e =
        let all = (and_parts (length names == 0 || length names == n) (list_all is_name names) h).1 in
        cc (sym all ∙ list_all_at is_name names k [] b e)

pub longest_next : (names : List (List ℕ)) (k old new : ℕ) → old ≡ longest names k → new ≡ length (stage_name names k)
    → max old new ≡ longest names (k + 1)
longest_next names k old new o n =
    let e : k + 1 ≡ suc k = omega arith in
    ap₂ max o n ∙ sym (ap (longest names) e)

-- WHETHER names are names of stages, so far as they are looked at.
pub all_more : {X : Type 0} (f : X → List ℕ) (names : List X) (i : ℕ) (x : X) → i < length names → x ≡ get_or names i x
    → list_all is_name (map f (take i names)) ≡ true → is_name (f x) ≡ true → list_all is_name (map f (take (i + 1) names)) ≡ true
all_more f names i x b is before now =
    list_all-map is_name f (take (i + 1) names)
    ∙ list_all_more (λ y. is_name (f y)) names i x b
    ∙ ap₂ (λ (p q : Bool). p && q) (sym (list_all-map is_name f (take i names)) ∙ before) (ap (λ y. is_name (f y)) (sym is) ∙ now)

pub one_wrong : {X : Type 0} (f : X → List ℕ) (names : List X) (i : ℕ) (x : X) → i < length names → x ≡ get_or names i x
    → is_name (f x) ≡ false → list_all is_name (map f names) ≡ false
one_wrong f names i x b is wrong =
    list_all-map is_name f names ∙ list_all_at (λ y. is_name (f y)) names i x b (ap (λ y. is_name (f y)) (sym is) ∙ wrong)

pub all_right : {X : Type 0} (f : X → List ℕ) (names : List X) (i : ℕ) → length names ≤ i
    → list_all is_name (map f (take i names)) ≡ true → list_all is_name (map f names) ≡ true
all_right f names i b h = rw (take_all i names b) at h
