-- Lists whose entries are changed in order, and the resulting lists.
use Rattle.std.proofs.Common.{◌≡◌, ◌∙◌, ℕ, zero, suc, ◌+◌, ◌^◌, ◌<◌, ◌≤◌, List, [], ◌∷◌, ◌++◌, Option, Some, None, Bool, true, false, cond, length, get_or, set, refl, ap, sym, subst, arith}
use Rattle.std.proofs.lemmas.Bool.{cond-true, cond_both, lt-ltb}
use Rattle.std.proofs.lemmas.List.{length-set, length-append, get_or-set_same, get_or-set_other, append_assoc}
use Rattle.std.{proofs.Math.Seq.set-append_seam, specs.Prelude.slice_get, specs.Prelude.unwrap_or, specs.Prelude.nat_lt}
use Rattle.kp_pipeline.specs.{Sequential.first_value, Timeline.first_stage}
use Rattle.kp_seq.specs.{Recorded.where_true, inner.Notes.changed_from, inner.Notes.narrowed}

module _ {X Y : Type 0} (f : ℕ → X → Y → Y) (d : Y) where
  pub changed_count : (ys : List Y) (i : ℕ) (xs : List X) → length (changed_from f d ys i xs) ≡ length ys
  changed_count ys i [] = refl
  changed_count ys i (x ∷ xs) = changed_count (set ys i (f i x (get_or ys i d))) (i + 1) xs ∙ length-set ys i (f i x (get_or ys i d))

  -- no entry before the first changes
  before_first : (ys : List Y) (i : ℕ) (xs : List X) (j : ℕ) → j < i → get_or (changed_from f d ys i xs) j d ≡ get_or ys j d
  before_first ys i [] j l = refl
  before_first ys i (x ∷ xs) j l =
      before_first (set ys i (f i x (get_or ys i d))) (i + 1) xs j (omega arith) ∙ get_or-set_other ys i j (f i x (get_or ys i d)) d (λ e. omega arith)

  -- each entry changes by its own
  changed_further : (ys : List Y) (i : ℕ) (xs : List X) (j : ℕ) (x : X) → slice_get xs j ≡ Some x → i + j < length ys
      → get_or (changed_from f d ys i xs) (i + j) d ≡ f (i + j) x (get_or ys (i + j) d)
  changed_further ys i [] j x e l = cc
  changed_further ys i (y ∷ xs) zero x e l =
      let z : i + 0 ≡ i = omega arith in
      let here : y ≡ x = cc in
      let inside : i < length ys = omega arith in
      rw z
      (before_first (set ys i (f i y (get_or ys i d))) (i + 1) xs i (omega arith)
      ∙ get_or-set_same ys i (f i y (get_or ys i d)) d inside
      ∙ ap (λ v. f i v (get_or ys i d)) here)
  changed_further ys i (y ∷ xs) (suc j) x e l =
      let z : i + suc j ≡ (i + 1) + j = omega arith in
      let v = f i y (get_or ys i d) in
      let n = length-set ys i v in
      let inside : (i + 1) + j < length (set ys i v) = omega (arith, n) in
      rw z
      (changed_further (set ys i v) (i + 1) xs j x e inside
      ∙ ap (f ((i + 1) + j) x) (get_or-set_other ys i ((i + 1) + j) v d (λ q. omega arith)))

  pub changed_at : (ys : List Y) (xs : List X) (j : ℕ) (x : X) → slice_get xs j ≡ Some x → j < length ys
      → get_or (changed_from f d ys 0 xs) j d ≡ f j x (get_or ys j d)
  changed_at ys xs j x e l =
      let z : 0 + j ≡ j = omega arith in
      subst (λ i. get_or (changed_from f d ys 0 xs) i d ≡ f i x (get_or ys i d)) z (changed_further ys 0 xs j x e (omega arith))

-- the first of n numbers that passes
abbrev pub seen : (ℕ → Bool) → ℕ → Option ℕ
seen p zero = None
seen p (suc k) = first_value (seen p k) (where_true (p k) k)

one_more : (p : ℕ → Bool) (n k d : ℕ) → first_stage p (suc n) k d ≡ first_stage p n k (cond (p (k + n)) (k + n) d)
one_more p zero k d = let z : k + 0 ≡ k = omega arith in rw z refl
one_more p (suc n) k d =
    let z : k + suc n ≡ suc k + n = omega arith in
    rw z (ap (cond (p k) k) (one_more p n (suc k) d))

first_or : (o : Option ℕ) (b : Bool) (k d : ℕ) → unwrap_or (first_value o (where_true b k)) d ≡ unwrap_or o (cond b k d)
first_or None true k d = refl
first_or None false k d = refl
first_or (Some v) b k d = refl

-- is the first stage that passes
pub seen_first : (p : ℕ → Bool) (n d : ℕ) → unwrap_or (seen p n) d ≡ first_stage p n 0 d
seen_first p zero d = refl
seen_first p (suc n) d =
    let z : 0 + n ≡ n = omega arith in
    first_or (seen p n) (p n) n d ∙ seen_first p n (cond (p n) n d)
    ∙ ap (λ m. first_stage p n 0 (cond (p m) m d)) (sym z) ∙ sym (one_more p n 0 d)

-- and it is one of them, or the other
pub first_below : (p : ℕ → Bool) (n k d m : ℕ) → k + n ≤ m → d < m → first_stage p n k d < m
first_below p zero k d m h l = l
first_below p (suc n) k d m h l = cond_both (p k) k (first_stage p n (suc k) d) (λ x. x < m) (λ _. omega arith) (λ _. first_below p n (suc k) d m (omega arith) l)

pub narrowed_is : (bits a : ℕ) → a < 2 ^ bits → narrowed bits a ≡ a
narrowed_is bits a h = cond-true (nat_lt a (2 ^ bits)) a 0 (lt-ltb a (2 ^ bits) h)

-- reads, in order
abbrev pub put_read : List (Option ℕ) × ℕ → Option ℕ → List (Option ℕ) × ℕ
put_read s o = (set s.0 s.1 o, cond (nat_lt s.1 (length s.0)) (s.1 + 1) s.1)

abbrev pub put_reads : List (Option ℕ) × ℕ → List (Option ℕ) → List (Option ℕ) × ℕ
put_reads s [] = s
put_reads s (o ∷ os) = put_reads (put_read s o) os

pub put_both : (s : List (Option ℕ) × ℕ) (xs ys : List (Option ℕ)) → put_reads s (xs ++ ys) ≡ put_reads (put_reads s xs) ys
put_both s [] ys = refl
put_both s (x ∷ xs) ys = put_both (put_read s x) xs ys

pub put_count : (s : List (Option ℕ) × ℕ) (xs : List (Option ℕ)) → length (put_reads s xs).0 ≡ length s.0
put_count s [] = refl
put_count s (x ∷ xs) = put_count (put_read s x) xs ∙ length-set s.0 s.1 x

put_further : (zs ys os : List (Option ℕ)) → length ys ≡ length os → (put_reads (zs ++ ys, length zs) os).0 ≡ zs ++ os
put_further zs [] [] e = refl
put_further zs (y ∷ ys) (o ∷ os) e =
    let n = length-append zs (y ∷ ys) in
    let inside : length zs < length (zs ++ y ∷ ys) = omega (arith, n) in
    let m = length-append zs (o ∷ []) in
    let next : length zs + 1 ≡ length (zs ++ o ∷ []) = omega (arith, m) in
    let all : length ys ≡ length os = omega arith in
    let there : put_read (zs ++ y ∷ ys, length zs) o ≡ ((zs ++ o ∷ []) ++ ys, length (zs ++ o ∷ [])) =
    ap (λ l. (l, cond (nat_lt (length zs) (length (zs ++ y ∷ ys))) (length zs + 1) (length zs))) (set-append_seam zs y ys o ∙ sym (append_assoc zs (o ∷ []) ys))
    ∙ ap (λ k. ((zs ++ o ∷ []) ++ ys, k)) (cond-true (nat_lt (length zs) (length (zs ++ y ∷ ys))) (length zs + 1) (length zs) (lt-ltb _ _ inside) ∙ next) in
    ap (λ s. (put_reads s os).0) there ∙ put_further (zs ++ o ∷ []) ys os all ∙ append_assoc zs (o ∷ []) os
put_further zs _ _ e = absurd (omega arith)

-- fill their entries
pub all_put : (ys os : List (Option ℕ)) → length ys ≡ length os → (put_reads (ys, 0) os).0 ≡ os
all_put ys os e = put_further [] ys os e
