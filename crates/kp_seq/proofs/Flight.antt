-- The results of an instruction in flight, as words and marks.
use Rattle.std.proofs.Common.{◌≡◌, ◌∙◌, ℕ, zero, suc, ◌<◌, ◌≤◌, List, [], ◌∷◌, Option, Some, None, Bool, true, false, length, get_or, set, drop, replicate, is_some, unwrap_or, refl, sym, ap, arith}
use Rattle.std.proofs.lemmas.List.{set_past, set-get_or, take-append-le, take_all}
use Rattle.std.specs.List.{refill}
use Rattle.kp_pipeline.specs.Sequential.{first_value}
use Rattle.kp_seq.specs.{Recorded.where_true, inner.Resolved.Raw, inner.Flight.where_set}

pub where_length : (bs : List Bool) (ws : List ℕ) → length (where_set bs ws) ≡ length bs
where_length [] ws = refl
where_length (b ∷ bs) [] = let e = where_length bs [] in omega (arith, e)
where_length (b ∷ bs) (w ∷ ws) = let e = where_length bs ws in omega (arith, e)

pub where_get : (bs : List Bool) (ws : List ℕ) (k : ℕ) → get_or (where_set bs ws) k None ≡ where_true (get_or bs k false) (get_or ws k 0)
where_get [] ws k = refl
where_get (b ∷ bs) [] zero = refl
where_get (b ∷ bs) [] (suc k) = where_get bs [] k
where_get (b ∷ bs) (w ∷ ws) zero = refl
where_get (b ∷ bs) (w ∷ ws) (suc k) = where_get bs ws k

where_put : (bs : List Bool) (ws : List ℕ) (k v : ℕ) → k < length ws → where_set (set bs k true) (set ws k v) ≡ set (where_set bs ws) k (Some v)
where_put [] ws k v l = refl
where_put (b ∷ bs) [] k v l = absurd (omega arith)
where_put (b ∷ bs) (w ∷ ws) zero v l = refl
where_put (b ∷ bs) (w ∷ ws) (suc k) v l = let e = where_put bs ws k v (omega arith) in λ i. where_true b w ∷ e i

pub where_none : (n : ℕ) (ws : List ℕ) → where_set (replicate n false) ws ≡ replicate n None
where_none zero ws = refl
where_none (suc n) [] = let e = where_none n [] in λ i. None ∷ e i
where_none (suc n) (w ∷ ws) = let e = where_none n ws in λ i. None ∷ e i

is_some_where : (b : Bool) (v : ℕ) → is_some (where_true b v) ≡ b
is_some_where false v = refl
is_some_where true v = refl

-- a result has a value where it is set
pub where_some : (bs : List Bool) (ws : List ℕ) (k : ℕ) → is_some (get_or (where_set bs ws) k None) ≡ get_or bs k false
where_some bs ws k = ap is_some (where_get bs ws k) ∙ is_some_where (get_or bs k false) (get_or ws k 0)

pub where_value : (bs : List Bool) (ws : List ℕ) (k : ℕ) → get_or bs k false ≡ true → unwrap_or (get_or (where_set bs ws) k None) 0 ≡ get_or ws k 0
where_value bs ws k on = ap (λ (o : Option ℕ). unwrap_or o 0) (where_get bs ws k ∙ ap (λ (b : Bool). where_true b (get_or ws k 0)) on)

-- a result is set, if it has no value yet
pub where_first : (bs : List Bool) (ws : List ℕ) (k v : ℕ) → k < length ws → get_or bs k false ≡ false
    → where_set (set bs k true) (set ws k v) ≡ set (where_set bs ws) k (first_value (get_or (where_set bs ws) k None) (Some v))
where_first bs ws k v l off =
    let none : get_or (where_set bs ws) k None ≡ None = where_get bs ws k ∙ ap (λ (b : Bool). where_true b (get_or ws k 0)) off in
    where_put bs ws k v l ∙ ap (λ (o : Option ℕ). set (where_set bs ws) k (first_value o (Some v))) (sym none)

pub where_kept : (bs : List Bool) (ws : List ℕ) (k v : ℕ) → get_or bs k false ≡ true → where_set bs ws ≡ set (where_set bs ws) k (first_value (get_or (where_set bs ws) k None) (Some v))
where_kept bs ws k v on =
    let some : get_or (where_set bs ws) k None ≡ Some (get_or ws k 0) = where_get bs ws k ∙ ap (λ (b : Bool). where_true b (get_or ws k 0)) on in
    sym (set-get_or (where_set bs ws) k None) ∙ ap (λ (o : Option ℕ). set (where_set bs ws) k o) (some ∙ ap (λ (o : Option ℕ). first_value o (Some v)) (sym some))

pub where_past : (bs : List Bool) (ws : List ℕ) (k v : ℕ) → length bs ≤ k → where_set bs ws ≡ set (where_set bs ws) k (first_value (get_or (where_set bs ws) k None) (Some v))
where_past bs ws k v l = sym (set_past (where_set bs ws) k _ (omega (arith, l, where_length bs ws)))

-- all values of a list are replaced
pub refill_same : {X : Type 0} (xs ws : List X) → length ws ≡ length xs → refill (length xs) xs ws ≡ ws
refill_same xs ws e = take-append-le (length xs) ws (drop (length ws) xs) (omega (arith, e)) ∙ take_all (length xs) ws (omega (arith, e))

-- an instruction in flight with other pipes and results
abbrev pub raw : List ℕ → List ℕ → List (Option ℕ) → Raw
raw names pipes results = record { names = names; pipes = pipes; results = results }

pub outputs_are : (names pipes others : List ℕ) (results more : List (Option ℕ)) → pipes ≡ others → results ≡ more
    → raw names pipes results ≡ raw names others more
outputs_are names pipes others results more p r = λ i. record { names = names; pipes = p i; results = r i }
