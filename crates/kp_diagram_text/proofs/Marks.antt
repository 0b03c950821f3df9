use Rattle.std.proofs.Common.{◌≡◌, ℕ, suc, ◌+◌, ◌<◌, ◌≤◌, Bool, true, false, cond, not, ◌&&◌, ◌||◌, leb, ltb, Option, Some, None, refl, sym, ap, ap₂, ◌∙◌, ⊎_elim, arith, le-leb}
use Rattle.std.proofs.lemmas.Bool.{cases_lt, lt-leb, lt-ltb, le-ltb, cond-true, cond-false}
use Rattle.kp_base.specs.declared.row.Row.{Row}
use Rattle.kp_pipeline.specs.Rows.{bit}
use Rattle.kp_pipeline.proofs.Lists.{bit-at}
use Rattle.kp_diagram.specs.Diagram.{Moves, WaitsForValue, WaitsForStage, Held, Squashed, fetches_next, is_squashed, is_waiting, mark, next_place}
use Rattle.kp_diagram.proofs.Steps.{bit-past}
use Rattle.kp_sched.specs.Rows.{bit_of, row_seen}

-- WHAT THE CODE TESTS of a row of masks, as the diagram's definitions ask it of the row of bits.
pub ue_seen : (n : ℕ) (r : Row) (k : ℕ) → k < n → bit (row_seen n r).ue k ≡ bit_of r.ue k
ue_seen n r k b = bit-at (bit_of r.ue) n k b

pub full_seen : (n : ℕ) (r : Row) (k : ℕ) → k < n → bit (row_seen n r).full k ≡ bit_of r.full k
full_seen n r k b = bit-at (bit_of r.full) n k b

pub squashed_seen : (n : ℕ) (r : Row) (k : ℕ) → ltb k r.back ≡ is_squashed (row_seen n r) k
squashed_seen n r k =
    ⊎_elim (λ (h : k < r.back). lt-ltb k r.back h ∙ sym (ap not (lt-leb r.back k h)))
    (λ (h : r.back ≤ k). le-ltb k r.back h ∙ sym (ap not (le-leb r.back k h))) (cases_lt k r.back)

pub waiting_is : (n : ℕ) (r : Row) (k : ℕ) (full ue : Bool) → k < n → bit_of r.full k ≡ full → bit_of r.ue k ≡ ue
    → is_waiting (row_seen n r) k ≡ (full && not ue)
waiting_is n r k full ue b f u = rw (full_seen n r k b ∙ f, ue_seen n r k b ∙ u) refl

pub waiting_past : (n : ℕ) (r : Row) (k : ℕ) → n ≤ k → is_waiting (row_seen n r) k ≡ false
waiting_past n r k b = rw (bit-past (bit_of r.full) n 0 k b) refl

pub mark_is : (n word : ℕ) (r : Row) (k : ℕ) (squashed ue held ahead : Bool) → k < n
    → is_squashed (row_seen n r) k ≡ squashed → bit_of r.ue k ≡ ue → bit_of word k ≡ held → is_waiting (row_seen n r) (suc k) ≡ ahead
    → mark (bit_of word) (row_seen n r) k ≡ cond squashed Squashed (cond ue Moves (cond held Held (cond ahead WaitsForStage WaitsForValue)))
mark_is n word r k squashed ue held ahead b s u h a = rw (s, ue_seen n r k b ∙ u, h, a) refl

pub place_is : (n : ℕ) (r : Row) (k : ℕ) (squashed ue : Bool) → k < n
    → is_squashed (row_seen n r) k ≡ squashed → bit_of r.ue k ≡ ue
    → next_place n (row_seen n r) k ≡ cond squashed None (cond ue (cond (leb n (suc k)) None (Some (suc k))) (Some k))
place_is n r k squashed ue b s u = rw (s, ue_seen n r k b ∙ u) refl

-- the same for each way through the code
swept : (n : ℕ) (r : Row) (k : ℕ) (s : Bool) → ltb k r.back ≡ s → is_squashed (row_seen n r) k ≡ s
swept n r k s e = sym (squashed_seen n r k) ∙ e

pub mark_squashed : (n word : ℕ) (r : Row) (k : ℕ) → k < n → ltb k r.back ≡ true → Squashed ≡ mark (bit_of word) (row_seen n r) k
mark_squashed n word r k b s = sym (mark_is n word r k true _ _ _ b (swept n r k true s) refl refl refl)

pub mark_moves : (n word : ℕ) (r : Row) (k : ℕ) → k < n → ltb k r.back ≡ false → bit_of r.ue k ≡ true
    → Moves ≡ mark (bit_of word) (row_seen n r) k
mark_moves n word r k b s u = sym (mark_is n word r k false true _ _ b (swept n r k false s) u refl refl)

pub mark_held : (n word : ℕ) (r : Row) (k : ℕ) → k < n → ltb k r.back ≡ false → bit_of r.ue k ≡ false → bit_of word k ≡ true
    → Held ≡ mark (bit_of word) (row_seen n r) k
mark_held n word r k b s u h = sym (mark_is n word r k false false true _ b (swept n r k false s) u h refl)

pub mark_ahead : (n word : ℕ) (r : Row) (k : ℕ) → k < n → ltb k r.back ≡ false → bit_of r.ue k ≡ false → bit_of word k ≡ false
    → is_waiting (row_seen n r) (k + 1) ≡ true → WaitsForStage ≡ mark (bit_of word) (row_seen n r) k
mark_ahead n word r k b s u h a =
    let e : k + 1 ≡ suc k = omega arith in
    sym (mark_is n word r k false false false true b (swept n r k false s) u h (rw e at a))

pub mark_value : (n word : ℕ) (r : Row) (k : ℕ) → k < n → ltb k r.back ≡ false → bit_of r.ue k ≡ false → bit_of word k ≡ false
    → is_waiting (row_seen n r) (k + 1) ≡ false → WaitsForValue ≡ mark (bit_of word) (row_seen n r) k
mark_value n word r k b s u h a =
    let e : k + 1 ≡ suc k = omega arith in
    sym (mark_is n word r k false false false false b (swept n r k false s) u h (rw e at a))

pub mark_value_last : (n word : ℕ) (r : Row) (k : ℕ) → k < n → ltb k r.back ≡ false → bit_of r.ue k ≡ false → bit_of word k ≡ false
    → n ≤ k + 1 → WaitsForValue ≡ mark (bit_of word) (row_seen n r) k
mark_value_last n word r k b s u h a = mark_value n word r k b s u h (waiting_past n r (k + 1) a)

pub place_none : (n : ℕ) (r : Row) (k : ℕ) → k < n → ltb k r.back ≡ true → None ≡ next_place n (row_seen n r) k
place_none n r k b s = sym (place_is n r k true _ b (swept n r k true s) refl)

pub place_stays : (n : ℕ) (r : Row) (k : ℕ) → k < n → ltb k r.back ≡ false → bit_of r.ue k ≡ false
    → Some k ≡ next_place n (row_seen n r) k
place_stays n r k b s u = sym (place_is n r k false false b (swept n r k false s) u)

one_more : (k : ℕ) → k + 1 ≡ suc k
one_more k = omega arith

after_is : (n k : ℕ) → cond (ltb (k + 1) n) (Some (k + 1)) None ≡ cond (leb n (suc k)) None (Some (suc k))
after_is n k = ⊎_elim
    (λ (h : k + 1 < n). cond-true (ltb (k + 1) n) (Some (k + 1)) None (lt-ltb (k + 1) n h) ∙ ap (λ (x : ℕ). Some x) (one_more k)
    ∙ sym (cond-false (leb n (suc k)) None (Some (suc k)) (lt-leb n (suc k) (omega arith))))
    (λ (h : n ≤ k + 1). cond-false (ltb (k + 1) n) (Some (k + 1)) None (le-ltb (k + 1) n h)
    ∙ sym (cond-true (leb n (suc k)) None (Some (suc k)) (le-leb n (suc k) (omega arith))))
    (cases_lt (k + 1) n)

pub place_after : (n : ℕ) (r : Row) (k : ℕ) (j : Option ℕ) → k < n → ltb k r.back ≡ false → bit_of r.ue k ≡ true
    → j ≡ cond (ltb (k + 1) n) (Some (k + 1)) None → j ≡ next_place n (row_seen n r) k
place_after n r k j b s u is = is ∙ after_is n k ∙ sym (place_is n r k false true b (swept n r k false s) u)

pub fetches_seen : (n : ℕ) (r : Row) → 2 ≤ n → fetches_next (row_seen n r) ≡ (bit_of r.ue 0 || ltb 0 r.back)
fetches_seen n r b = ap₂ (λ (x y : Bool). x || y) (ue_seen n r 0 (omega arith)) (sym (squashed_seen n r 0))

pub waiting_seen : (n : ℕ) (r : Row) (k : ℕ) → k < n → is_waiting (row_seen n r) k ≡ (bit_of r.full k && not (bit_of r.ue k))
waiting_seen n r k b = waiting_is n r k _ _ b refl refl
