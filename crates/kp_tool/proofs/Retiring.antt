-- Throughput and latency.
use Rattle.std.proofs.Common.{◌≡◌, ℕ, zero, suc, ◌+◌, ◌-◌, ◌*◌, ◌<◌, ◌≤◌, Bool, true, false, cond, leb, List, [], ◌∷◌, length, take, drop, Option, Some, None, refl, sym, ap, ◌∙◌, subst, ⊎_elim, arith, le-leb}
use Rattle.std.proofs.lemmas.Bool.{cases_Bool, cases_lt, cond-true, cond-false, lt-leb, not_from_true, not_from_false}
use Rattle.kp_pipeline.specs.{Machine.Machine, Accepted.Accepted}
use Rattle.kp_pipeline.specs.Pipeline.{Inputs, PipelineState, back, cycle, mismatches, pipeline_start, ue}
use Rattle.kp_pipeline.specs.Rows.{Row, bit, bits, one_if, passed, pipe, row, rows_from}
use Rattle.kp_pipeline.proofs.{Lists.bit-at, Cycle.greatest-bound, Invariant.Shape, Many.retire_many, Pending.shape-kept, Pending.shape-start, Progress.moves}
use Rattle.kp_pipeline.proofs.Movement.{count-moved, count-one, count-stays, count-swept, next_count}
use Rattle.kp_diagram.specs.Diagram.{next_place, is_squashed}
use Rattle.kp_tool.specs.Retiring.{IsInTime, count_full, older, place_after, stalled_cycles}

-- an instruction that is in no stage stays so
nowhere : (n : ℕ) (rows : List Row) → place_after n rows None ≡ None
nowhere n [] = refl
nowhere n (r ∷ rows) = refl

no_row : {r : Row} {rows : List Row} → [] ≡ r ∷ rows → ⊥
no_row e = cc

none_or_some : {j : ℕ} → None ≡ Some j → ⊥
none_or_some e = cc

drop-bits : (f : ℕ → Bool) (n k j l d : ℕ) → n ≡ j + d → l ≡ k + j → drop j (bits f n k) ≡ bits f d l
drop-bits f n k zero l d e x =
    let y : n ≡ d = omega arith in
    let z : k ≡ l = omega arith in
    ap (λ (a : ℕ). bits f a k) y ∙ ap (λ (a : ℕ). bits f d a) z
drop-bits f zero k (suc j) l d e x = absurd (omega arith)
drop-bits f (suc n) k (suc j) l d e x = drop-bits f n (suc k) j l d (omega arith) (omega arith)

module _ (m : Machine) (st : PipelineState) (count : ℕ → ℕ) (chain : (k : ℕ) → suc k < m.stages → count k ≡ count (suc k) + one_if (st.stage (suc k)).full) where
  -- the full stages above a stage are the numbers between
  counted : (d k : ℕ) → k + suc d ≡ m.stages → count k ≡ count (m.stages - 1) + count_full (bits (λ j. (st.stage j).full) d (suc k))
  counted zero k e =
      let x : m.stages - 1 ≡ k = omega arith in
      let y : count (m.stages - 1) ≡ count k = ap count x in
      omega arith
  counted (suc d) k e =
      let x = chain k (omega arith) in
      let y = counted d (suc k) (omega arith) in
      omega arith

module _ (m : Machine) (st : PipelineState) (i : Inputs) (count : ℕ → ℕ) (shape : Shape m st count) where
  older-counted : (k : ℕ) → k < m.stages → count k ≡ count (m.stages - 1) + older (row m st i) k
  older-counted k b =
      let x = counted m st count shape.chain (m.stages - suc k) k (omega arith) in
      let y : older (row m st i) k ≡ count_full (bits (λ j. (st.stage j).full) (m.stages - suc k) (suc k)) =
      ap count_full (drop-bits (λ j. (st.stage j).full) m.stages 0 (suc k) (suc k) (m.stages - suc k) (omega arith) (omega arith)) in
      omega arith

  back-bound : back m st i ≤ m.stages
  unfolding back
  back-bound = greatest-bound (mismatches m st i) m.stages

  -- the number of the last stage counts what leaves it
  last-counted : 0 < m.stages → next_count m st i count (m.stages - 1) ≡ count (m.stages - 1) + one_if (ue m st i (m.stages - 1))
  last-counted some = ⊎_elim
      (λ (u : ue m st i (m.stages - 1) ≡ true).
      let x = count-one m st i count shape.chain (m.stages - 1) (omega arith) u in
      let z : one_if (ue m st i (m.stages - 1)) ≡ 1 = ap one_if u in
      omega arith)
      (λ (u : ue m st i (m.stages - 1) ≡ false).
      let z : one_if (ue m st i (m.stages - 1)) ≡ 0 = ap one_if u in
      ⊎_elim
      (λ (b : m.stages - 1 < back m st i).
      let c = back-bound in
      let x = count-swept m st i count (m.stages - 1) b in
      let y : back m st i - 1 ≡ m.stages - 1 = omega arith in
      let w : count (back m st i - 1) ≡ count (m.stages - 1) = ap count y in
      omega arith)
      (λ (b : back m st i ≤ m.stages - 1).
      let x = count-stays m st i count (m.stages - 1) b u in
      omega arith)
      (cases_lt (m.stages - 1) (back m st i)))
      (cases_Bool (ue m st i (m.stages - 1)))

-- where an instruction is after a cycle
module _ (n : ℕ) (r : Row) (k : ℕ) where
  place-squashed : leb r.back k ≡ false → next_place n r k ≡ None
  place-squashed q = cond-true (is_squashed r k) _ _ (not_from_false _ q)

  unsquashed : leb r.back k ≡ true → next_place n r k ≡ cond (bit r.ue k) (cond (leb n (suc k)) None (Some (suc k))) (Some k)
  unsquashed q = cond-false (is_squashed r k) _ _ (not_from_true _ q)

  place-left : leb r.back k ≡ true → bit r.ue k ≡ true → leb n (suc k) ≡ true → next_place n r k ≡ None
  place-left q u l = unsquashed q ∙ (cond-true (bit r.ue k) _ _ u ∙ cond-true (leb n (suc k)) _ _ l)

  place-moved : leb r.back k ≡ true → bit r.ue k ≡ true → leb n (suc k) ≡ false → next_place n r k ≡ Some (suc k)
  place-moved q u l = unsquashed q ∙ (cond-true (bit r.ue k) _ _ u ∙ cond-false (leb n (suc k)) _ _ l)

  place-kept : leb r.back k ≡ true → bit r.ue k ≡ false → next_place n r k ≡ Some k
  place-kept q u = unsquashed q ∙ cond-false (bit r.ue k) _ _ u

-- An instruction that is still in a stage has had no more instructions leave than were older.
tracked : (m : Machine) (acc : Accepted m) (ins : List Inputs) (st : PipelineState) (count : ℕ → ℕ) → Shape m st count → (U k j : ℕ) → k < m.stages
    → U ≤ length (rows_from m st ins) → place_after m.stages (take U (rows_from m st ins)) (Some k) ≡ Some j
    → count (m.stages - 1) + passed (rows_from m st ins) (m.stages - 1) U ≤ count k
tracked m acc ins st count shape zero k j b short e =
    let x = counted m st count shape.chain (m.stages - suc k) k (omega arith) in
    omega arith
tracked m acc [] st count shape (suc U) k j b short e = absurd (omega arith)
tracked m acc (i ∷ ins) st count shape (suc U) k j b short e =
    let top = last-counted m st i count shape (omega arith) in
    let bit_is : one_if (bit (row m st i).ue (m.stages - 1)) ≡ one_if (ue m st i (m.stages - 1)) = ap one_if (bit-at (ue m st i) m.stages (m.stages - 1) (omega arith)) in
    let here : bit (row m st i).ue k ≡ ue m st i k = bit-at (ue m st i) m.stages k b in
    let rows : List Row = take U (rows_from m (cycle m st i) ins) in
    let next : Shape m (cycle m st i) (next_count m st i count) = shape-kept m acc st i count shape in
    let gone : next_place m.stages (row m st i) k ≡ None → ⊥ =
    λ q. let z : place_after m.stages rows (next_place m.stages (row m st i) k) ≡ None = ap (place_after m.stages rows) q ∙ nowhere m.stages rows in none_or_some (sym z ∙ e) in
    let on : (l : ℕ) → next_place m.stages (row m st i) k ≡ Some l → place_after m.stages rows (Some l) ≡ Some j =
    λ l q. ap (place_after m.stages rows) (sym q) ∙ e in
    ⊎_elim
    (λ (s : k < back m st i). absurd (gone (place-squashed m.stages (row m st i) k (lt-leb (back m st i) k s))))
    (λ (s : back m st i ≤ k).
    let calm : leb (back m st i) k ≡ true = le-leb (back m st i) k s in
    ⊎_elim
    (λ (u : ue m st i k ≡ true).
    ⊎_elim
    (λ (l : suc k < m.stages).
    let x = tracked m acc ins (cycle m st i) (next_count m st i count) next U (suc k) j l (omega arith) (on (suc k) (place-moved m.stages (row m st i) k calm (here ∙ u) (lt-leb m.stages (suc k) l))) in
    let y = count-moved m st i count shape.chain k l u in
    omega arith)
    (λ (l : m.stages ≤ suc k). absurd (gone (place-left m.stages (row m st i) k calm (here ∙ u) (le-leb m.stages (suc k) l))))
    (cases_lt (suc k) m.stages))
    (λ (u : ue m st i k ≡ false).
    let x = tracked m acc ins (cycle m st i) (next_count m st i count) next U k j b (omega arith) (on k (place-kept m.stages (row m st i) k calm (here ∙ u))) in
    let y = count-stays m st i count k s u in
    omega arith)
    (cases_Bool (ue m st i k)))
    (cases_lt k (back m st i))

-- the same from cycle T on, with the row of this cycle
tracked-from : (m : Machine) (acc : Accepted m) (ins : List Inputs) (st : PipelineState) (count : ℕ → ℕ) → Shape m st count
    → (T U k j : ℕ) (r : Row) (rest : List Row) → drop T (rows_from m st ins) ≡ r ∷ rest → k < m.stages → T ≤ U → U ≤ length (rows_from m st ins)
    → place_after m.stages (take (U - T) (r ∷ rest)) (Some k) ≡ Some j
    → passed (rows_from m st ins) (m.stages - 1) U - passed (rows_from m st ins) (m.stages - 1) T ≤ older r k
tracked-from m acc [] st count shape zero U k j r rest e b c short p = absurd (no_row e)
tracked-from m acc (i ∷ ins) st count shape zero U k j r rest e b c short p =
    let all : List Row = rows_from m st (i ∷ ins) in
    let x : place_after m.stages (take U all) (Some k) ≡ Some j =
    subst (λ (rows : List Row). place_after m.stages (take U rows) (Some k) ≡ Some j) (sym e) (let z : U - 0 ≡ U = omega arith in subst (λ (l : ℕ). place_after m.stages (take l (r ∷ rest)) (Some k) ≡ Some j) z p) in
    let y = tracked m acc (i ∷ ins) st count shape U k j b short x in
    let z = older-counted m st i count shape k b in
    let f : row m st i ∷ rows_from m (cycle m st i) ins ≡ r ∷ rest = e in
    let g : row m st i ≡ r = cc f in
    let w : older (row m st i) k ≡ older r k = ap (λ (x : Row). older x k) g in
    omega arith
tracked-from m acc [] st count shape (suc T) U k j r rest e b c short p = absurd (no_row e)
tracked-from m acc (i ∷ ins) st count shape (suc T) zero k j r rest e b c short p = absurd (omega arith)
tracked-from m acc (i ∷ ins) st count shape (suc T) (suc U) k j r rest e b c short p =
    let z : suc U - suc T ≡ U - T = omega arith in
    let q : place_after m.stages (take (U - T) (r ∷ rest)) (Some k) ≡ Some j = subst (λ (l : ℕ). place_after m.stages (take l (r ∷ rest)) (Some k) ≡ Some j) z p in
    let x = tracked-from m acc ins (cycle m st i) (next_count m st i count) (shape-kept m acc st i count shape) T U k j r rest e b (omega arith) (omega arith) q in
    omega arith

by_place : (place : Option ℕ) → ((j : ℕ) → place ≡ Some j → ⊥) → place ≡ None
by_place None h = refl
by_place (Some j) h = absurd (h j refl)

pub in_time : (m : Machine) (s : ℕ → ℕ → ℕ) (hints : ℕ → ℕ) (ins : List Inputs) → Accepted m → IsInTime m.stages ins (pipe m s hints ins).rows
in_time m s hints ins acc =
    let some = acc.some_stages in
    let rows : List Row = (pipe m s hints ins).rows in
    let retire : (T U k : ℕ) → T ≤ U → U ≤ length rows → m.stages * k + stalled_cycles m.stages ins T U ≤ U - T → k ≤ passed rows (m.stages - 1) U - passed rows (m.stages - 1) T =
    λ T U k a b c. retire_many m ins (pipe m s hints ins) T U k some (moves m s hints ins acc) a b (omega arith) in
    record {
      retire = retire;
      leave = λ T U k r rest e b full a c enough. by_place (place_after m.stages (take (U - T) (r ∷ rest)) (Some k))
          (λ j p.
          let x = retire T U (suc (older r k)) a c enough in
          let y = tracked-from m acc ins (pipeline_start s hints) (λ k. 0) (shape-start m s hints) T U k j r rest e b a c p in
          omega arith);
    }
