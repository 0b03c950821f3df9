-- The greatest stage that mismatches.
use Rattle.std.proofs.Common.{◌≡◌, ◌∙◌, ℕ, suc, ◌+◌, ◌<◌, ◌≤◌, Bool, true, false, not, ◌||◌, leb, refl, sym, ap, arith, ⊎_elim, le-leb, eqb, eqb-true, List, length, set, subst, get_or-set_same, get_or-set_other}
use Rattle.std.proofs.lemmas.Bool.{cases_Bool, cases_lt, eqb-false, lt-leb}
use Rattle.kp_pipeline.{specs.Pipeline.greatest, proofs.Cycle.greatest-above, proofs.Cycle.greatest-at}
use Rattle.kp_net.{specs.declared.node.NodeId.NodeId, specs.Growth.Held, specs.Growth.Grown, proofs.Growing.wire_grown}
use Rattle.kp_engine.specs.Misses.{node_at, BitsOk}

pub sweep_step : (p : ℕ → Bool) (n k : ℕ) → k < n → not (leb (greatest p n) k) ≡ (not (leb (greatest p n) (k + 1)) || p k)
sweep_step p n k h = ⊎_elim
    (λ (l : k + 1 < greatest p n). rw (lt-leb (greatest p n) k (omega arith), lt-leb (greatest p n) (k + 1) l) refl)
    (λ (l : greatest p n ≤ k + 1). ⊎_elim
    (λ (m : k < greatest p n).
    let e : greatest p n ≡ suc k = omega arith in
    let f = (greatest-at p n k e).0 in
    let a = le-leb (greatest p n) (k + 1) l in
    rw (lt-leb (greatest p n) k m, a, f) refl)
    (λ (m : greatest p n ≤ k).
    let f = greatest-above p n k m h in
    let a = le-leb (greatest p n) (k + 1) l in
    let b = le-leb (greatest p n) k m in
    rw (b, a, f) refl)
    (cases_lt k (greatest p n)))
    (cases_lt (k + 1) (greatest p n))

-- a property of the node at each index, after one is set
pub at_set : (P : ℕ → NodeId → Type 0) (xs : List NodeId) (i : ℕ) (v : NodeId) (k : ℕ) → i < length xs → (k ≡ i → P k v) → ((k ≡ i → ⊥) → P k (node_at xs k)) → P k (node_at (set xs i v) k)
at_set P xs i v k h a b = ⊎_elim
    (λ (e : eqb k i ≡ true). let z : k ≡ i = eqb-true k i e in let f : node_at (set xs i v) k ≡ v = ap (node_at (set xs i v)) z ∙ get_or-set_same xs i v _ h in subst (P k) (sym f) (a z))
    (λ (e : eqb k i ≡ false). let f : node_at (set xs i v) k ≡ node_at xs k = get_or-set_other xs i k v _ (λ q. eqb-false k i e q) in subst (P k) (sym f) (b (λ q. eqb-false k i e q)))
    (cases_Bool (eqb k i))

-- bits stay bits
pub bits_grown : (p q : Held) (k n : ℕ) (ns : List NodeId) → Grown p q k → BitsOk p ns n → BitsOk q ns n
bits_grown p q k n ns g h i l = wire_grown p q k (node_at ns i) 1 g (h i l)
