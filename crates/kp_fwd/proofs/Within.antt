-- Depths while the pool grows, and in the halves of a tree.
use Rattle.std.proofs.Common.{◌≡◌, ℕ, zero, suc, ◌-◌, ◌*◌, ◌/◌, ◌^◌, ◌≤◌, List, All, refl, arith}
use Rattle.kp_net.{specs.Growth.Held, specs.Growth.Grown, proofs.Depths.still_no_deeper, proofs.Depths.deeper_yet}
use Rattle.kp_fwd.specs.{declared.entries.Candidate.Candidate, declared.entries.Picked.Picked, Forward.CandidateOk, Forward.IsWithin, Forward.IsPickedWithin}

pub within_grown : (p q : Held) (k w d : ℕ) (r : Candidate) → Grown p q k → CandidateOk p w r → IsWithin p d r → IsWithin q d r
within_grown p q k w d r g o h = record {
  hit = still_no_deeper p q k r.hit 1 d g o.hit h.hit;
  ok = still_no_deeper p q k r.ok 1 d g o.ok h.ok;
  value = still_no_deeper p q k r.value w d g o.value h.value;
}

pub all_within_grown : (p q : Held) (k w d : ℕ) (rows : List Candidate) → Grown p q k → All (CandidateOk p w) rows → All (IsWithin p d) rows → All (IsWithin q d) rows
all_within_grown p q k w d rows g o h j x l = within_grown p q k w d _ g (o j x l) (h j x l)

pub within_more : (p : Held) (d e : ℕ) (r : Candidate) → d ≤ e → IsWithin p d r → IsWithin p e r
within_more p d e r l h = record {
  hit = deeper_yet p.nodes r.hit d e h.hit l;
  ok = deeper_yet p.nodes r.ok d e h.ok l;
  value = deeper_yet p.nodes r.value d e h.value l;
}

pub picked_more : (p : Held) (d e : ℕ) (r : Picked) → d ≤ e → IsPickedWithin p d r → IsPickedWithin p e r
picked_more p d e r l h = record {
  any = deeper_yet p.nodes r.any d e h.any l;
  ok = deeper_yet p.nodes r.ok d e h.ok l;
  value = deeper_yet p.nodes r.value d e h.value l;
}

-- two or more rows fill a tree of at least one level, and their halves a tree of one level less
pub halves : (n l : ℕ) → 2 ≤ n → n ≤ 2 ^ l → (m : ℕ) × (l ≡ suc m) × (n / 2 ≤ 2 ^ m) × (n - n / 2 ≤ 2 ^ m)
halves n zero h k = absurd (omega arith)
halves n (suc m) h k = let e : 2 ^ (suc m) ≡ 2 * 2 ^ m = omega arith in (m, refl, omega arith, omega arith)
