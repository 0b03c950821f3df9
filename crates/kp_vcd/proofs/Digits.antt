-- Bits that are written from the front.
use Rattle.std.proofs.Common.{◌≡◌, ◌∙◌, sym, ℕ, suc, ◌+◌, ◌-◌, ◌/◌, ◌%◌, ◌^◌, ◌<◌, ◌≤◌, arith, List, ◌++◌, length, take, set}
use Rattle.std.proofs.lemmas.List.{append_assoc, take_more_set, append-nil, take_all}
use Rattle.kp_vcd.specs.Text.{bit_digits}

-- one bit more is written
pub bits_more : (out : List ℕ) (i count n d : ℕ) → i < count → length out ≡ count → d ≡ 48 + n / 2 ^ (count - 1 - i) % 2 → take i out ++ bit_digits (count - i) n ≡ bit_digits count n
    → take (i + 1) (set out i d) ++ bit_digits (count - (i + 1)) n ≡ bit_digits count n
bits_more out i count n d h l is inv =
    let e : count - i ≡ suc (count - (i + 1)) = omega arith in
    let f : count - 1 - i ≡ count - (i + 1) = omega arith in
    rw (take_more_set out i d (omega arith), append_assoc, is, f) (rw e at inv)

-- all bits are written
pub bits_all : (out : List ℕ) (i count n : ℕ) → count ≤ i → length out ≡ count → take i out ++ bit_digits (count - i) n ≡ bit_digits count n → out ≡ bit_digits count n
bits_all out i count n h l inv =
    let e : count - i ≡ 0 = omega arith in
    let t : take i out ≡ out = take_all i out (omega arith) in
    sym (append-nil out) ∙ (rw (e, t) at inv)
