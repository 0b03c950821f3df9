-- Facts on a few plain variables, each proved here, where a search reads nothing else.
use Rattle.std.proofs.Common.{◌≡◌, ℕ, suc, ◌+◌, ◌<◌, Some, None, arith}

-- numbers that count up
pub none_after : (k : ℕ) → k + 0 ≡ k
none_after k = omega arith

pub none_before : (k : ℕ) → 0 + k ≡ k
none_before k = omega arith

pub next_is : (k : ℕ) → suc k ≡ k + 1
next_is k = omega arith

pub next_first : (k i : ℕ) → k + suc i ≡ suc k + i
next_first k i = omega arith

pub after_next : (k i : ℕ) → k + suc i ≡ (k + 1) + i
after_next k i = omega arith

pub within : (i m n : ℕ) → i < m → n ≡ m → i < n
within i m n l e = omega arith

-- values that are there or not
pub not_some : {X G : Type 0} (x : X) → Some x ≡ None → G
not_some x e = cc

pub same_value : {X : Type 0} (x y : X) → Some x ≡ Some y → x ≡ y
same_value x y e = cc
