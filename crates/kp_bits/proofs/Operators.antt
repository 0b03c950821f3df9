-- What the table of operators says of their results.
use Rattle.std.proofs.Common.{◌≡◌, ◌∙◌, ℕ, ◌+◌, ◌-◌, ◌*◌, ◌%◌, ◌^◌, ◌<◌, ◌==◌, Bool, true, false, cond, Some, None, refl, sym, ap, subst, arith, bit_and, bit_or}
use Rattle.std.proofs.{Math.Nat.add_comm, Math.Nat.mul_comm, Math.Nat.mod-eq_of_lt, lemmas.Bool.false≢true}
use Rattle.std.proofs.lemmas.Nat.{and_comm, or_comm, xor_comm, and_mask}
use Rattle.std.specs.Int.Bits.{and_zero_r, or_zero_r, or_add_and}
use Rattle.std.proofs.lemmas.Bool.Decides.{Decides-eqb, Decides-like, same_from_decides}
use Rattle.kp_bits.specs.{Word.Word, Word.word, Word.IsWord, declared.operator.BinOp.BinOp}
use Rattle.kp_bits.specs.contracts.operator.BinOpPartialEq.TheImpl as derived
use Rattle.kp_bits.specs.Operators.{is_shift, result_width, commutes, masking_zero, on_words, binary_of}
use Rattle.kp_bits.proofs.Words.{and_word, or_word, xor_word, add_word, sub_word, mul_word, eq_word, lt_word, shl_word, shr_word}
use Rattle.kp_bits.proofs.Machine.{add_number, sub_number, shl_number, shr_number}

pub binary_word : (op : BinOp) (a b : Word) → IsWord a → IsWord b → (is_shift op ≡ false → a.width ≡ b.width) → IsWord (binary_of op a b)
binary_word BinOp.And a b h k e = and_word a b h
binary_word BinOp.Or a b h k e = or_word a b h k (e refl)
binary_word BinOp.Xor a b h k e = xor_word a b h k (e refl)
binary_word BinOp.Add a b h k e = add_word a b h
binary_word BinOp.Sub a b h k e = sub_word a b h
binary_word BinOp.Mul a b h k e = mul_word a b h
binary_word BinOp.Eq a b h k e = eq_word a b
binary_word BinOp.Lt a b h k e = lt_word a b
binary_word BinOp.Shl a b h k e = shl_word a b h
binary_word BinOp.Shr a b h k e = shr_word a b h

pub binary_width : (op : BinOp) (a b : Word) → (binary_of op a b).width ≡ result_width op a.width
binary_width BinOp.And a b = refl
binary_width _ a b = refl

pub computed : (op : BinOp) (a b : Word) (mask : ℕ) → IsWord a → IsWord b → (is_shift op ≡ false → a.width ≡ b.width) → mask ≡ 2 ^ a.width - 1
    → on_words op a.value b.value a.width mask ≡ (binary_of op a b).value
computed BinOp.Add a b mask h k e m = add_number a.width (a.value + b.value) mask h.at_most m
computed BinOp.Sub a b mask h k e m = sub_number a.width a.value b.value mask h.at_most (rw (e refl) k.fits) m
computed BinOp.Mul a b mask h k e m = add_number a.width (a.value * b.value) mask h.at_most m
computed BinOp.Shl a b mask h k e m = shl_number a.width a.value b.value mask h.at_most m
computed BinOp.Shr a b mask h k e m = shr_number a.width a.value b.value h.at_most
computed _ a b mask h k e m = refl

-- the word of the computed number
pub applied : (op : BinOp) (a b : Word) (w n mask : ℕ) → IsWord a → IsWord b → (is_shift op ≡ false → a.width ≡ b.width) → mask ≡ 2 ^ a.width - 1
    → w ≡ result_width op a.width → n ≡ on_words op a.value b.value a.width mask → word w n ≡ binary_of op a b
applied op a b w n mask h k e m i j =
    let p : w ≡ (binary_of op a b).width = i ∙ sym (binary_width op a b) in
    let q : n ≡ (binary_of op a b).value = j ∙ computed op a b mask h k e m in
    λ t. word (p t) (q t)

pub applied_word : (op : BinOp) (a b : Word) (w n mask : ℕ) → IsWord a → IsWord b → (is_shift op ≡ false → a.width ≡ b.width) → mask ≡ 2 ^ a.width - 1
    → w ≡ result_width op a.width → n ≡ on_words op a.value b.value a.width mask → IsWord (word w n)
applied_word op a b w n mask h k e m i j = subst IsWord (sym (applied op a b w n mask h k e m i j)) (binary_word op a b h k e)

test_swaps : (x y : ℕ) → (x == y) ≡ (y == x)
test_swaps x y = same_from_decides (x == y) (y == x) (Decides-eqb x y) (Decides-like (y == x) sym sym (Decides-eqb y x))

pub commuted : (op : BinOp) (a b : Word) → commutes op ≡ true → a.width ≡ b.width → binary_of op a b ≡ binary_of op b a
commuted BinOp.And a b c w = λ i. word (w i) (and_comm a.value b.value i)
commuted BinOp.Or a b c w = λ i. word (w i) (or_comm a.value b.value i)
commuted BinOp.Xor a b c w = λ i. word (w i) (xor_comm a.value b.value i)
commuted BinOp.Add a b c w = λ i. word (w i) (add_comm a.value b.value i % 2 ^ w i)
commuted BinOp.Mul a b c w = λ i. word (w i) (mul_comm a.value b.value i % 2 ^ w i)
commuted BinOp.Eq a b c w = ap (λ (t : Bool). word 1 (cond t 1 0)) (test_swaps a.value b.value)
commuted _ a b c w = absurd (false≢true c)

-- the words of a masking operator
ones_left : (a b w : ℕ) → b < 2 ^ w → a ≡ 2 ^ w - 1 → bit_and a b ≡ b
ones_left a b w h e = and_comm a b ∙ ap (bit_and b) e ∙ and_mask b w ∙ mod-eq_of_lt h

pub masked : (op : BinOp) (a b : Word) → IsWord b → a.width ≡ b.width → masking_zero op a.width ≡ Some a.value → binary_of op a b ≡ a
masked BinOp.And a b h w s =
    let e : a.value ≡ 0 = cc in
    ap (word a.width) (ap (λ n. bit_and n b.value) e ∙ and_comm 0 b.value ∙ and_zero_r b.value ∙ sym e)
masked BinOp.Or a b h w s =
    let e : a.value ≡ 2 ^ a.width - 1 = cc in
    let both : bit_and a.value b.value ≡ b.value = ones_left a.value b.value a.width (rw w h.fits) e in
    let sum = or_add_and a.value b.value in
    let v : bit_or a.value b.value ≡ a.value = omega arith in
    ap (word a.width) v
masked _ a b h w s = absurd (let n : None ≡ Some a.value = s in cc)

pub unmasked : (op : BinOp) (a b : Word) (z : ℕ) → IsWord b → a.width ≡ b.width → masking_zero op a.width ≡ Some z → a.value + z ≡ 2 ^ a.width - 1 → binary_of op a b ≡ b
unmasked BinOp.And a b z h w s e =
    let none : z ≡ 0 = cc in
    let v : bit_and a.value b.value ≡ b.value = ones_left a.value b.value a.width (rw w h.fits) (omega (arith, none, e)) in
    λ i. word (w i) (v i)
unmasked BinOp.Or a b z h w s e =
    let all : z ≡ 2 ^ a.width - 1 = cc in
    let none : a.value ≡ 0 = omega (arith, all, e) in
    let v : bit_or a.value b.value ≡ b.value = ap (λ n. bit_or n b.value) none ∙ or_comm 0 b.value ∙ or_zero_r b.value in
    λ i. word (w i) (v i)
unmasked _ a b z h w s e = absurd (let n : None ≡ Some z = s in cc)

-- `==` on operators is equality
pub same : (o p : BinOp) → derived.eq-value.it o p ≡ true → o ≡ p
same BinOp.And BinOp.And h = refl
same BinOp.Or BinOp.Or h = refl
same BinOp.Xor BinOp.Xor h = refl
same BinOp.Add BinOp.Add h = refl
same BinOp.Sub BinOp.Sub h = refl
same BinOp.Mul BinOp.Mul h = refl
same BinOp.Eq BinOp.Eq h = refl
same BinOp.Lt BinOp.Lt h = refl
same BinOp.Shl BinOp.Shl h = refl
same BinOp.Shr BinOp.Shr h = refl
same o p h = absurd (false≢true h)

pub same_itself : (o : BinOp) → derived.eq-value.it o o ≡ true
same_itself BinOp.And = refl
same_itself _ = refl
