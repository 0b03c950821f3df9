-- Extensions as concatenations.
use Rattle.std.proofs.Common.{◌≡◌, ◌∙◌, ℕ, suc, ◌+◌, ◌-◌, ◌*◌, ◌/◌, ◌%◌, ◌^◌, ◌<◌, ◌≤◌, Bool, true, false, cond, eqb, ltb, refl, ap, sym, inl, inr, arith}
use Rattle.std.proofs.{Math.Nat.div-eq_of_lt, Math.Nat.div-eq_of_lt-le, Math.Nat.two-pow-succ, lemmas.Nat.pow-add, lemmas.Nat.pow_pos}
use Rattle.std.proofs.lemmas.Bool.{cond-true, cond-false, lt-ltb, le-ltb, cases_lt}
use Rattle.kp_bits.specs.Word.{Word, word, IsWord, not_of, concat_of, sext_of}
use Rattle.kp_build.specs.inner.Showing.{copies}

unchanged : (t : Bool) (x m : ℕ) → cond t x (x + (m - m)) ≡ x
unchanged true x m = refl
unchanged false x m = omega arith

-- to the present width
pub sext_same : (a : Word) → sext_of a a.width ≡ a
sext_same a = ap (word a.width) (unchanged (ltb a.value (2 ^ (a.width - 1))) a.value (2 ^ a.width))

module _ (a : Word) (n : ℕ) (h : IsWord a) where
  abbrev top : ℕ
  top = a.width - 1

  low : a.value < 2 ^ top → sext_of a (n + a.width) ≡ concat_of (copies n a) a
  low c =
      let bit : a.value / 2 ^ top % 2 ^ (top + 1 - top) ≡ 0 = rw (div-eq_of_lt c) (omega arith) in
      let new : copies n a ≡ word n 0 = ap (λ t. cond (eqb t 1) (not_of (word n 0)) (word n 0)) bit in
      ap (word (n + a.width)) (cond-true (ltb a.value (2 ^ top)) a.value (a.value + (2 ^ (n + a.width) - 2 ^ a.width)) (lt-ltb a.value (2 ^ top) c))
      ∙ ap (word (n + a.width)) (omega arith)
      ∙ sym (ap (λ x. concat_of x a) new)

  high : 2 ^ top ≤ a.value → sext_of a (n + a.width) ≡ concat_of (copies n a) a
  high c =
      let f = h.fits in
      let p = h.positive in
      let e : a.width ≡ suc top = omega arith in
      let m = ap (λ k. 2 ^ k) e ∙ two-pow-succ top in
      let one_bit : top + 1 - top ≡ 1 = omega arith in
      let one : a.value / 2 ^ top ≡ 1 = div-eq_of_lt-le (2 ^ top) (omega arith) (omega arith) in
      let bit : a.value / 2 ^ top % 2 ^ (top + 1 - top) ≡ 1 = rw (one, one_bit) refl in
      let new : copies n a ≡ not_of (word n 0) = ap (λ t. cond (eqb t 1) (not_of (word n 0)) (word n 0)) bit in
      let p = pow_pos n in
      let s : 2 ^ n ≡ (2 ^ n - 1 - 0) + 1 = omega arith in
      let all : 2 ^ (n + a.width) ≡ ((2 ^ n - 1 - 0) + 1) * 2 ^ a.width = pow-add 2 n a.width ∙ ap (λ x. x * 2 ^ a.width) s in
      let sum : a.value + (2 ^ (n + a.width) - 2 ^ a.width) ≡ (2 ^ n - 1 - 0) * 2 ^ a.width + a.value = omega arith in
      ap (word (n + a.width)) (cond-false (ltb a.value (2 ^ top)) a.value (a.value + (2 ^ (n + a.width) - 2 ^ a.width)) (le-ltb a.value (2 ^ top) c))
      ∙ ap (word (n + a.width)) sum
      ∙ sym (ap (λ x. concat_of x a) new)

  -- sext puts copies of the top bit in front
  pub sext_concat : sext_of a (n + a.width) ≡ concat_of (copies n a) a
  sext_concat = elim (cases_lt a.value (2 ^ (a.width - 1))) [ inl c ↦ low c | inr c ↦ high c ]
