-- Codes in one step have the values of the codes that they replace.
use Rattle.std.proofs.Common.{◌≡◌, ◌≢◌, ◌∙◌, ℕ, zero, suc, ◌+◌, ◌-◌, ◌*◌, ◌/◌, ◌%◌, ◌^◌, ◌<◌, ◌==◌, nat_lt, max, Bool, true, false, refl, ap, sym, subst, arith, ⊎_elim, bit_and, bit_or, slice_index}
use Rattle.std.proofs.lemmas.{Bool.lt-ltb, Bool.Decides.eqb_tells, Nat.one_shl}
use Rattle.std.proofs.lemmas.Nat.Bits.{bit_at_or, bit_at-pow_same, bit_at-pow_other, bit_at-lt, same_from_bits}
use Rattle.std.specs.{Prelude.if◌then◌else◌, Int.bit_at}
use Rattle.kp_bits.specs.declared.operator.BinOp.{BinOp}
use Rattle.kp_seq_plan.specs.{declared.code.Code.Code, Codes.value_of, Codes.value_level, Codes.space_level, Codes.member, inner.Parts.Replaces}
use Rattle.kp_seq_plan.proofs.CodeCalls.{N, at}
use Rattle.kp_seq_plan.proofs.CodeLevels.{code-Word, code-Name, code-Not, code-Binary, code-Mux, code-Slice, code-Same, code-Field, code-Flip, code-Among, code-Case}
use Rattle.kp_seq_plan.specs.declared.code.Code.TheVariants as leaf
use Rattle.kp_seq_plan.specs.declared.code.Code.TheViews as codes

pub itself : (c d : Code) → c ≡ d → Replaces c d
itself c d e = subst (λ k. Replaces c k) e (record { values = λ s. refl; space = omega arith })

eq_is : (p w width mask : ℕ) → Replaces (leaf.Same p w) (codes.Binary BinOp.Eq (leaf.Name p) (leaf.Word w) width mask)
eq_is p w width mask = record {
  values = λ s.
      at (code-Same N value_level p w) s
      ∙ sym (ap (λ (n : ℕ). if n == w then 1 else 0) (at (code-Name N value_level p) s))
      ∙ sym (ap (λ (n : ℕ). if value_of (leaf.Name p) s == n then 1 else 0) (at (code-Word N value_level w) s))
      ∙ sym (at (code-Binary N value_level BinOp.Eq (leaf.Name p) (leaf.Word w) width mask) s);
  space = omega (arith, code-Same ℕ space_level p w);
}

pub same_is : (op : BinOp) (a b : Code) (p w width mask : ℕ) → op ≡ BinOp.Eq → a ≡ leaf.Name p → b ≡ leaf.Word w → Replaces (leaf.Same p w) (codes.Binary op a b width mask)
same_is op a b p w width mask e f g =
    subst (λ o. Replaces (leaf.Same p w) (codes.Binary o a b width mask)) (sym e)
    (subst (λ x. Replaces (leaf.Same p w) (codes.Binary BinOp.Eq x b width mask)) (sym f)
    (subst (λ y. Replaces (leaf.Same p w) (codes.Binary BinOp.Eq (leaf.Name p) y width mask)) (sym g) (eq_is p w width mask)))

pub field_is : (a : Code) (p lo mask : ℕ) → a ≡ leaf.Name p → Replaces (leaf.Field p lo mask) (codes.Slice a lo mask)
field_is a p lo mask f = subst (λ x. Replaces (leaf.Field p lo mask) (codes.Slice x lo mask)) (sym f) (record {
  values = λ s.
      at (code-Field N value_level p lo mask) s
      ∙ sym (ap (λ (n : ℕ). bit_and (n / 2 ^ bit_and lo 63) mask) (at (code-Name N value_level p) s))
      ∙ sym (at (code-Slice N value_level (leaf.Name p) lo mask) s);
  space = omega (arith, code-Field ℕ space_level p lo mask);
})

pub flip_is : (a : Code) (p mask : ℕ) → a ≡ leaf.Name p → Replaces (leaf.Flip p mask) (codes.Not a mask)
flip_is a p mask f = subst (λ x. Replaces (leaf.Flip p mask) (codes.Not x mask)) (sym f) (record {
  values = λ s.
      at (code-Flip N value_level p mask) s
      ∙ sym (ap (λ (n : ℕ). (mask + (2 ^ 64 - n)) % 2 ^ 64) (at (code-Name N value_level p) s))
      ∙ sym (at (code-Not N value_level (leaf.Name p) mask) s);
  space = omega (arith, code-Flip ℕ space_level p mask);
})

-- choices by the value of a name
bit_test : (b : Bool) (x y : ℕ) → (if b then x else y) ≡ (if (if b then 1 else 0) == 1 then x else y)
bit_test true x y = refl
bit_test false x y = refl

pub case_of_same : (t a b : Code) (p w : ℕ) → t ≡ leaf.Same p w → Replaces (codes.Case p w a b) (codes.Mux t a b)
case_of_same t a b p w e = subst (λ x. Replaces (codes.Case p w a b) (codes.Mux x a b)) (sym e) (record {
  values = λ s.
      at (code-Case N value_level p w a b) s
      ∙ bit_test (slice_index s p == w) (value_of a s) (value_of b s)
      ∙ sym (ap (λ (n : ℕ). if n == 1 then value_of a s else value_of b s) (at (code-Same N value_level p w) s))
      ∙ sym (at (code-Mux N value_level (leaf.Same p w) a b) s);
  space = omega (arith, code-Case ℕ space_level p w a b, code-Mux ℕ space_level (leaf.Same p w) a b);
})

pub case_of_name : (t a b : Code) (p : ℕ) → t ≡ leaf.Name p → Replaces (codes.Case p 1 a b) (codes.Mux t a b)
case_of_name t a b p e = subst (λ x. Replaces (codes.Case p 1 a b) (codes.Mux x a b)) (sym e) (record {
  values = λ s.
      at (code-Case N value_level p 1 a b) s
      ∙ sym (ap (λ (n : ℕ). if n == 1 then value_of a s else value_of b s) (at (code-Name N value_level p) s))
      ∙ sym (at (code-Mux N value_level (leaf.Name p) a b) s);
  space = omega (arith, code-Case ℕ space_level p 1 a b, code-Mux ℕ space_level (leaf.Name p) a b);
})

-- SETS. Of one number
member_one : (w n : ℕ) → w < 64 → member (2 ^ w) n ≡ (if n == w then 1 else 0)
member_one w n l = ⊎_elim
    (λ h. ap (member (2 ^ w)) h.1 ∙ ap (λ b. if b then bit_at (2 ^ w) w else 0) (lt-ltb w 64 l) ∙ bit_at-pow_same w ∙ sym (ap (λ b. if b then 1 else 0) h.0))
    (λ h. past (nat_lt n 64) h.1 ∙ sym (ap (λ b. if b then 1 else 0) h.0))
    (eqb_tells n w)
  where
    past : (b : Bool) → n ≢ w → (if b then bit_at (2 ^ w) n else 0) ≡ 0
    past true h = bit_at-pow_other w n h
    past false h = refl

-- of two sets
or_bits : (a b : ℕ) → a < 2 → b < 2 → bit_or a b ≡ max a b
or_bits zero b h k = let m : max 0 b ≡ b = omega arith in sym m
or_bits (suc zero) zero h k = let m : max 1 0 ≡ 1 = omega arith in sym m
or_bits (suc zero) (suc zero) h k = let m : max 1 1 ≡ 1 = omega arith in sym m
or_bits (suc zero) (suc (suc b)) h k = absurd (omega arith)
or_bits (suc (suc a)) b h k = absurd (omega arith)

member_both : (s t n : ℕ) → member (bit_or s t) n ≡ bit_or (member s n) (member t n)
member_both s t n = both (nat_lt n 64)
  where
    both : (b : Bool) → (if b then bit_at (bit_or s t) n else 0) ≡ bit_or (if b then bit_at s n else 0) (if b then bit_at t n else 0)
    both true = bit_at_or s t n ∙ sym (or_bits (bit_at s n) (bit_at t n) (bit_at-lt s n) (bit_at-lt t n))
    both false = refl

max_assoc : (a b c : ℕ) → max a (max b c) ≡ max (max a b) c
max_assoc a b c = omega arith

or_assoc : (a b c : ℕ) → bit_or a (bit_or b c) ≡ bit_or (bit_or a b) c
or_assoc a b c = same_from_bits (bit_or a (bit_or b c)) (bit_or (bit_or a b) c) (λ i.
    bit_at_or a (bit_or b c) i
    ∙ ap (max (bit_at a i)) (bit_at_or b c i)
    ∙ max_assoc (bit_at a i) (bit_at b i) (bit_at c i)
    ∙ ap (λ x. max x (bit_at c i)) (sym (bit_at_or a b i))
    ∙ sym (bit_at_or (bit_or a b) c i))

pub one_is : (a : Code) (p w s : ℕ) → a ≡ leaf.Same p w → w < 64 → s ≡ 1 * 2 ^ w % 2 ^ 64 → Replaces (leaf.Among p s) a
one_is a p w s e l f = subst (Replaces (leaf.Among p s)) (sym e) (subst (λ n. Replaces (leaf.Among p n) (leaf.Same p w)) (sym (f ∙ one_shl w 64 l)) (record {
  values = λ vs. at (code-Among N value_level p (2 ^ w)) vs ∙ member_one w (slice_index vs p) l ∙ sym (at (code-Same N value_level p w) vs);
  space = omega (arith, code-Among ℕ space_level p (2 ^ w));
}))

-- a set that replaces an operand, and one that replaces the other
union_is : (a b : Code) (p s t width mask : ℕ) → Replaces (leaf.Among p s) a → Replaces (leaf.Among p t) b
    → Replaces (leaf.Among p (bit_or s t)) (codes.Binary BinOp.Or a b width mask)
union_is a b p s t width mask h k = record {
  values = λ vs.
      at (code-Among N value_level p (bit_or s t)) vs
      ∙ member_both s t (slice_index vs p)
      ∙ ap (λ n. bit_or n (member t (slice_index vs p))) (sym (at (code-Among N value_level p s) vs) ∙ h.values vs)
      ∙ ap (bit_or (value_of a vs)) (sym (at (code-Among N value_level p t) vs) ∙ k.values vs)
      ∙ sym (at (code-Binary N value_level BinOp.Or a b width mask) vs);
  space = omega (arith, code-Among ℕ space_level p (bit_or s t));
}

pub union_at : (op : BinOp) (a b : Code) (p q s t width mask : ℕ) → op ≡ BinOp.Or → p ≡ q → Replaces (leaf.Among p s) a → Replaces (leaf.Among q t) b
    → Replaces (leaf.Among p (bit_or s t)) (codes.Binary op a b width mask)
union_at op a b p q s t width mask e f h k =
    subst (λ o. Replaces (leaf.Among p (bit_or s t)) (codes.Binary o a b width mask)) (sym e)
    (union_is a b p s t width mask h (subst (λ r. Replaces (leaf.Among r t) b) (sym f) k))

-- the last two operands of a chain
or_chain : (x y b c : Code) (w m width mask : ℕ) → Replaces c (codes.Binary BinOp.Or y b width mask)
    → Replaces (codes.Binary BinOp.Or x c width mask) (codes.Binary BinOp.Or (codes.Binary BinOp.Or x y w m) b width mask)
or_chain x y b c w m width mask h = record {
  values = λ vs.
      at (code-Binary N value_level BinOp.Or x c width mask) vs
      ∙ ap (bit_or (value_of x vs)) (h.values vs ∙ at (code-Binary N value_level BinOp.Or y b width mask) vs)
      ∙ or_assoc (value_of x vs) (value_of y vs) (value_of b vs)
      ∙ ap (λ n. bit_or n (value_of b vs)) (sym (at (code-Binary N value_level BinOp.Or x y w m) vs))
      ∙ sym (at (code-Binary N value_level BinOp.Or (codes.Binary BinOp.Or x y w m) b width mask) vs);
  space =
      let k = h.space in
      omega (
        arith,
        k,
        code-Binary ℕ space_level BinOp.Or x c width mask,
        code-Binary ℕ space_level BinOp.Or y b width mask,
        code-Binary ℕ space_level BinOp.Or x y w m,
        code-Binary ℕ space_level BinOp.Or (codes.Binary BinOp.Or x y w m) b width mask,
      );
}

pub regrouped : (op inner : BinOp) (a x y z b c : Code) (w m width mask : ℕ) → a ≡ codes.Binary inner x y w m → inner ≡ BinOp.Or → z ≡ y → op ≡ BinOp.Or
    → Replaces c (codes.Binary op z b width mask) → Replaces (codes.Binary BinOp.Or x c width mask) (codes.Binary op a b width mask)
regrouped op inner a x y z b c w m width mask is f seen e h =
    let a_is : a ≡ codes.Binary BinOp.Or x y w m = is ∙ ap (λ o. codes.Binary o x y w m) f in
    let set : Replaces c (codes.Binary BinOp.Or y b width mask) = subst (λ o. Replaces c (codes.Binary o y b width mask)) e (subst (λ k. Replaces c (codes.Binary op k b width mask)) seen h) in
    subst (λ o. Replaces (codes.Binary BinOp.Or x c width mask) (codes.Binary o a b width mask)) (sym e)
    (subst (λ k. Replaces (codes.Binary BinOp.Or x c width mask) (codes.Binary BinOp.Or k b width mask)) (sym a_is) (or_chain x y b c w m width mask set))
