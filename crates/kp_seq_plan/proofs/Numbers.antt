-- What machine words of 64 bits make of numbers that fit a width, and that a value of a width is held.
use Rattle.std.proofs.Common.{◌≡◌, ◌≢◌, ◌∙◌, ℕ, ◌+◌, ◌-◌, ◌*◌, ◌/◌, ◌%◌, ◌^◌, ◌<◌, ◌≤◌, ◌==◌, ◌&&◌, ◌||◌, Option, Some, None, Bool, true, false, cond, refl, ap, sym, subst, arith, bit_and, bit_or, ⊎_elim, ◌⊎◌}
use Rattle.std.proofs.lemmas.Bool.{cases_lt, cond-true, cond-false, eqb-true, eq-eqb, ne_eqb, lt-ltb, le-ltb, le-leb, lt-leb, and_left, and_right}
use Rattle.std.proofs.{Math.Nat.mod-eq_of_lt, lemmas.Nat.pow_pos}
use Rattle.std.specs.{Prelude.nat_lt, Prelude.nat_le, Option.option_map, Option.option_and_then}
use Rattle.kp_bits.specs.Word.{Word, word, IsWord, not_of, mux_of, concat_of, slice_of, zext_of, sext_of}
use Rattle.kp_bits.specs.{Checked.where_so, Checked.checked_slice, Checked.checked_zext, Checked.checked_sext}
use Rattle.kp_bits.specs.{declared.operator.BinOp.BinOp, Operators.is_shift, Operators.result_width, Operators.binary_of, Operators.on_words}
use Rattle.kp_bits.proofs.{Words.not_word, Words.concat_word, Words.slice_word, Words.zext_word, Words.sext_word, Powers.half_of, Powers.pow_le}
use Rattle.kp_bits.proofs.{Operators.binary_word, Operators.binary_width, Operators.computed, Machine.wrapped, Machine.not_number, Machine.join_number, Machine.slice_number}
use Rattle.kp_seq_plan.specs.{Lowering.Holds, inner.Parts.binary_found, inner.Parts.mux_found, inner.Parts.join_found}

-- numbers
sext_number : (i w x top more : ℕ) → i ≤ w → w ≤ 64 → x < 2 ^ i → top ≡ 2 ^ (i - 1) - 1 → more ≡ 2 ^ w - 2 ^ i
    → cond (nat_lt top x) ((x + more) % 2 ^ 64) x ≡ cond (nat_lt x (2 ^ (i - 1))) x (x + (2 ^ w - 2 ^ i))
sext_number i w x top more h k f t m =
    let p = pow_le i w h in
    let q = pow_le w 64 k in
    let z = pow_pos (i - 1) in
    ⊎_elim
    (λ (c : x < 2 ^ (i - 1)). cond-false (nat_lt top x) ((x + more) % 2 ^ 64) x (le-ltb top x (omega arith)) ∙ sym (cond-true (nat_lt x (2 ^ (i - 1))) x (x + (2 ^ w - 2 ^ i)) (lt-ltb x (2 ^ (i - 1)) c)))
    (λ (c : 2 ^ (i - 1) ≤ x).
    let small : x + more < 2 ^ 64 = omega arith in
    cond-true (nat_lt top x) ((x + more) % 2 ^ 64) x (lt-ltb top x (omega arith)) ∙ mod-eq_of_lt small ∙ ap (λ n. x + n) m
    ∙ sym (cond-false (nat_lt x (2 ^ (i - 1))) x (x + (2 ^ w - 2 ^ i)) (le-ltb x (2 ^ (i - 1)) c)))
    (cases_lt x (2 ^ (i - 1)))

-- a word that is found is held
pub became : (o : Option Word) (z : Word) (w v : ℕ) → o ≡ Some z → IsWord z → z.width ≡ w → z.value ≡ v → Holds o w v
became o z w v e k i j =
    let s : z ≡ word w v = (λ t. word (i t) (j t)) in
    record { there = e ∙ ap Some s; word = subst IsWord s k }

pub not_held : (o : Option Word) (w x m : ℕ) → Holds o w x → m ≡ 2 ^ w - 1 → Holds (option_map not_of o) w ((m + (2 ^ 64 - x)) % 2 ^ 64)
not_held o w x m h e =
    became (option_map not_of o) (not_of (word w x)) w _ (ap (option_map not_of) h.there) (not_word (word w x) h.word) refl
    (sym (not_number w x m h.word.at_most h.word.fits e))

-- a binary operator, if its test of widths passes
module _ (o p : Option Word) (i j x y m : ℕ) (h : Holds o i x) (k : Holds p j y) (e : m ≡ 2 ^ i - 1) where
  abbrev a : Word
  a = word i x

  abbrev b : Word
  b = word j y

  found : (op : BinOp) → (is_shift op || i == j) ≡ true → binary_found op o p ≡ Some (binary_of op a b)
  found op test =
      ap (λ z. binary_found op z p) h.there
      ∙ ap (λ z. binary_found op (Some a) z) k.there
      ∙ ap (λ c. where_so c (binary_of op a b)) test

  pub binary_held : (op : BinOp) → (is_shift op || i == j) ≡ true → Holds (binary_found op o p) (result_width op i) (on_words op x y i m)
  binary_held op test =
      let same : is_shift op ≡ false → i ≡ j = (λ s. eqb-true i j (sym (ap (λ t. t || i == j) s) ∙ test)) in
      became _ (binary_of op a b) _ _ (found op test) (binary_word op a b h.word k.word same) (binary_width op a b) (sym (computed op a b m h.word k.word same e))

pub binary_fails : (op : BinOp) (o p : Option Word) (i j x y : ℕ) → Holds o i x → Holds p j y → (is_shift op || i == j) ≡ false → binary_found op o p ≡ None
binary_fails op o p i j x y h k test =
    ap (λ z. binary_found op z p) h.there
    ∙ ap (λ z. binary_found op (Some (word i x)) z) k.there
    ∙ ap (λ c. where_so c (binary_of op (word i x) (word j y))) test

-- a choice
chosen : (c : Bool) (o : Option Word) (i j x y : ℕ) → i ≡ j → IsWord (word i x) → IsWord (word j y) → o ≡ Some (cond c (word i x) (word j y)) → Holds o i (cond c x y)
chosen true o i j x y e h k is = record { there = is; word = h }
chosen false o i j x y e h k is = record { there = is ∙ ap (λ n. Some (word n y)) (sym e); word = subst (λ n. IsWord (word n y)) (sym e) k }

mux_at : (t o p : Option Word) (l i j z x y : ℕ) → Holds t l z → Holds o i x → Holds p j y
    → mux_found t o p ≡ where_so (l == 1 && i == j) (mux_of (word l z) (word i x) (word j y))
mux_at t o p l i j z x y g h k =
    ap (λ s. mux_found s o p) g.there ∙ ap (λ s. mux_found (Some (word l z)) s p) h.there ∙ ap (λ s. mux_found (Some (word l z)) (Some (word i x)) s) k.there

pub mux_held : (t o p : Option Word) (l i j z x y : ℕ) → Holds t l z → Holds o i x → Holds p j y → l ≡ 1 → i ≡ j → Holds (mux_found t o p) i (cond (z == 1) x y)
mux_held t o p l i j z x y g h k one same =
    chosen (z == 1) (mux_found t o p) i j x y same h.word k.word
    (mux_at t o p l i j z x y g h k
    ∙ ap (λ c. where_so (c && i == j) (mux_of (word l z) (word i x) (word j y))) (eq-eqb l 1 one)
    ∙ ap (λ c. where_so c (mux_of (word l z) (word i x) (word j y))) (eq-eqb i j same))

pub mux_narrow : (t o p : Option Word) (l i j z x y : ℕ) → Holds t l z → Holds o i x → Holds p j y → l ≢ 1 → mux_found t o p ≡ None
mux_narrow t o p l i j z x y g h k n =
    mux_at t o p l i j z x y g h k ∙ ap (λ c. where_so (c && i == j) (mux_of (word l z) (word i x) (word j y))) (ne_eqb l 1 n)

pub mux_other : (t o p : Option Word) (l i j z x y : ℕ) → Holds t l z → Holds o i x → Holds p j y → i ≢ j → mux_found t o p ≡ None
mux_other t o p l i j z x y g h k n =
    mux_at t o p l i j z x y g h k ∙ ap (λ c. where_so c (mux_of (word l z) (word i x) (word j y))) (and_right (l == 1) (i == j) (ne_eqb i j n))

-- the concatenation of two parts
join_at : (o p : Option Word) (i j x y : ℕ) → Holds o i x → Holds p j y → join_found o p ≡ where_so (nat_le (i + j) 64) (concat_of (word i x) (word j y))
join_at o p i j x y h k = ap (λ s. join_found s p) h.there ∙ ap (λ s. join_found (Some (word i x)) s) k.there

pub join_held : (o p : Option Word) (i j x y : ℕ) → Holds o i x → Holds p j y → i + j ≤ 64 → Holds (join_found o p) (i + j) (bit_or (x * 2 ^ bit_and j 63 % 2 ^ 64) y)
join_held o p i j x y h k l =
    became (join_found o p) (concat_of (word i x) (word j y)) (i + j) _
    (join_at o p i j x y h k ∙ ap (λ c. where_so c (concat_of (word i x) (word j y))) (le-leb (i + j) 64 l))
    (concat_word (word i x) (word j y) h.word k.word l) refl (sym (join_number x y i j h.word.positive h.word.fits k.word.fits l))

pub join_fails : (o p : Option Word) (i j x y : ℕ) → Holds o i x → Holds p j y → 64 < i + j → join_found o p ≡ None
join_fails o p i j x y h k l = join_at o p i j x y h k ∙ ap (λ c. where_so c (concat_of (word i x) (word j y))) (lt-leb (i + j) 64 l)

-- bits, and more bits
pub slice_held : (o : Option Word) (w x hi lo m : ℕ) → Holds o w x → lo ≤ hi → hi < w → m ≡ 2 ^ (hi + 1 - lo) - 1
    → Holds (option_and_then (checked_slice hi lo) o) (hi + 1 - lo) (bit_and (x / 2 ^ bit_and lo 63) m)
slice_held o w x hi lo m h l k e =
    let n = h.word.at_most in
    became (option_and_then (checked_slice hi lo) o) (slice_of (word w x) hi lo) (hi + 1 - lo) _
    (ap (option_and_then (checked_slice hi lo)) h.there
    ∙ ap (λ c. where_so (c && nat_lt hi w) (slice_of (word w x) hi lo)) (le-leb lo hi l)
    ∙ ap (λ c. where_so c (slice_of (word w x) hi lo)) (lt-ltb hi w k))
    (slice_word (word w x) hi lo h.word l k) refl (sym (slice_number x (hi + 1 - lo) lo m (omega arith) e))

pub slice_fails : (o : Option Word) (w x hi lo : ℕ) → Holds o w x → (hi < lo) ⊎ (w ≤ hi) → option_and_then (checked_slice hi lo) o ≡ None
slice_fails o w x hi lo h l =
    ap (option_and_then (checked_slice hi lo)) h.there
    ∙ ap (λ c. where_so c (slice_of (word w x) hi lo))
    (⊎_elim (λ (k : hi < lo). and_left (nat_le lo hi) (nat_lt hi w) (lt-leb lo hi k)) (λ (k : w ≤ hi). and_right (nat_le lo hi) (nat_lt hi w) (le-ltb hi w k)) l)

extends : (w n : ℕ) (z : Word) → w ≤ n → n ≤ 64 → where_so (nat_le w n && nat_le n 64) z ≡ Some z
extends w n z l k = ap (λ c. where_so (c && nat_le n 64) z) (le-leb w n l) ∙ ap (λ c. where_so c z) (le-leb n 64 k)

pub no_extension : (w n : ℕ) (z : Word) → n < w ⊎ 64 < n → where_so (nat_le w n && nat_le n 64) z ≡ None
no_extension w n z h =
    ap (λ c. where_so c z) (⊎_elim (λ (l : n < w). and_left (nat_le w n) (nat_le n 64) (lt-leb w n l)) (λ (l : 64 < n). and_right (nat_le w n) (nat_le n 64) (lt-leb n 64 l)) h)

pub zext_held : (o : Option Word) (w x n : ℕ) → Holds o w x → w ≤ n → n ≤ 64 → Holds (option_and_then (checked_zext n) o) n x
zext_held o w x n h l k =
    became (option_and_then (checked_zext n) o) (zext_of (word w x) n) n x
    (ap (option_and_then (checked_zext n)) h.there ∙ extends w n (zext_of (word w x) n) l k) (zext_word (word w x) n h.word l k) refl refl

pub zext_fails : (o : Option Word) (w x n : ℕ) → Holds o w x → n < w ⊎ 64 < n → option_and_then (checked_zext n) o ≡ None
zext_fails o w x n h l = ap (option_and_then (checked_zext n)) h.there ∙ no_extension w n (zext_of (word w x) n) l

pub sext_held : (o : Option Word) (w x n top more : ℕ) → Holds o w x → w ≤ n → n ≤ 64 → top ≡ 2 ^ (w - 1) - 1 → more ≡ 2 ^ n - 2 ^ w
    → Holds (option_and_then (checked_sext n) o) n (cond (nat_lt top x) ((x + more) % 2 ^ 64) x)
sext_held o w x n top more h l k t m =
    became (option_and_then (checked_sext n) o) (sext_of (word w x) n) n _
    (ap (option_and_then (checked_sext n)) h.there ∙ extends w n (sext_of (word w x) n) l k) (sext_word (word w x) n h.word l k) refl
    (sym (sext_number w n x top more l k h.word.fits t m))

pub sext_fails : (o : Option Word) (w x n : ℕ) → Holds o w x → n < w ⊎ 64 < n → option_and_then (checked_sext n) o ≡ None
sext_fails o w x n h l = ap (option_and_then (checked_sext n)) h.there ∙ no_extension w n (sext_of (word w x) n) l

-- what is masked and halved
pub top_is : (w n : ℕ) → 1 ≤ w → n ≡ 2 ^ w - 1 → n / 2 ≡ 2 ^ (w - 1) - 1
top_is w n h e = ap (λ k. k / 2) e ∙ half_of w h

pub more_is : (w n a b : ℕ) → w ≤ n → n ≤ 64 → a ≡ 2 ^ n - 1 → b ≡ 2 ^ w - 1 → (a + (2 ^ 64 - b)) % 2 ^ 64 ≡ 2 ^ n - 2 ^ w
more_is w n a b l k d e =
    let p = pow_le w n l in
    let q = pow_le n 64 k in
    let z = pow_pos w in
    let u : b ≤ a = omega arith in
    let v : a < 2 ^ 64 = omega arith in
    let r : a - b ≡ 2 ^ n - 2 ^ w = omega arith in
    wrapped a b (2 ^ 64) u v ∙ r
