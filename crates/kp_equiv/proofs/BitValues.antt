-- The number that a list of bits is, and the words of nodes by their bits.
use Rattle.std.proofs.Common.{◌≡◌, ◌∙◌, ℕ, zero, suc, ◌+◌, ◌-◌, ◌*◌, ◌/◌, ◌%◌, ◌^◌, ◌==◌, ◌<◌, ◌≤◌, true, false, cond, List, [], ◌∷◌, ◌++◌, fold, length, map, take, drop, get_or, refl, sym, ap, subst, arith, All, length-append}
use Rattle.std.proofs.{Math.Nat.pow-suc, Math.Nat.pow-zero, Math.Nat.div-one, Math.Nat.mod-one, Math.Nat.mod-mod, Math.Nat.mod-eq_of_lt, Math.Nat.mul_assoc, Math.Nat.add-mul, Math.Nat.add_assoc}
use Rattle.std.proofs.lemmas.Nat.{pow-add, mod-pow-add, shr-shr, shr_high, mod_low, Bits.bit_at-lt}
use Rattle.std.proofs.lemmas.List.{take-append-drop, length-take-le, length-drop, Elements.All-head, Elements.All-tail}
use Rattle.std.specs.{Int.bit_at, List.range_with_len}
use Rattle.kp_bits.specs.Word as bits
use Rattle.kp_bits.specs.{Word.concat_of, Operators.joined_of}
use Rattle.kp_net.specs.declared.node.{NodeId.NodeId, Kind.Kind, Node.Node}
use Rattle.kp_net.specs.declared.node.Kind.TheVariants.{Const, Concat, Slice}
use Rattle.kp_net.specs.{Nodes.Cells, Nodes.word_of_kind, Nodes.word_at, Widths.KindOk, Widths.AllRight, Widths.no_node}
use Rattle.kp_net.proofs.Values.{word_there, word_wide}
use Rattle.kp_equiv.specs.declared.bit.Bit.{Bit, TheVariants.Fixed, TheVariants.Of}
use Rattle.kp_equiv.specs.Wiring.{bits_of_parts, bits_of_kind, bits_of}
use Rattle.kp_equiv.proofs.Wired.{kind_long, bits_step, bits_long}

abbrev pub value : (Bit → ℕ) → List Bit → ℕ
value f [] = 0
value f (b ∷ bs) = f b + 2 * value f bs

append_sum : (a w b p q : ℕ) → w ≡ p + b → q ≡ p * 2 → a + 2 * w ≡ q + (a + 2 * b)
append_sum a w b p q e f = omega arith

each_sum : (h r q x z : ℕ) → h ≡ z → r ≡ q → x ≡ q * 2 + z → h + 2 * r ≡ x
each_sum h r q x z e f g = omega arith

fits_sum : (a v p q : ℕ) → a < 2 → v < p → q ≡ p * 2 → a + 2 * v < q
fits_sum a v p q e f g = omega arith

module _ (f : Bit → ℕ) (small : (b : Bit) → f b < 2) where
  value_fits : (bs : List Bit) → value f bs < 2 ^ length bs
  value_fits [] = let l : 0 < 1 = omega arith in l
  value_fits (b ∷ bs) = fits_sum (f b) (value f bs) (2 ^ length bs) (2 ^ suc (length bs)) (small b) (value_fits bs) (pow-suc 2 (length bs))

  value_append : (xs ys : List Bit) → value f (xs ++ ys) ≡ value f ys * 2 ^ length xs + value f xs
  value_append [] ys = let e : value f ys ≡ value f ys * 1 + 0 = omega arith in e
  value_append (x ∷ xs) ys =
      append_sum (f x) (value f (xs ++ ys)) (value f xs) (value f ys * 2 ^ length xs) (value f ys * 2 ^ suc (length xs)) (value_append xs ys)
      (ap (λ (q : ℕ). value f ys * q) (pow-suc 2 (length xs)) ∙ sym (mul_assoc (value f ys) (2 ^ length xs) 2))

  -- the front of a list, and the rest
  split : (n : ℕ) (bs : List Bit) → value f bs ≡ value f (drop n bs) * 2 ^ length (take n bs) + value f (take n bs)
  split n bs = ap (value f) (sym (take-append-drop n bs)) ∙ value_append (take n bs) (drop n bs)

  value_take : (n : ℕ) (bs : List Bit) → n ≤ length bs → value f (take n bs) ≡ value f bs % 2 ^ n
  value_take n bs l =
      let k : length (take n bs) ≡ n = length-take-le n bs l in
      sym (subst (λ (m : ℕ). value f bs % 2 ^ m ≡ value f (take n bs)) k
      (ap (λ (v : ℕ). v % 2 ^ length (take n bs)) (split n bs) ∙ mod_low (value f (drop n bs)) (length (take n bs)) (value f (take n bs)) (value_fits (take n bs))))

  value_drop : (n : ℕ) (bs : List Bit) → n ≤ length bs → value f (drop n bs) ≡ value f bs / 2 ^ n
  value_drop n bs l =
      let k : length (take n bs) ≡ n = length-take-le n bs l in
      sym (subst (λ (m : ℕ). value f bs / 2 ^ m ≡ value f (drop n bs)) k
      (ap (λ (v : ℕ). v / 2 ^ length (take n bs)) (split n bs) ∙ shr_high (value f (drop n bs)) (length (take n bs)) (value f (take n bs)) (value_fits (take n bs))))

  -- the bits of a number, from bit a on
  value_each : (n : ℕ) (g : ℕ → Bit) → ((k : ℕ) → f (g k) ≡ bit_at n k) → (a w : ℕ) → value f (map g (range_with_len a w)) ≡ n / 2 ^ a % 2 ^ w
  value_each n g e a zero = sym (mod-one (n / 2 ^ a))
  value_each n g e a (suc w) =
      let m : ℕ = n / 2 ^ a in
      let rest : value f (map g (range_with_len (a + 1) w)) ≡ m / 2 ^ 1 % 2 ^ w = value_each n g e (a + 1) w ∙ ap (λ (k : ℕ). k % 2 ^ w) (sym (shr-shr n a 1)) in
      let all : m % 2 ^ (w + 1) ≡ (m / 2 ^ 1 % 2 ^ w) * 2 ^ 1 + m % 2 ^ 1 = mod-pow-add m w 1 in
      let same : m % 2 ^ suc w ≡ m % 2 ^ (w + 1) = ap (λ (k : ℕ). m % 2 ^ k) (omega arith) in
      each_sum (f (g a)) (value f (map g (range_with_len (a + 1) w))) (m / 2 ^ 1 % 2 ^ w) (m % 2 ^ suc w) (m % 2 ^ 1) (e a) rest (same ∙ all)

  value_whole : (n : ℕ) (g : ℕ → Bit) → ((k : ℕ) → f (g k) ≡ bit_at n k) → (w : ℕ) → value f (map g (range_with_len 0 w)) ≡ n % 2 ^ w
  value_whole n g e w = value_each n g e 0 w ∙ ap (λ (k : ℕ). k % 2 ^ w) (ap (λ (p : ℕ). n / p) (pow-zero 2) ∙ div-one n)

-- the value of a bit in a cycle
abbrev pub bit_value : Cells → List Node → Bit → ℕ
bit_value c ns (Fixed x) = cond x 1 0
bit_value c ns (Of i k) = bit_at (word_at c ns i.0).value k

bit_small : (c : Cells) (ns : List Node) (b : Bit) → bit_value c ns b < 2
bit_small c ns (Fixed true) = omega arith
bit_small c ns (Fixed false) = omega arith
bit_small c ns (Of i k) = bit_at-lt (word_at c ns i.0).value k

bit_again : (n : ℕ) → n < 2 → cond (n == 1) 1 0 ≡ n
bit_again zero l = refl
bit_again (suc zero) l = refl
bit_again (suc (suc n)) l = absurd (omega (arith, l))

module _ (c : Cells) (ns : List Node) (right : AllRight ns) where
  abbrev f : Bit → ℕ
  f = bit_value c ns

  small : (b : Bit) → f b < 2
  small = bit_small c ns

  -- the words of the operands are their bits
  module _ (m : ℕ) (inside : m ≤ length ns) (here : (a : NodeId) → a.0 < m → value f (bits_of ns a) ≡ (word_at c ns a.0).value) where
    long : (a : NodeId) → a.0 < m → length (bits_of ns a) ≡ (word_at c ns a.0).width
    long a l = bits_long ns right a (omega (arith, l, inside)) ∙ sym (word_wide c ns a.0 (omega (arith, l, inside)))

    joins : (x : bits.Word) (xs : List NodeId) → All (λ a. a.0 < m) xs
        → (fold concat_of x (map (λ a. word_at c ns a.0) xs)).value ≡ x.value * 2 ^ length (bits_of_parts (bits_of ns) xs) + value f (bits_of_parts (bits_of ns) xs)
    joins x [] h = let e : x.value ≡ x.value * 1 + 0 = omega arith in e
    joins x (a ∷ xs) h =
        let l : a.0 < m = All-head (λ b. b.0 < m) a xs h in
        let w : bits.Word = word_at c ns a.0 in
        let rest : List Bit = bits_of_parts (bits_of ns) xs in
        let own : List Bit = bits_of ns a in
        let P : ℕ = 2 ^ length rest in
        let Q : ℕ = 2 ^ w.width in
        let step : (fold concat_of (concat_of x w) (map (λ b. word_at c ns b.0) xs)).value ≡ (x.value * Q + w.value) * P + value f rest = joins (concat_of x w) xs (All-tail (λ b. b.0 < m) a xs h) in
        let k : length own ≡ w.width = long a l in
        let both : length rest + length own ≡ w.width + length rest = omega (arith, k) in
        let count : length (rest ++ own) ≡ w.width + length rest = length-append rest own ∙ both in
        let power : x.value * 2 ^ length (rest ++ own) ≡ x.value * Q * P = ap (λ (k : ℕ). x.value * 2 ^ k) count ∙ ap (λ (p : ℕ). x.value * p) (pow-add 2 w.width (length rest)) ∙ sym (mul_assoc x.value Q P) in
        let low : value f (rest ++ own) ≡ w.value * P + value f rest = value_append f small rest own ∙ ap (λ (v : ℕ). v * P + value f rest) (here a l) in
        step ∙ ap (λ (v : ℕ). v + value f rest) (add-mul (x.value * Q) w.value P) ∙ sym (ap (λ (v : ℕ). v + value f (rest ++ own)) power ∙ ap (λ (v : ℕ). x.value * Q * P + v) low ∙ sym (add_assoc (x.value * Q * P) (w.value * P) (value f rest)))

    joined : (xs : List NodeId) → 1 ≤ length xs → All (λ a. a.0 < m) xs → (joined_of (map (λ a. word_at c ns a.0) xs)).value ≡ value f (bits_of_parts (bits_of ns) xs)
    joined [] n h = absurd (omega (arith, n))
    joined (a ∷ xs) n h =
        let l : a.0 < m = All-head (λ b. b.0 < m) a xs h in
        let rest : List Bit = bits_of_parts (bits_of ns) xs in
        joins (word_at c ns a.0) xs (All-tail (λ b. b.0 < m) a xs h) ∙ ap (λ (v : ℕ). v * 2 ^ length rest + value f rest) (sym (here a l)) ∙ sym (value_append f small rest (bits_of ns a))

    -- and so is that of the node
    kind_value : (i : NodeId) (w : ℕ) (k : Kind) → KindOk ns m w k → (word_at c ns i.0).value ≡ (word_of_kind c (word_at c ns) w k).value % 2 ^ w
        → value f (bits_of_kind (bits_of ns) i w k) ≡ (word_at c ns i.0).value
    kind_value i w (Const v) ok e =
        value_whole f small v (λ b. Fixed (bit_at v b == 1)) (λ b. bit_again (bit_at v b) (bit_at-lt v b)) w ∙ sym e
    kind_value i w (Concat xs) ok e =
        let same = joined xs (let n = ok.0 in omega (arith, n)) ok.2 in
        let long : length (bits_of_parts (bits_of ns) xs) ≡ w = kind_long (bits_of ns) ns m (λ a l. bits_long ns right a (omega (arith, l, inside))) i w (Concat xs) ok in
        sym (e ∙ ap (λ (v : ℕ). v % 2 ^ w) same ∙ mod-eq_of_lt (subst (λ (k : ℕ). value f (bits_of_parts (bits_of ns) xs) < 2 ^ k) long (value_fits f small (bits_of_parts (bits_of ns) xs))))
    kind_value i w (Slice a hi lo) ok e =
        let bs : List Bit = bits_of ns a in
        let l = bits_long ns right a (let p = ok.0 in omega (arith, p, inside)) in
        let fits : lo + w ≤ length bs = (let q = ok.1 in let r = ok.2 in let s = ok.3 in omega (arith, l, q, r, s)) in
        let k : hi + 1 - lo ≡ w = (let s = ok.3 in omega (arith, s)) in
        value_take f small w (drop lo bs) (omega (arith, length-drop lo bs, fits))
        ∙ ap (λ (v : ℕ). v % 2 ^ w) (value_drop f small lo bs (omega (arith, fits)) ∙ ap (λ (v : ℕ). v / 2 ^ lo) (here a ok.0))
        ∙ sym (e ∙ ap (λ (j : ℕ). (word_at c ns a.0).value / 2 ^ lo % 2 ^ j % 2 ^ w) k ∙ mod-mod ((word_at c ns a.0).value / 2 ^ lo) (2 ^ w))
    kind_value i w k ok e =
        value_whole f small (word_at c ns i.0).value (Of i) (λ b. refl) w ∙ ap (λ (v : ℕ). v % 2 ^ w) e ∙ mod-mod (word_of_kind c (word_at c ns) w k).value (2 ^ w) ∙ sym e

  value_to : (d : ℕ) (i : NodeId) → i.0 < d → i.0 < length ns → value f (bits_of ns i) ≡ (word_at c ns i.0).value
  value_to zero i h l = absurd (omega (arith, h))
  value_to (suc d) i h l =
      let n : Node = get_or ns i.0 no_node in
      ap (value f) (bits_step ns right i l)
      ∙ kind_value i.0 (omega (arith, l)) (λ a p. value_to d a (omega (arith, p, h)) (omega (arith, p, l))) i n.width n.kind (right i.0 l).kind
      (ap (λ (x : bits.Word). x.value) (word_there c ns i.0 l (right i.0 l)))

  -- the word of a node is that of its bits
  pub bits_value : (i : NodeId) → i.0 < length ns → value (bit_value c ns) (bits_of ns i) ≡ (word_at c ns i.0).value
  bits_value i l = value_to (suc i.0) i (omega arith) l
