-- The replacement of a foldable node has its word, and is no deeper.
use Rattle.std.proofs.Common.{◌≡◌, ℕ, Bool, true, false, ◌+◌, ◌-◌, ◌<◌, ◌≤◌, ◌^◌, ◌%◌, ◌/◌, ◌==◌, ◌&&◌, List, [], ◌∷◌, map, length, get_or, refl, sym, subst, ap, ◌∙◌, arith, All, max, cond, leb, leb-true, ◌||◌}
use Rattle.std.proofs.Math.Nat.{mod-eq_of_lt, le-max_left, le-max_right, div-one}
use Rattle.std.proofs.lemmas.Bool.{false≢true, false_from_ne_true, and_parts, cond-true, cond-false, eqb-true, eq-eqb}
use Rattle.std.proofs.lemmas.{List.Elements.All-head, List.Elements.All-tail}
use Rattle.std.specs.{List.list_all, Prelude.Some, Prelude.None}
use Rattle.kp_bits.specs.{Word.IsWord, Word.not_of, Word.mux_of, Word.slice_of, declared.operator.BinOp.BinOp}
use Rattle.kp_bits.specs.Operators.{binary_of, joined_of, is_shift, commutes, masking_zero}
use Rattle.kp_bits.proofs.Operators.{masked, unmasked, commuted}
use Rattle.kp_bits.proofs.{Arithmetic.not_not, Arithmetic.shl_past, Arithmetic.shr_past, Powers.pow_le}
use Rattle.kp_bits.specs.Word as bits
use Rattle.kp_net.specs.declared.node.{NodeId.NodeId, Kind.Kind}
use Rattle.kp_net.specs.declared.node.Kind.TheVariants.{Const, Not, Binary, Mux, Concat, Slice}
use Rattle.kp_net.specs.{declared.node.Node.Node, Nodes.Cells, Nodes.Words, Nodes.word_of_kind, Nodes.word_at}
use Rattle.kp_net.specs.Widths.{wide, no_node, is_cell, BinaryOk, KindOk, NodeOk, AllRight}
use Rattle.kp_net.{specs.Depth.depth_of, specs.Depth.depth, proofs.Values.word_there, proofs.Values.word_wide}
use Rattle.kp_net.proofs.{Exact.Has, Exact.kind_has, Exact.node_exact, Exact.word_has, Depths.depth_there}
use Rattle.kp_pool.specs.{declared.fold.Masking.Masking, Folding.is_const, Folding.is_masking, Folding.is_plain, Folding.is_past, Folding.folds}
use Rattle.kp_pool.specs.inner.Folds.{StandsFor, IsWordOf, Masks, number_in, number_at}

no_cells : Cells
no_cells = record { ext = 0; sample = λ s. 0; reg = λ r. 0; word = λ f a. 0 }

-- what has the word of an operation has its width, and is a word
module _ (ns : List Node) (k : ℕ) (o : Kind) (right : AllRight ns) (ok : NodeOk ns (length ns) (record { width = k; kind = o })) (plain : is_cell o ≡ false) where
  has : (c : Cells) → Has k (word_of_kind c (word_at c ns) k o)
  has c = kind_has c ns (length ns) k o (word_at c ns) ok.positive ok.at_most ok.kind plain (λ j l. word_has c ns j right l)

  pub fold_word : (r : bits.Word) → ((c : Cells) → r ≡ word_of_kind c (word_at c ns) k o) → IsWordOf ns k o r
  fold_word r e =
      let h : Has k r = subst (Has k) (sym (e no_cells)) (has no_cells) in
      record { fits = h.word; wide = h.width; word = e; plain = plain }

  pub fold_there : (i : NodeId) → i.0 < length ns → ((c : Cells) → word_at c ns i.0 ≡ word_of_kind c (word_at c ns) k o) → depth ns i.0 ≤ depth_of (depth ns) o → StandsFor ns k o i
  fold_there i h e d = record { inside = h; wide = sym (word_wide no_cells ns i.0 h) ∙ ap (λ (w : bits.Word). w.width) (e no_cells) ∙ (has no_cells).width; word = e; depth = d; plain = plain }

-- each node that is no cell has the word of its kind
exact_there : (c : Cells) (ns : List Node) (i : ℕ) → AllRight ns → i < length ns → is_cell (get_or ns i no_node).kind ≡ false
    → word_at c ns i ≡ word_of_kind c (word_at c ns) (get_or ns i no_node).width (get_or ns i no_node).kind
exact_there c ns i right h f = word_there c ns i h (right i h) ∙ node_exact c ns i (get_or ns i no_node) (word_at c ns) (right i h) f (λ j l. word_has c ns j right (omega arith))

kind_const : (c : Cells) (w : Words) (k : ℕ) (o : Kind) → is_const o ≡ true → (word_of_kind c w k o ≡ bits.word k (number_in o)) × (is_cell o ≡ false)
kind_const c w k (Const n) h = (refl, refl)
kind_const c w k o h = absurd (false≢true h)

-- a constant has its number, whatever the cells hold
const_word : (c : Cells) (ns : List Node) (i : ℕ) → AllRight ns → i < length ns → is_const (get_or ns i no_node).kind ≡ true → word_at c ns i ≡ number_at ns i
unfolding wide
const_word c ns i right h e =
    let p = kind_const c (word_at c ns) (get_or ns i no_node).width (get_or ns i no_node).kind e in
    exact_there c ns i right h p.1 ∙ p.0

-- node a is a constant, whose word is w
abbrev pub IsNumber : List Node → NodeId → bits.Word → Type 0
IsNumber ns a w = (is_const (get_or ns a.0 no_node).kind ≡ true) × IsWord w × (w ≡ number_at ns a.0)

pub number_word : (c : Cells) (ns : List Node) (a : NodeId) (w : bits.Word) → AllRight ns → a.0 < length ns → IsNumber ns a w → w ≡ word_at c ns a.0
number_word c ns a w right h n = n.2 ∙ sym (const_word c ns a.0 right h n.0)

pub number_is : (ns : List Node) (i n : ℕ) → AllRight ns → i < length ns → (get_or ns i no_node).kind ≡ Const n → (is_const (get_or ns i no_node).kind ≡ true) × IsWord (bits.word (wide ns i) n) × (bits.word (wide ns i) n ≡ number_at ns i)
unfolding wide
number_is ns i n right h e =
    let ok = right i h in
    let fits : n < 2 ^ (get_or ns i no_node).width = (let P : Kind → Type 0 = KindOk ns i (get_or ns i no_node).width in subst P e ok.kind) in
    (ap is_const e, record { positive = ok.positive; at_most = ok.at_most; fits = fits }, ap (λ (o : Kind). bits.word (get_or ns i no_node).width (number_in o)) (sym e))

-- `~` of a `~`
pub not_twice : (ns : List Node) (k : ℕ) (a b : NodeId) → AllRight ns → NodeOk ns (length ns) (record { width = k; kind = Not a }) → (get_or ns a.0 no_node).kind ≡ Not b → StandsFor ns k (Not a) b
not_twice ns k a b right ok e =
    let h : a.0 < length ns = ok.kind.0 in
    let below : b.0 < a.0 = (let P : Kind → Type 0 = KindOk ns a.0 (get_or ns a.0 no_node).width in subst P e (right a.0 h).kind).0 in
    let deep : depth ns a.0 ≡ depth ns b.0 + 1 = depth_there ns a.0 h (right a.0 h) ∙ ap (depth_of (depth ns)) e in
    fold_there ns k (Not a) right ok refl b (omega (arith, below, h))
    (λ c. sym (not_not (word_at c ns b.0) (word_has c ns b.0 right (omega (arith, below, h))).word)
    ∙ sym (ap not_of (exact_there c ns a.0 right h (ap is_cell e) ∙ ap (word_of_kind c (word_at c ns) (get_or ns a.0 no_node).width) e)))
    (omega (arith, deep))

-- `&` and `|` with a constant
masked_widths : (op : BinOp) (k a b : ℕ) → is_masking op ≡ true → BinaryOk op k a b → a ≡ b
masked_widths BinOp.And k a b h ok = ok.1 refl
masked_widths BinOp.Or k a b h ok = ok.1 refl
masked_widths op k a b h ok = absurd (false≢true h)

module _ (ns : List Node) (k : ℕ) (op : BinOp) (a b : NodeId) (w : bits.Word) (right : AllRight ns) (ok : NodeOk ns (length ns) (record { width = k; kind = Binary op a b })) where
  -- the words of both operands are as wide as each other
  left_wide : is_masking op ≡ true → IsNumber ns a w → (c : Cells) → (word_at c ns b.0).width ≡ w.width
  left_wide m n c = word_wide c ns b.0 ok.kind.1 ∙ sym (masked_widths op k _ _ m ok.kind.2) ∙ sym (ap (λ (x : bits.Word). x.width) n.2)

  right_wide : is_masking op ≡ true → IsNumber ns b w → (c : Cells) → (word_at c ns a.0).width ≡ w.width
  right_wide m n c = word_wide c ns a.0 ok.kind.0 ∙ masked_widths op k _ _ m ok.kind.2 ∙ sym (ap (λ (x : bits.Word). x.width) n.2)

  pub left_wins : IsNumber ns a w → Masks op w Masking.Wins → StandsFor ns k (Binary op a b) a
  left_wins n m = fold_there ns k (Binary op a b) right ok refl a ok.kind.0
      (λ c. let e = number_word c ns a w right ok.kind.0 n in
      sym e ∙ sym (m.1 (word_at c ns b.0) (word_has c ns b.0 right ok.kind.1).word (left_wide m.0 n c)).0 ∙ ap (λ x. binary_of op x (word_at c ns b.0)) e)
      (omega (arith, le-max_left (depth ns a.0) (depth ns b.0)))

  pub left_yields : IsNumber ns a w → Masks op w Masking.Yields → StandsFor ns k (Binary op a b) b
  left_yields n m = fold_there ns k (Binary op a b) right ok refl b ok.kind.1
      (λ c. let e = number_word c ns a w right ok.kind.0 n in
      sym (m.1 (word_at c ns b.0) (word_has c ns b.0 right ok.kind.1).word (left_wide m.0 n c)).0 ∙ ap (λ x. binary_of op x (word_at c ns b.0)) e)
      (omega (arith, le-max_right (depth ns a.0) (depth ns b.0)))

  pub right_wins : IsNumber ns b w → Masks op w Masking.Wins → StandsFor ns k (Binary op a b) b
  right_wins n m = fold_there ns k (Binary op a b) right ok refl b ok.kind.1
      (λ c. let e = number_word c ns b w right ok.kind.1 n in
      sym e ∙ sym (m.1 (word_at c ns a.0) (word_has c ns a.0 right ok.kind.0).word (right_wide m.0 n c)).1 ∙ ap (λ x. binary_of op (word_at c ns a.0) x) e)
      (omega (arith, le-max_right (depth ns a.0) (depth ns b.0)))

  pub right_yields : IsNumber ns b w → Masks op w Masking.Yields → StandsFor ns k (Binary op a b) a
  right_yields n m = fold_there ns k (Binary op a b) right ok refl a ok.kind.0
      (λ c. let e = number_word c ns b w right ok.kind.1 n in
      sym (m.1 (word_at c ns a.0) (word_has c ns a.0 right ok.kind.0).word (right_wide m.0 n c)).1 ∙ ap (λ x. binary_of op (word_at c ns a.0) x) e)
      (omega (arith, le-max_left (depth ns a.0) (depth ns b.0)))

-- a shift by a constant of at least the width
past_by : (op : BinOp) → is_shift op ≡ true → (x y : bits.Word) → x.width ≤ y.value → binary_of op x y ≡ bits.word x.width 0
past_by BinOp.Shl s x y l = shl_past x y l
past_by BinOp.Shr s x y l = shr_past x y l
past_by op s x y l = absurd (false≢true s)

masked_right : (op : BinOp) (k x y : ℕ) → is_masking op ≡ true → BinaryOk op k x y → y ≡ k
masked_right BinOp.And k x y m ok = sym (ok.1 refl) ∙ ok.0
masked_right BinOp.Or k x y m ok = sym (ok.1 refl) ∙ ok.0
masked_right op k x y m ok = absurd (false≢true m)

past_wide : (op : BinOp) (k x y : ℕ) → is_shift op ≡ true → BinaryOk op k x y → x ≡ k
past_wide BinOp.Shl k x y s ok = ok.0
past_wide BinOp.Shr k x y s ok = ok.0
past_wide op k x y s ok = absurd (false≢true s)

pub zero_fits : (ns : List Node) (a : NodeId) → AllRight ns → a.0 < length ns → IsWord (bits.word (wide ns a.0) 0)
unfolding wide
zero_fits ns a right h =
    let ok = right a.0 h in
    record { positive = ok.positive; at_most = ok.at_most; fits = omega (arith, pow_le 0 (get_or ns a.0 no_node).width (omega arith)) }

pub shifted_out : (ns : List Node) (k : ℕ) (op : BinOp) (a b : NodeId) (w r : bits.Word) (i : ℕ) → AllRight ns → NodeOk ns (length ns) (record { width = k; kind = Binary op a b })
    → IsNumber ns b w → i ≡ wide ns a.0 → (is_shift op && leb i w.value) ≡ true → r ≡ bits.word i 0 → IsWordOf ns k (Binary op a b) r
shifted_out ns k op a b w r i right ok n f past e =
    let p = and_parts (is_shift op) (leb i w.value) past in
    fold_word ns k (Binary op a b) right ok refl r
    (λ c. let x : (word_at c ns a.0).width ≡ i = word_wide c ns a.0 ok.kind.0 ∙ sym f in
    let y : w ≡ word_at c ns b.0 = number_word c ns b w right ok.kind.1 n in
    let l : (word_at c ns a.0).width ≤ (word_at c ns b.0).value = subst (λ (z : bits.Word). (word_at c ns a.0).width ≤ z.value) y (subst (λ z. z ≤ w.value) (sym x) (leb-true _ _ p.1)) in
    e ∙ ap (λ z. bits.word z 0) (sym x) ∙ sym (past_by op p.0 (word_at c ns a.0) (word_at c ns b.0) l))

-- a constant on the right that decides nothing
open_kinds : (k : ℕ) (op : BinOp) (x y : Kind) → is_const x ≡ false → is_const y ≡ true → (is_masking op && is_plain k (Const (number_in y))) ≡ false
    → (is_shift op && leb k (number_in y)) ≡ false
    → ((is_const x && is_const y) || ((is_masking op && (is_plain k x || is_plain k y)) || (is_shift op && is_past k y))) ≡ false
open_kinds k op (Const n) y e f g h = absurd (false≢true (sym e))
open_kinds k op x (Const n) e f g h = λ i. g i || h i
open_kinds k op x y e f g h = absurd (false≢true f)

undecided_by : (ns : List Node) (k : ℕ) (op : BinOp) (a b : NodeId) → (is_masking op ≡ true → wide ns b.0 ≡ k) → (is_shift op ≡ true → wide ns a.0 ≡ k)
    → is_const (get_or ns a.0 no_node).kind ≡ false → is_const (get_or ns b.0 no_node).kind ≡ true
    → (is_masking op && is_plain (wide ns b.0) (Const (number_in (get_or ns b.0 no_node).kind))) ≡ false
    → (is_shift op && leb (wide ns a.0) (number_in (get_or ns b.0 no_node).kind)) ≡ false
    → folds (λ i. get_or ns i no_node) k (Binary op a b) ≡ false
undecided_by ns k op a b m s e f g h =
    open_kinds k op (get_or ns a.0 no_node).kind (get_or ns b.0 no_node).kind e f
    (guarded (is_masking op) (λ t. is_plain t (Const (number_in (get_or ns b.0 no_node).kind))) (wide ns b.0) k m g)
    (guarded (is_shift op) (λ t. leb t (number_in (get_or ns b.0 no_node).kind)) (wide ns a.0) k s h)
  where
    guarded : (p : Bool) (q : ℕ → Bool) (x y : ℕ) → (p ≡ true → x ≡ y) → (p && q x) ≡ false → (p && q y) ≡ false
    guarded true q x y m e = ap q (sym (m refl)) ∙ e
    guarded false q x y m e = refl

pub undecided : (ns : List Node) (k : ℕ) (op : BinOp) (a b : NodeId) (w : bits.Word) → NodeOk ns (length ns) (record { width = k; kind = Binary op a b })
    → is_const (get_or ns a.0 no_node).kind ≡ false → IsNumber ns b w → (is_masking op && is_plain w.width (Const w.value)) ≡ false → (is_shift op && leb (wide ns a.0) w.value) ≡ false
    → folds (λ i. get_or ns i no_node) k (Binary op a b) ≡ false
undecided ns k op a b w ok e n g h =
    undecided_by ns k op a b
    (λ m. masked_right op k _ _ m ok.kind.2)
    (λ s. past_wide op k _ _ s ok.kind.2)
    e n.0
    (ap (λ (x : bits.Word). is_masking op && is_plain x.width (Const x.value)) (sym n.2) ∙ g)
    (ap (λ (x : bits.Word). is_shift op && leb (wide ns a.0) x.value) (sym n.2) ∙ h)

-- a masking operator with its zero, with its unit, and with neither
masking : (op : BinOp) (k z : ℕ) → masking_zero op k ≡ Some z → (is_masking op ≡ true) × (commutes op ≡ true)
masking BinOp.And k z s = (refl, refl)
masking BinOp.Or k z s = (refl, refl)
masking _ k z s = absurd (let n : None ≡ Some z = s in cc)

zero_small : (op : BinOp) (k z : ℕ) → masking_zero op k ≡ Some z → z ≤ 2 ^ k - 1
zero_small BinOp.And k z s = let e : z ≡ 0 = cc in omega (arith, e)
zero_small BinOp.Or k z s = let e : z ≡ 2 ^ k - 1 = cc in omega (arith, e)
zero_small _ k z s = absurd (let n : None ≡ Some z = s in cc)

module _ (op : BinOp) (w : bits.Word) (z : ℕ) (s : masking_zero op w.width ≡ Some z) where
  pub wins : w.value ≡ z → Masks op w Masking.Wins
  wins e =
      let m = masking op w.width z s in
      (m.0, λ a h f. let x = masked op w a h (sym f) (s ∙ ap Some (sym e)) in (x, commuted op a w m.1 f ∙ x))

  pub yields : w.value ≡ 2 ^ w.width - 1 - z → Masks op w Masking.Yields
  yields e =
      let m = masking op w.width z s in
      let sum : w.value + z ≡ 2 ^ w.width - 1 = omega (arith, e, zero_small op w.width z s) in
      (m.0, λ a h f. let x = unmasked op w a z h (sym f) s sum in (x, commuted op a w m.1 f ∙ x))

-- choices
module _ (ns : List Node) (k : ℕ) (t a b : NodeId) (right : AllRight ns) (ok : NodeOk ns (length ns) (record { width = k; kind = Mux t a b })) where
  first_deep : depth ns a.0 ≤ depth_of (depth ns) (Mux t a b)
  first_deep = omega (arith, le-max_left (depth ns a.0) (depth ns b.0), le-max_right (depth ns t.0) (max (depth ns a.0) (depth ns b.0)))

  pub chosen : (w : bits.Word) → IsNumber ns t w → w.value ≡ 1 → StandsFor ns k (Mux t a b) a
  chosen w n e = fold_there ns k (Mux t a b) right ok refl a ok.kind.1
      (λ c. let x : w ≡ word_at c ns t.0 = number_word c ns t w right ok.kind.0 n in
      sym (cond-true ((word_at c ns t.0).value == 1) (word_at c ns a.0) (word_at c ns b.0) (eq-eqb _ _ (sym (ap (λ (y : bits.Word). y.value) x) ∙ e))))
      first_deep

  pub other : (w : bits.Word) → IsNumber ns t w → (w.value ≡ 1 → ⊥) → StandsFor ns k (Mux t a b) b
  other w n e = fold_there ns k (Mux t a b) right ok refl b ok.kind.2
      (λ c. let x : w ≡ word_at c ns t.0 = number_word c ns t w right ok.kind.0 n in
      sym (cond-false ((word_at c ns t.0).value == 1) (word_at c ns a.0) (word_at c ns b.0) (false_from_ne_true _ (λ q. e (ap (λ (y : bits.Word). y.value) x ∙ eqb-true _ _ q)))))
      (omega (arith, le-max_right (depth ns a.0) (depth ns b.0), le-max_right (depth ns t.0) (max (depth ns a.0) (depth ns b.0))))

  either : (q : Bool) (x y : bits.Word) → x ≡ y → x ≡ cond q x y
  either true x y e = refl
  either false x y e = e

  pub alike : a.0 ≡ b.0 → StandsFor ns k (Mux t a b) a
  alike e = fold_there ns k (Mux t a b) right ok refl a ok.kind.1
      (λ c. either ((word_at c ns t.0).value == 1) (word_at c ns a.0) (word_at c ns b.0) (ap (word_at c ns) e))
      first_deep

-- a concatenation of constants
consts_agree : (c : Cells) (ns : List Node) (parts : List NodeId) → AllRight ns → All (λ a. a.0 < length ns) parts → list_all (λ a. is_const (get_or ns a.0 no_node).kind) parts ≡ true
    → map (λ a. number_at ns a.0) parts ≡ map (λ a. word_at c ns a.0) parts
consts_agree c ns [] right h e = refl
consts_agree c ns (a ∷ parts) right h e =
    let p = and_parts (is_const (get_or ns a.0 no_node).kind) (list_all (λ x. is_const (get_or ns x.0 no_node).kind) parts) e in
    let x = const_word c ns a.0 right (All-head (λ y. y.0 < length ns) a parts h) p.0 in
    let y = consts_agree c ns parts right (All-tail (λ z. z.0 < length ns) a parts h) p.1 in
    λ i. sym x i ∷ y i

pub row_of_consts : (ns : List Node) (k : ℕ) (parts : List NodeId) (w : bits.Word) → AllRight ns → NodeOk ns (length ns) (record { width = k; kind = Concat parts })
    → list_all (λ a. is_const (get_or ns a.0 no_node).kind) parts ≡ true → w ≡ joined_of (map (λ a. number_at ns a.0) parts) → IsWordOf ns k (Concat parts) w
row_of_consts ns k parts w right ok all e = fold_word ns k (Concat parts) right ok refl w (λ c. e ∙ ap joined_of (consts_agree c ns parts right ok.kind.2 all))

-- a slice of all bits
slice_whole : (w : bits.Word) (hi lo : ℕ) → IsWord w → lo ≡ 0 → hi + 1 ≡ w.width → slice_of w hi lo ≡ w
slice_whole w hi lo h z e =
    let n : hi + 1 - 0 ≡ w.width = omega (arith, e) in
    let v : w.value / 2 ^ 0 % 2 ^ (hi + 1 - 0) ≡ w.value = ap (λ x. x % 2 ^ (hi + 1 - 0)) (div-one w.value) ∙ ap (λ x. w.value % 2 ^ x) n ∙ mod-eq_of_lt h.fits in
    ap (slice_of w hi) z ∙ (λ i. record { width = n i; value = v i })

pub whole_part : (ns : List Node) (k : ℕ) (a : NodeId) (hi lo : ℕ) → AllRight ns → NodeOk ns (length ns) (record { width = k; kind = Slice a hi lo }) → wide ns a.0 ≡ k → StandsFor ns k (Slice a hi lo) a
whole_part ns k a hi lo right ok e =
    let x = ok.kind in
    let z : lo ≡ 0 = omega (arith, x.1, x.2, x.3, e) in
    let l : hi + 1 ≡ wide ns a.0 = omega (arith, x.1, x.2, x.3, e) in
    fold_there ns k (Slice a hi lo) right ok refl a x.0
    (λ c. sym (slice_whole (word_at c ns a.0) hi lo (word_has c ns a.0 right x.0).word z (l ∙ sym (word_wide c ns a.0 x.0))))
    (omega arith)
