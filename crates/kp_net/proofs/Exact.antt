-- At well-formed widths the result of an operation is exact: nothing is truncated.
use Rattle.std.proofs.Common.{◌≡◌, ℕ, ◌+◌, ◌<◌, ◌≤◌, ◌^◌, ◌%◌, ◌==◌, false, List, [], ◌∷◌, fold, map, length, refl, sym, subst, ap, ◌∙◌, arith, All}
use Rattle.std.proofs.{Math.Nat.mod-eq_of_lt, lemmas.Bool.cond_both, lemmas.Bool.true≢false, lemmas.List.Elements.All-head, lemmas.List.Elements.All-tail}
use Rattle.std.{proofs.lemmas.List.Sums.sum_by-cons, specs.List.sum_by}
use Rattle.kp_bits.proofs.{Operators.binary_word, Operators.binary_width, Words.not_word, Words.concat_word, Words.slice_word}
use Rattle.kp_bits.specs.{Word.IsWord, Word.concat_of, Word.slice_of, Word.not_of, declared.operator.BinOp.BinOp}
use Rattle.kp_bits.specs.Operators.{result_width, binary_of, joined_of}
use Rattle.kp_bits.specs.Word as bits
use Rattle.kp_net.specs.declared.node.{NodeId.NodeId, Kind.Kind}
use Rattle.kp_net.specs.declared.node.Kind.TheVariants.{Const, Ext, Sample, Reg, Word, Not, Binary, Mux, Concat, Slice}
use Rattle.kp_net.specs.{declared.node.Node.Node, Nodes.Cells, Nodes.Words, Nodes.word_of_kind, Nodes.word_of_node, Nodes.word_at, Nodes.at}
use Rattle.kp_net.specs.Widths.{wide, is_cell, BinaryOk, KindOk, NodeOk, AllRight}
use Rattle.kp_net.proofs.Values.{word_is, at_fits}

-- a word of k bits
pub record Has (k : ℕ) (w : bits.Word) : Type 0 where
  pub word : IsWord w
  pub width : w.width ≡ k

has : (k l : ℕ) (w : bits.Word) → IsWord w → w.width ≡ l → l ≡ k → Has k w
has k l w h e f = record { word = h; width = e ∙ f }

binary_has : (op : BinOp) (k x y : ℕ) (a b : bits.Word) → Has x a → Has y b → BinaryOk op k x y → Has k (binary_of op a b)
binary_has op k x y a b h l ok =
    has k _ _ (binary_word op a b h.word l.word (λ s. h.width ∙ ok.1 s ∙ sym l.width)) (binary_width op a b ∙ ap (result_width op) h.width) ok.0

rest_has : (w : Words) (v : ℕ → ℕ) (m k : ℕ) (a : bits.Word) (rest : List NodeId) → Has k a → All (λ b. b.0 < m) rest → ((j : ℕ) → j < m → Has (v j) (w j))
    → k + sum_by (λ b. v b.0) rest ≤ 64 → Has (k + sum_by (λ b. v b.0) rest) (fold concat_of a (map (λ b. w b.0) rest))
rest_has w v m k a [] h below each fits = has _ k a h.word h.width (omega arith)
rest_has w v m k a (b ∷ rest) h below each fits =
    let o : Has (v b.0) (w b.0) = each b.0 (All-head (λ x. x.0 < m) b rest below) in
    let s : ℕ = sum_by (λ x. v x.0) rest in
    let t : sum_by (λ x. v x.0) (b ∷ rest) ≡ v b.0 + s = sum_by-cons (λ (x : NodeId). v x.0) b rest in
    let next : IsWord (concat_of a (w b.0)) = concat_word a (w b.0) h.word o.word (omega (arith, h.width, o.width, t)) in
    let more : Has (k + v b.0) (concat_of a (w b.0)) = record { word = next; width = omega (arith, h.width, o.width) } in
    let P : ℕ → Type 0 = λ n. Has n (fold concat_of a (map (λ x. w x.0) (b ∷ rest))) in
    let e : k + v b.0 + s ≡ k + (v b.0 + s) = omega arith in
    subst P (e ∙ ap (λ n. k + n) (sym t)) (rest_has w v m (k + v b.0) (concat_of a (w b.0)) rest more (All-tail (λ x. x.0 < m) b rest below) each (omega (arith, t)))

parts_have : (w : Words) (v : ℕ → ℕ) (m : ℕ) (parts : List NodeId) → 2 ≤ length parts → All (λ b. b.0 < m) parts → ((j : ℕ) → j < m → Has (v j) (w j))
    → sum_by (λ b. v b.0) parts ≤ 64 → Has (sum_by (λ b. v b.0) parts) (joined_of (map (λ b. w b.0) parts))
parts_have w v m [] some below each fits = absurd (omega arith)
parts_have w v m (a ∷ rest) some below each fits =
    let t : sum_by (λ x. v x.0) (a ∷ rest) ≡ v a.0 + sum_by (λ x. v x.0) rest = sum_by-cons (λ (x : NodeId). v x.0) a rest in
    let P : ℕ → Type 0 = λ n. Has n (joined_of (map (λ b. w b.0) (a ∷ rest))) in
    subst P (sym t) (rest_has w v m (v a.0) (w a.0) rest (each a.0 (All-head (λ x. x.0 < m) a rest below)) (All-tail (λ x. x.0 < m) a rest below) each (omega (arith, t, fits)))

-- the operands are words of the widths that the list says
pub kind_has : (c : Cells) (ns : List Node) (m k : ℕ) (o : Kind) (w : Words) → 1 ≤ k → k ≤ 64 → KindOk ns m k o → is_cell o ≡ false → ((j : ℕ) → j < m → Has (wide ns j) (w j)) → Has k (word_of_kind c w k o)
kind_has c ns m k (Const n) w p q h f each = record { word = record { positive = p; at_most = q; fits = h }; width = refl }
kind_has c ns m k (Not a) w p q h f each = let o = each a.0 h.0 in has k _ (not_of (w a.0)) (not_word (w a.0) o.word) o.width h.1
kind_has c ns m k (Binary op a b) w p q h f each = binary_has op k (wide ns a.0) (wide ns b.0) (w a.0) (w b.0) (each a.0 h.0) (each b.0 h.1) h.2
kind_has c ns m k (Mux t a b) w p q h f each =
    let x = each a.0 h.1 in let y = each b.0 h.2 in
    cond_both ((w t.0).value == 1) (w a.0) (w b.0) (Has k) (λ _. has k _ (w a.0) x.word x.width h.4) (λ _. has k _ (w b.0) y.word y.width h.5)
kind_has c ns m k (Concat parts) w p q h f each =
    let P : ℕ → Type 0 = λ n. Has n (joined_of (map (λ b. w b.0) parts)) in
    subst P h.3 (parts_have w (wide ns) m parts h.0 h.2 each (omega (arith, h.3)))
kind_has c ns m k (Slice a hi lo) w p q h f each =
    let o = each a.0 h.0 in
    record { word = slice_word (w a.0) hi lo o.word h.1 (omega (arith, h.2, o.width)); width = omega (arith, h.1, h.3) }
kind_has c ns m k _ w p q h f each = absurd (true≢false f)

cut_none : (k : ℕ) (w : bits.Word) → Has k w → bits.word k (w.value % 2 ^ k) ≡ w
cut_none k w h =
    let e : k ≡ w.width = sym h.width in
    let fits : w.value < 2 ^ k = (let P : ℕ → Type 0 = λ j. w.value < 2 ^ j in subst P h.width h.word.fits) in
    let v : w.value % 2 ^ k ≡ w.value = mod-eq_of_lt fits in
    λ i. record { width = e i; value = v i }

pub node_exact : (c : Cells) (ns : List Node) (m : ℕ) (n : Node) (w : Words) → NodeOk ns m n → is_cell n.kind ≡ false → ((j : ℕ) → j < m → Has (wide ns j) (w j)) → word_of_node c w n ≡ word_of_kind c w n.width n.kind
node_exact c ns m n w ok f each = cut_none n.width _ (kind_has c ns m n.width n.kind w ok.positive ok.at_most ok.kind f each)

-- each node of a list has a word of its width
pub word_has : (c : Cells) (ns : List Node) (i : ℕ) → AllRight ns → i < length ns → Has (wide ns i) (word_at c ns i)
unfolding at wide
word_has c ns i right h =
    let ok = right i h in
    let P : bits.Word → Type 0 = Has (wide ns i) in
    subst P (sym (word_is c ns i h)) (record { word = record { positive = ok.positive; at_most = ok.at_most; fits = at_fits c ns i h }; width = refl })

-- so the word of a constant or an operation that is well-formed after a well-formed list is exact
pub node_whole : (c : Cells) (ns : List Node) (n : Node) → AllRight ns → NodeOk ns (length ns) n → is_cell n.kind ≡ false → word_of_node c (word_at c ns) n ≡ word_of_kind c (word_at c ns) n.width n.kind
node_whole c ns n right ok f = node_exact c ns (length ns) n (word_at c ns) ok f (λ j l. word_has c ns j right l)
