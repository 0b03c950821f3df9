-- Equivalent nodes have equal words, if both netlists have the same sources by name.
use Rattle.std.proofs.Common.{◌≡◌, ◌∙◌, ℕ, zero, suc, ◌+◌, ◌*◌, ◌%◌, ◌^◌, ◌==◌, ◌<◌, Bool, true, false, cond, List, [], ◌∷◌, length, get_or, refl, sym, ap, arith, ⊎_elim}
use Rattle.std.specs.{Int.bit_at, List.AllZip}
use Rattle.std.proofs.lemmas.Bool.{false≢true}
use Rattle.kp_bits.specs.Word as bits
use Rattle.kp_bits.specs.{Word.word, Word.not_of, Word.mux_of, Word.slice_of, Operators.is_shift, Operators.commutes, Operators.binary_of, declared.operator.BinOp.BinOp}
use Rattle.kp_bits.proofs.Operators.{commuted}
use Rattle.kp_net.specs.declared.node.{NodeId.NodeId, Kind.Kind}
use Rattle.kp_net.specs.declared.node.Kind.TheVariants.{Ext, Sample, Reg, Word, Not, Binary, Mux}
use Rattle.kp_net.specs.{declared.node.Node.Node, Netlist.Net}
use Rattle.kp_net.specs.{Nodes.Cells, Nodes.Words, Nodes.word_of_kind, Nodes.word_of_node, Nodes.word_at, Nodes.at, Nodes.on, Parts.NetOk, Parts.CellOk}
use Rattle.kp_net.{specs.Widths.KindOk, specs.Widths.wide, specs.Widths.no_node, proofs.Values.word_there, proofs.Values.word_wide}
use Rattle.kp_equiv.specs.Alike.{Relation, PairRelated, KindAlike, NodeAlike, BitAlike, Alike, AlikeWithin}
use Rattle.kp_equiv.specs.declared.bit.Bit.{Bit, TheVariants.Fixed, TheVariants.Of}
use Rattle.kp_equiv.specs.{Wiring.bits_of, inner.Meaning.SameCells}
use Rattle.kp_equiv.proofs.{Wired.IsBelow, Wired.bits_below, BitValues.value, BitValues.bit_value, BitValues.bits_value, Zipped.Each}

no_shift : (op : BinOp) → commutes op ≡ true → is_shift op ≡ false
no_shift BinOp.Shl c = absurd (false≢true c)
no_shift BinOp.Shr c = absurd (false≢true c)
no_shift _ c = refl

-- nodes with the same operation return the same words
module _ (R : Relation) (a b : Net) (c d : Cells) (cells : SameCells a b c d) (m k : ℕ) (v w : Words)
    (joins : (x y : NodeId) → R x y → v x.0 ≡ w y.0) (widths : (x : NodeId) → x.0 < m → (v x.0).width ≡ wide a.nodes x.0) where
  pair_alike : (op : BinOp) (x y r s : NodeId) → KindOk a.nodes m k (Binary op x y) → PairRelated R op x y r s → binary_of op (v x.0) (v y.0) ≡ binary_of op (w r.0) (w s.0)
  pair_alike op x y r s ok = ⊎_elim
      (λ (h : R x r × R y s). let p = joins x r h.0 in let q = joins y s h.1 in λ i. binary_of op (p i) (q i))
      (λ (h : (commutes op ≡ true) × R x s × R y r).
      let p = joins x s h.1 in let q = joins y r h.2 in
      let z : binary_of op (v y.0) (v x.0) ≡ binary_of op (w r.0) (w s.0) = (λ i. binary_of op (q i) (p i)) in
      commuted op (v x.0) (v y.0) h.0 (widths x ok.0 ∙ ok.2.1 (no_shift op h.0) ∙ sym (widths y ok.1)) ∙ z)

  pub kinds_alike : (l : ℕ) (o p : Kind) → KindOk a.nodes m k o → CellOk a.nodes a.parts k o → CellOk b.nodes b.parts l p → KindAlike R a b o p → word_of_kind c v k o ≡ word_of_kind d w k p
  kinds_alike l Ext Ext ok s t h = ap (word k) cells.ext
  kinds_alike l (Sample x) (Sample y) ok s t h = ap (word k) (cells.sample x y s.0 t.0 h)
  kinds_alike l (Reg x) (Reg y) ok s t h = ap (word k) (cells.reg x y s.0 t.0 h)
  kinds_alike l (Word f x) (Word g y) ok s t h =
      ap (λ (z : bits.Word). word k (c.word f z.value)) (joins x y h.1) ∙ ap (word k) (cells.word f g (w y.0).value s.0 t.0 h.0)
  kinds_alike l (Not x) (Not y) ok s t h = ap not_of (joins x y h)
  kinds_alike l (Binary op x y) (Binary o r z) ok s t h = pair_alike op x y r z ok h.1 ∙ ap (λ (q : BinOp). binary_of q (w r.0) (w z.0)) h.0
  kinds_alike l (Mux e x y) (Mux f r z) ok s t h = let p = joins e f h.0 in let q = joins x r h.1 in let u = joins y z h.2 in λ i. mux_of (p i) (q i) (u i)
  kinds_alike l o p ok s t h = absurd h

module _ (a b : Net) (oka : NetOk a) (okb : NetOk b) (c d : Cells) (cells : SameCells a b c d) where
  -- nodes with the same operation have the same words, and so their bits are the same
  module _ (R : Relation) (joins : (x y : NodeId) → R x y → word_at c a.nodes x.0 ≡ word_at d b.nodes y.0) where
    nodes_same : (i j : NodeId) → i.0 < length a.nodes → j.0 < length b.nodes → NodeAlike R a b (get_or a.nodes i.0 no_node) (get_or b.nodes j.0 no_node) → word_at c a.nodes i.0 ≡ word_at d b.nodes j.0
    nodes_same i j li lj h =
        let x : Node = get_or a.nodes i.0 no_node in
        let y : Node = get_or b.nodes j.0 no_node in
        let ox = oka.right i.0 li in
        let oy = okb.right j.0 lj in
        let k : word_of_kind c (word_at c a.nodes) x.width x.kind ≡ word_of_kind d (word_at d b.nodes) x.width y.kind
        = kinds_alike R a b c d cells i.0 x.width (word_at c a.nodes) (word_at d b.nodes) joins (λ z l. word_wide c a.nodes z.0 (omega (arith, l, li)))
        y.width x.kind y.kind ox.kind (oka.parts.cells i.0 li) (okb.parts.cells j.0 lj) h.1 in
        word_there c a.nodes i.0 li ox
        ∙ ap (λ (z : bits.Word). word x.width (z.value % 2 ^ x.width)) k
        ∙ ap (λ (r : ℕ). word_of_node d (word_at d b.nodes) (record { width = r; kind = y.kind })) h.0
        ∙ sym (word_there d b.nodes j.0 lj oy)

    bits_same : (m n : ℕ) → m < length a.nodes → n < length b.nodes → (x y : Bit) → IsBelow a.nodes (suc m) x → IsBelow b.nodes (suc n) y → BitAlike R a b x y → bit_value c a.nodes x ≡ bit_value d b.nodes y
    bits_same m n lm ln (Fixed x) (Fixed y) p q h = ap (λ (t : Bool). cond t 1 0) h
    bits_same m n lm ln (Of i k) (Of j l) p q h =
        let u = p.0 in let v = q.0 in let w = nodes_same i j (omega (arith, u, lm)) (omega (arith, v, ln)) h.1 in let e = h.0 in
        λ t. bit_at (w t).value (e t)
    bits_same m n lm ln (Fixed x) (Of j l) p q h = absurd h
    bits_same m n lm ln (Of i k) (Fixed y) p q h = absurd h

    lists_same : (m n : ℕ) → m < length a.nodes → n < length b.nodes → (xs ys : List Bit) → Each (IsBelow a.nodes (suc m)) xs → Each (IsBelow b.nodes (suc n)) ys → AllZip (BitAlike R a b) xs ys
        → value (bit_value c a.nodes) xs ≡ value (bit_value d b.nodes) ys
    lists_same m n lm ln [] [] p q h = refl
    lists_same m n lm ln (x ∷ xs) (y ∷ ys) p q h =
        let e = bits_same m n lm ln x y p.0 q.0 h.0 in let f = lists_same m n lm ln xs ys p.1 q.1 h.1 in
        λ t. e t + 2 * f t
    lists_same m n lm ln _ _ p q h = absurd h

  within : (n : ℕ) (i j : NodeId) → AlikeWithin a b n i j → word_at c a.nodes i.0 ≡ word_at d b.nodes j.0
  unfolding AlikeWithin
  within zero i j h = absurd h
  within (suc n) i j h =
      let li : i.0 < length a.nodes = h.0 in
      let lj : j.0 < length b.nodes = h.1 in
      let w : (word_at c a.nodes i.0).width ≡ (word_at d b.nodes j.0).width = word_wide c a.nodes i.0 li ∙ h.2 ∙ sym (word_wide d b.nodes j.0 lj) in
      let v : (word_at c a.nodes i.0).value ≡ (word_at d b.nodes j.0).value
      = sym (bits_value c a.nodes oka.right i li)
      ∙ lists_same (AlikeWithin a b n) (within n) i.0 j.0 li lj (bits_of a.nodes i) (bits_of b.nodes j) (bits_below a.nodes oka.right i li) (bits_below b.nodes okb.right j lj) h.3
      ∙ bits_value d b.nodes okb.right j lj in
      λ t. word (w t) (v t)

  pub alike_words : (i j : NodeId) → Alike a b i j → word_at c a.nodes i.0 ≡ word_at d b.nodes j.0
  alike_words i j h = within h.levels i j h.alike

  pub alike_values : (i j : NodeId) → Alike a b i j → at c a.nodes i.0 ≡ at d b.nodes j.0
  unfolding at
  alike_values i j h = ap (λ (x : bits.Word). x.value) (alike_words i j h)

  pub alike_tests : (i j : NodeId) → Alike a b i j → on c a.nodes i.0 ≡ on d b.nodes j.0
  unfolding on
  alike_tests i j h = ap (λ (n : ℕ). n == 1) (alike_values i j h)
