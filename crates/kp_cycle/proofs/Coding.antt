-- The operation of a node computes the node's value.
use Rattle.std.proofs.Common.{◌≡◌, ◌∙◌, ℕ, ◌+◌, ◌-◌, ◌*◌, ◌/◌, ◌%◌, ◌^◌, ◌<◌, ◌≤◌, ◌==◌, Bool, true, false, cond, List, [], ◌∷◌, length, get_or, refl, ap, sym, subst, arith, bit_and, bit_or}
use Rattle.std.specs.Prelude.{All}
use Rattle.kp_bits.specs.{declared.operator.BinOp.BinOp, Word.Word, Operators.result_width, Operators.on_words}
use Rattle.kp_bits.proofs.{Operators.computed, Machine.not_number, Machine.join_number, Machine.slice_number, Powers.concat_fits}
use Rattle.kp_net.specs.declared.node.{NodeId.NodeId, Kind.Kind}
use Rattle.kp_net.specs.declared.node.Kind.TheVariants.{Not, Binary, Mux, Concat, Slice}
use Rattle.kp_net.specs.{declared.node.Node.Node, Nodes.Cells, Nodes.word_of_kind, Nodes.word_of_node}
use Rattle.kp_net.specs.{Widths.wide, Widths.no_node, Widths.is_cell, Widths.KindOk, Widths.AllRight, Parts.NetOk, Netlist.Net}
use Rattle.kp_net.proofs.Exact.{Has}
use Rattle.kp_cycle_plan.specs.{Codes.binary_op, Codes.joined_op, Codes.kind_op, Codes.op_for, Codes.number_of, Codes.IsReady, Storage.FitsBelow, Storage.seen}
use Rattle.kp_cycle.proofs.Settling.{operands_have, whole}

-- the width of the operands of a comparison doesn't matter
wide_number : (op : BinOp) (x y k w : ℕ) → result_width op w ≡ k → on_words op x y k (2 ^ k - 1) ≡ on_words op x y w (2 ^ w - 1)
wide_number BinOp.Eq x y k w e = refl
wide_number BinOp.Lt x y k w e = refl
wide_number op x y k w e = ap (λ n. on_words op x y n (2 ^ n - 1)) (sym e)

pub cond_value : (b : Bool) (x y : Word) → cond b x.value y.value ≡ (cond b x y).value
cond_value true x y = refl
cond_value false x y = refl

-- what is known of a node of width k at index m: its operands are words, and `plain` is its number
module _ (c : Cells) (ns : List Node) (v : List ℕ) (m k plain : ℕ) (small : k ≤ 64)
    (have : (j : ℕ) → j < m → Has (wide ns j) (seen ns v j)) where
  as_number : (op : BinOp) (a b : NodeId) → number_of v plain (binary_op op a b k (2 ^ k - 1)) ≡ on_words op (get_or v a.0 0) (get_or v b.0 0) k (2 ^ k - 1)
  as_number BinOp.And a b = refl
  as_number _ a b = refl

  binary : (op : BinOp) (a b : NodeId) → KindOk ns m k (Binary op a b) → plain ≡ (word_of_kind c (seen ns v) k (Binary op a b)).value
      → number_of v plain (binary_op op a b k (2 ^ k - 1)) ≡ plain
  binary op a b ok e =
      as_number op a b ∙ wide_number op (get_or v a.0 0) (get_or v b.0 0) k (wide ns a.0) ok.2.0
      ∙ computed op (seen ns v a.0) (seen ns v b.0) (2 ^ wide ns a.0 - 1) (have a.0 ok.0).word (have b.0 ok.1).word ok.2.1 refl ∙ sym e

  joined : (parts : List NodeId) → KindOk ns m k (Concat parts) → plain ≡ (word_of_kind c (seen ns v) k (Concat parts)).value
      → number_of v plain (joined_op ns parts) ≡ plain
  joined [] ok e = refl
  joined (a ∷ []) ok e = refl
  joined (a ∷ (b ∷ [])) ok e =
      let x = (have a.0 (ok.2 0 a (omega arith))).word in
      let y = (have b.0 (ok.2 1 b (omega arith))).word in
      let l : wide ns a.0 + wide ns b.0 ≤ 64 = omega (arith, ok.3, small) in
      join_number (get_or v a.0 0) (get_or v b.0 0) (wide ns a.0) (wide ns b.0) x.positive x.fits y.fits l ∙ sym e
  joined (a ∷ (b ∷ (d ∷ []))) ok e =
      let i = wide ns a.0 in
      let j = wide ns b.0 in
      let x = (have a.0 (ok.2 0 a (omega arith))).word in
      let y = (have b.0 (ok.2 1 b (omega arith))).word in
      let z = (have d.0 (ok.2 2 d (omega arith))).word in
      let upper : ℕ = get_or v a.0 0 * 2 ^ j + get_or v b.0 0 in
      let l : i + j + wide ns d.0 ≤ 64 = omega (arith, ok.3, small) in
      ap (λ n. bit_or (n * 2 ^ bit_and (wide ns d.0) 63 % 2 ^ 64) (get_or v d.0 0)) (join_number (get_or v a.0 0) (get_or v b.0 0) i j x.positive x.fits y.fits (omega arith))
      ∙ join_number upper (get_or v d.0 0) (i + j) (wide ns d.0) (omega (arith, x.positive)) (concat_fits (get_or v a.0 0) (get_or v b.0 0) i j x.fits y.fits) z.fits l ∙ sym e
  joined (a ∷ (b ∷ (d ∷ (f ∷ rest)))) ok e = refl

  kinds : (o : Kind) → KindOk ns m k o → (is_cell o ≡ false → plain ≡ (word_of_kind c (seen ns v) k o).value) → number_of v plain (kind_op ns k (2 ^ k - 1) o) ≡ plain
  kinds (Not a) ok e =
      let x : get_or v a.0 0 < 2 ^ k = subst (λ w. get_or v a.0 0 < 2 ^ w) ok.1 (have a.0 ok.0).word.fits in
      not_number k (get_or v a.0 0) (2 ^ k - 1) small x refl ∙ ap (λ w. 2 ^ w - 1 - get_or v a.0 0) (sym ok.1) ∙ sym (e refl)
  kinds (Binary op a b) ok e = binary op a b ok (e refl)
  kinds (Mux test a b) ok e = cond_value (get_or v test.0 0 == 1) (seen ns v a.0) (seen ns v b.0) ∙ sym (e refl)
  kinds (Concat parts) ok e = joined parts ok (e refl)
  kinds (Slice a hi lo) ok e =
      let w : hi + 1 - lo ≡ k = omega (arith, ok.3) in
      let l : lo < 64 = omega (arith, ok.1, ok.2, (have a.0 ok.0).word.at_most) in
      slice_number (get_or v a.0 0) k lo (2 ^ k - 1) l refl ∙ ap (λ j. get_or v a.0 0 / 2 ^ lo % 2 ^ j) (sym w) ∙ sym (e refl)
  kinds _ ok e = refl

-- the operation of node i computes its number
pub coded : (c : Cells) (ns : List Node) (v : List ℕ) (i : ℕ) → AllRight ns → i < length ns → FitsBelow ns v i
    → number_of v (word_of_node c (seen ns v) (get_or ns i no_node)).value (op_for ns (get_or ns i no_node)) ≡ (word_of_node c (seen ns v) (get_or ns i no_node)).value
coded c ns v i right h fits =
    let n : Node = get_or ns i no_node in
    let ok = right i h in
    kinds c ns v i n.width (word_of_node c (seen ns v) n).value ok.at_most (operands_have ns v i right h fits) n.kind ok.kind
    (λ e. sym (whole c ns v i n.kind right h fits refl e))

-- all that it reads is there
module _ (ns : List Node) (i m width mask : ℕ) (e : i ≤ m) where
  ready_parts : (parts : List NodeId) → All (λ a. a.0 < i) parts → IsReady m (joined_op ns parts)
  ready_parts [] h = tt
  ready_parts (a ∷ []) h = tt
  ready_parts (a ∷ (b ∷ [])) h = (omega (arith, h 0 a (omega arith)), omega (arith, h 1 b (omega arith)))
  ready_parts (a ∷ (b ∷ (d ∷ []))) h = (omega (arith, h 0 a (omega arith)), omega (arith, h 1 b (omega arith)), omega (arith, h 2 d (omega arith)))
  ready_parts (a ∷ (b ∷ (d ∷ (f ∷ rest)))) h = tt

  ready_binary : (op : BinOp) (a b : NodeId) → a.0 < m → b.0 < m → IsReady m (binary_op op a b width mask)
  ready_binary BinOp.And a b h k = (h, k)
  ready_binary _ a b h k = (h, k)

  pub ready_kind : (k : ℕ) (o : Kind) → KindOk ns i k o → IsReady m (kind_op ns width mask o)
  ready_kind k (Not a) h = omega (arith, h.0)
  ready_kind k (Binary op a b) h = ready_binary op a b (omega (arith, h.0)) (omega (arith, h.1))
  ready_kind k (Mux test a b) h = (omega (arith, h.0), omega (arith, h.1), omega (arith, h.2))
  ready_kind k (Concat parts) h = ready_parts parts h.2
  ready_kind k (Slice a hi lo) h = omega (arith, h.0)
  ready_kind k _ h = tt

-- the operation of node i of a netlist is ready
pub ready : (net : Net) (m i : ℕ) → NetOk net → m ≡ length net.nodes → i < length net.nodes → IsReady m (op_for net.nodes (get_or net.nodes i no_node))
ready net m i ok e l =
    let n : Node = get_or net.nodes i no_node in
    ready_kind net.nodes i m n.width (2 ^ n.width - 1) (omega (arith, l, e)) n.width n.kind (ok.right i l).kind
