-- Operations at nodes: what follows for the widths of the nodes if they have a value, and the meaning of a node with that value.
use Rattle.std.proofs.Common.{◌≡◌, ◌∙◌, ℕ, ◌<◌, ◌≤◌, ◌&&◌, ◌||◌, ◌==◌, Bool, true, false, List, Some, length, refl, ap, sym, arith}
use Rattle.std.proofs.lemmas.Bool.{and_parts, ltb-true, leb-true, eqb-true}
use Rattle.std.specs.Prelude.{is_some, nat_lt, nat_le}
use Rattle.kp_bits.specs.{Word.Word, Word.IsWord, Operators.is_shift, Operators.result_width}
use Rattle.kp_bits.specs.Checked.{where_so, checked_binary, checked_mux, checked_slice, is_extension}
use Rattle.kp_bits.specs.declared.operator.BinOp.{BinOp}
use Rattle.kp_net.specs.{declared.node.NodeId.NodeId, declared.node.Node.Node, Nodes.Cells, Nodes.word_at, Nodes.at, Widths.wide, Widths.BinaryOk, Growth.Held}
use Rattle.kp_net.proofs.Values.{word_wide, at_fits}
use Rattle.kp_build.specs.inner.Showing.{IsThere, Shows}

-- a property for all cells holds for empty cells
abbrev pub no_cells : Cells
no_cells = record { ext = 0; sample = λ s. 0; reg = λ r. 0; word = λ f a. 0 }

pub so_true : (t : Bool) (w : Word) → is_some (where_so t w) ≡ true → t ≡ true
so_true true w h = refl
so_true false w h = h

so_some : (t : Bool) (w : Word) → is_some (where_so t w) ≡ true → where_so t w ≡ Some w
so_some true w h = refl
so_some false w h = cc

-- a node that has the value after a test which passes, whatever the cells hold
pub shown : (t : Cells → Bool) (w : Cells → Word) (q : Held) (n : NodeId) → IsThere (λ c. where_so (t c) (w c)) → ((c : Cells) → word_at c q.nodes n.0 ≡ w c)
    → Shows q n (λ c. where_so (t c) (w c))
unfolding IsThere Shows
shown t w q n h k = λ c. so_some (t c) (w c) (h c) ∙ ap Some (sym (k c))

passes : (t : Cells → Bool) (w : Cells → Word) → IsThere (λ c. where_so (t c) (w c)) → t no_cells ≡ true
unfolding IsThere
passes t w h = so_true (t no_cells) (w no_cells) (h no_cells)

second : (a b : Bool) → a ≡ false → (a || b) ≡ true → b ≡ true
second true b h k = cc
second false b h k = k

-- the word of a node with a width
pub is_word : (c : Cells) (ns : List Node) (i : ℕ) → i < length ns → 1 ≤ wide ns i → wide ns i ≤ 64 → IsWord (word_at c ns i)
unfolding at
is_word c ns i h k l =
    let w = word_wide c ns i h in
    let f = at_fits c ns i h in
    record { positive = omega arith; at_most = omega arith; fits = rw w f }

module _ (ns : List Node) where
  width_at : (i : ℕ) → i < length ns → (word_at no_cells ns i).width ≡ wide ns i
  width_at i h = word_wide no_cells ns i h

  -- the operands of a binary operator
  pub operands_ok : (op : BinOp) (a b : ℕ) → a < length ns → b < length ns → IsThere (λ c. checked_binary op (word_at c ns a) (word_at c ns b))
      → BinaryOk op (result_width op (wide ns a)) (wide ns a) (wide ns b)
  operands_ok op a b h k there = (
    refl,
    λ e.
        let t = passes (λ c. is_shift op || (word_at c ns a).width == (word_at c ns b).width) _ there in
        sym (width_at a h) ∙ eqb-true _ _ (second _ _ e t) ∙ width_at b k,
  )

  -- the test and the branches of a choice
  pub branches_ok : (t a b : ℕ) → t < length ns → a < length ns → b < length ns → IsThere (λ c. checked_mux (word_at c ns t) (word_at c ns a) (word_at c ns b))
      → (wide ns t ≡ 1) × (wide ns b ≡ wide ns a)
  branches_ok t a b h k l there =
      let e = and_parts _ _ (passes (λ c. (word_at c ns t).width == 1 && (word_at c ns a).width == (word_at c ns b).width) _ there) in
      (sym (width_at t h) ∙ eqb-true _ _ e.0, sym (width_at b l) ∙ sym (eqb-true _ _ e.1) ∙ width_at a k)

  -- the bits of a slice
  pub bits_ok : (hi lo a : ℕ) → a < length ns → IsThere (λ c. checked_slice hi lo (word_at c ns a)) → (lo ≤ hi) × (hi < wide ns a)
  bits_ok hi lo a h there =
      let e = and_parts _ _ (passes (λ c. nat_le lo hi && nat_lt hi (word_at c ns a).width) _ there) in
      let w = width_at a h in
      let below : hi < (word_at no_cells ns a).width = ltb-true _ _ e.1 in
      (leb-true _ _ e.0, omega arith)

  -- an extension
  pub extension_ok : (width a : ℕ) (w : Cells → Word) → a < length ns → IsThere (λ c. where_so (is_extension width (word_at c ns a)) (w c)) → (wide ns a ≤ width) × (width ≤ 64)
  extension_ok width a w h there =
      let e = and_parts _ _ (passes (λ c. is_extension width (word_at c ns a)) w there) in
      let k = width_at a h in
      let above : (word_at no_cells ns a).width ≤ width = leb-true _ _ e.0 in
      (omega arith, leb-true _ _ e.1)
