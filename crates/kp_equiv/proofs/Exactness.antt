-- Two nodes have the same class exactly if they are equivalent.
use Rattle.std.proofs.Common.{◌≡◌, ◌∙◌, ℕ, zero, suc, ◌<◌, ◌≤◌, List, length, get_or, sym, ap, subst, arith, Some}
use Rattle.std.specs.{Map.lookup, List.AllZip}
use Rattle.std.proofs.lemmas.List.Elements.{length_all_zip}
use Rattle.kp_net.{specs.declared.node.NodeId.NodeId, specs.declared.node.Node.Node, specs.Netlist.Net, specs.Parts.NetOk}
use Rattle.kp_net.specs.Widths.{no_node}
use Rattle.kp_equiv.specs.declared.bit.Bit.{Bit, TheVariants.Fixed, TheVariants.Of}
use Rattle.kp_equiv.specs.declared.term.Term.{Term, TheVariants.Operation, TheVariants.Bits}
use Rattle.kp_equiv.{specs.Alike.Relation, specs.Alike.AlikeWithin, specs.Alike.BitAlike, specs.Wiring.bits_of, specs.Classes.class_in, specs.Classes.Determines, proofs.Determined.id_is}
use Rattle.kp_equiv.specs.inner.Shapes.{known_of, shape, Numbered, Has, IsTable, IsNumbered, HasClass, AreClasses}
use Rattle.kp_equiv.specs.inner.Bits.{bits_in}
use Rattle.kp_equiv.proofs.{Operations.kinds_from, Operations.kinds_to, Terms.is, Wired.IsBelow, Wired.bits_long, Wired.bits_below, Zipped.zip_joined, Zipped.zip_same}

module _ (a b : Net) (t : Numbered) (ca cb : List NodeId) (wa wb : List (List Bit)) (oka : NetOk a) (okb : NetOk b)
    (fa : AreClasses (known_of a) a t ca wa) (fb : AreClasses (known_of a) b t cb wb)
    (na : length ca ≡ length a.nodes) (nb : length cb ≡ length b.nodes) (table : IsTable t) where
  abbrev FirstBit : Bit → Bit → Type 0
  FirstBit = IsNumbered (known_of a) a t ca

  abbrev SecondBit : Bit → Bit → Type 0
  SecondBit = IsNumbered (known_of a) b t cb

  -- the number of a term
  numbers : (s r : Term) (n m : NodeId) → Has t s n.0 → Has t r m.0 → s ≡ r → n ≡ m
  numbers s r n m p q e = let same : Some n.0 ≡ Some m.0 = sym p ∙ ap (λ (x : Term). lookup (is x) t) e ∙ q in id_is n m (cc same)

  -- bits with the same number
  module _ (R : Relation) (d : ℕ) (links : (g h : NodeId) → g.0 < d → g.0 < length a.nodes → h.0 < length b.nodes → class_in ca g ≡ class_in cb h → R g h)
      (m n : ℕ) (lm : m < length a.nodes) (ln : n < length b.nodes) (lower : m ≤ d) where
    bit_from : (x y z : Bit) → IsBelow a.nodes (suc m) x → IsBelow b.nodes (suc n) y → FirstBit x z → SecondBit y z → BitAlike R a b x y
    bit_from (Fixed x) (Fixed y) (Fixed z) lx ly p q = p ∙ sym q
    bit_from (Of u k) (Of v l) (Of w o) lx ly p q =
        let x : Node = get_or a.nodes u.0 no_node in
        let y : Node = get_or b.nodes v.0 no_node in
        let below = lx.0 in
        let lu : u.0 < length a.nodes = omega (arith, below, lm) in
        let lv : v.0 < length b.nodes = (let q = ly.0 in omega (arith, q, ln)) in
        let terms : Operation (shape (known_of a) a.parts (class_in ca) x) ≡ Operation (shape (known_of a) b.parts (class_in cb) y) = table.apart _ _ w.0 p.1 q.1 in
        let s : shape (known_of a) a.parts (class_in ca) x ≡ shape (known_of a) b.parts (class_in cb) y = cc terms in (
          p.0 ∙ sym q.0,
          (
            ap (λ (r : Node). r.width) s,
            kinds_from R a b (class_in ca) (class_in cb) u.0 v.0 x.width y.width
                (λ g h lg lh f. links g h (omega (arith, lg, below, lower)) (omega (arith, lg, lu)) (omega (arith, lh, lv)) f)
                x.kind y.kind lx.1 (oka.right u.0 lu).kind (okb.right v.0 lv).kind (oka.parts.cells u.0 lu) (ap (λ (r : Node). r.kind) s),
          ),
        )
    bit_from (Fixed x) y (Of w o) lx ly p q = absurd p
    bit_from (Of u k) y (Fixed z) lx ly p q = absurd p
    bit_from (Fixed x) (Of v l) (Fixed z) lx ly p q = absurd q
    bit_from (Of u k) (Fixed y) (Of w o) lx ly p q = absurd q

  alike_from : (d : ℕ) (i j : NodeId) → i.0 < d → i.0 < length a.nodes → j.0 < length b.nodes → class_in ca i ≡ class_in cb j → AlikeWithin a b d i j
  unfolding AlikeWithin
  alike_from zero i j h li lj e = absurd (omega (arith, h))
  alike_from (suc d) i j h li lj e =
      let p : HasClass (known_of a) a t ca i (bits_in wa i) = fa i (omega (arith, na, li)) in
      let q : HasClass (known_of a) b t cb j (bits_in wb j) = fb j (omega (arith, nb, lj)) in
      let terms : Bits (bits_in wa i) ≡ Bits (bits_in wb j) = table.apart _ _ (class_in cb j).0 (subst (λ (c : NodeId). Has t (Bits (bits_in wa i)) c.0) e p.class) q.class in
      let same : bits_in wa i ≡ bits_in wb j = cc terms in
      let second : AllZip SecondBit (bits_of b.nodes j) (bits_in wa i) = subst (AllZip SecondBit (bits_of b.nodes j)) (sym same) q.numbered in (
        li,
        lj,
        sym (bits_long a.nodes oka.right i li) ∙ length_all_zip FirstBit (bits_of a.nodes i) (bits_in wa i) p.numbered
            ∙ sym (length_all_zip SecondBit (bits_of b.nodes j) (bits_in wa i) second) ∙ bits_long b.nodes okb.right j lj,
        zip_joined (IsBelow a.nodes (suc i.0)) (IsBelow b.nodes (suc j.0)) FirstBit SecondBit (BitAlike (AlikeWithin a b d) a b) (bits_of a.nodes i) (bits_of b.nodes j) (bits_in wa i)
            (bit_from (AlikeWithin a b d) d (alike_from d) i.0 j.0 li lj (omega (arith, h))) (bits_below a.nodes oka.right i li) (bits_below b.nodes okb.right j lj) p.numbered second,
      )

  -- and the numbers of equivalent bits
  bit_to : (R : Relation) → ((g h : NodeId) → R g h → class_in ca g ≡ class_in cb h) → (x y z w : Bit) → BitAlike R a b x y → FirstBit x z → SecondBit y w → z ≡ w
  bit_to R joins (Fixed x) (Fixed y) (Fixed z) (Fixed w) h p q = ap Fixed (sym p ∙ h ∙ q)
  bit_to R joins (Of u k) (Of v l) (Of n m) (Of o r) h p q =
      let x : Node = get_or a.nodes u.0 no_node in
      let y : Node = get_or b.nodes v.0 no_node in
      let w = h.1.0 in
      let k = kinds_to R a b (class_in ca) (class_in cb) (known_of a) joins x.kind y.kind h.1.1 in
      let s : shape (known_of a) a.parts (class_in ca) x ≡ shape (known_of a) b.parts (class_in cb) y = (λ t. record { width = w t; kind = k t }) in
      let e : n ≡ o = numbers _ _ n o p.1 q.1 (ap Operation s) in
      let f : m ≡ r = sym p.0 ∙ h.0 ∙ q.0 in
      λ t. Of (e t) (f t)
  bit_to R joins (Fixed x) (Of v l) z w h p q = absurd h
  bit_to R joins (Of u k) (Fixed y) z w h p q = absurd h
  bit_to R joins (Fixed x) (Fixed y) (Of n m) w h p q = absurd p
  bit_to R joins (Fixed x) (Fixed y) (Fixed z) (Of o r) h p q = absurd q
  bit_to R joins (Of u k) (Of v l) (Fixed z) w h p q = absurd p
  bit_to R joins (Of u k) (Of v l) (Of n m) (Fixed w) h p q = absurd q

  alike_to : (d : ℕ) (i j : NodeId) → AlikeWithin a b d i j → class_in ca i ≡ class_in cb j
  unfolding AlikeWithin
  alike_to zero i j h = absurd h
  alike_to (suc d) i j h =
      let p : HasClass (known_of a) a t ca i (bits_in wa i) = fa i (let l = h.0 in omega (arith, l, na)) in
      let q : HasClass (known_of a) b t cb j (bits_in wb j) = fb j (let l = h.1 in omega (arith, l, nb)) in
      let same = zip_same (BitAlike (AlikeWithin a b d) a b) FirstBit SecondBit (bits_of a.nodes i) (bits_of b.nodes j) (bits_in wa i) (bits_in wb j)
      (bit_to (AlikeWithin a b d) (alike_to d)) h.3 p.numbered q.numbered in
      numbers (Bits (bits_in wa i)) (Bits (bits_in wb j)) (class_in ca i) (class_in cb j) p.class q.class (ap Bits same)

  pub determines : Determines a b ca cb
  determines = record {
    first_count = na;
    second_count = nb;
    same = λ i j li lj e. record { levels = suc i.0; alike = alike_from (suc i.0) i j (omega arith) li lj e };
    alike = λ i j h. alike_to h.levels i j h.alike;
  }
