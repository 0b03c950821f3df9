-- The bits of nodes.
use Rattle.std.proofs.Common.{◌≡◌, ◌∙◌, ℕ, zero, suc, ◌+◌, ◌<◌, ◌==◌, Bool, true, false, List, [], ◌∷◌, length, drop, get_or, refl, sym, ap, subst, arith, All, length-append}
use Rattle.std.proofs.lemmas.List.{length-take-le, length-drop, FromFn.length-map-range_with_len, Sums.sum_by-cons, Elements.All-head, Elements.All-tail, Elements.same_from_all_zip}
use Rattle.std.specs.{Int.bit_at, List.AllZip, List.range_with_len, List.sum_by}
use Rattle.kp_net.specs.declared.node.{NodeId.NodeId, Kind.Kind, Node.Node}
use Rattle.kp_net.specs.declared.node.Kind.TheVariants.{Const, Concat, Slice}
use Rattle.kp_net.specs.Widths.{KindOk, AllRight, wide, no_node}
use Rattle.kp_equiv.specs.declared.bit.Bit.{Bit, TheVariants.Fixed, TheVariants.Of}
use Rattle.kp_equiv.specs.Wiring.{bits_of_parts, bits_of_kind, bits_within, bits_of}
use Rattle.kp_equiv.proofs.Zipped.{Each, zip_take, zip_drop, zip_append, zip_each, each_weaker}

-- what only chooses and orders bits
abbrev pub is_wiring : Kind → Bool
is_wiring (Const n) = true
is_wiring (Concat xs) = true
is_wiring (Slice a hi lo) = true
is_wiring _ = false

-- related operands have related bits
module _ (R : Bit → Bit → Type 0) (f g : NodeId → List Bit) (m : ℕ) (i n : NodeId) (operands : (a : NodeId) → a.0 < m → AllZip R (f a) (g a))
    (fixed : (x : Bool) → R (Fixed x) (Fixed x)) where
  parts_related : (xs : List NodeId) → All (λ a. a.0 < m) xs → AllZip R (bits_of_parts f xs) (bits_of_parts g xs)
  parts_related [] h = tt
  parts_related (x ∷ xs) h =
      zip_append R (bits_of_parts f xs) (f x) (bits_of_parts g xs) (g x) (parts_related xs (All-tail (λ a. a.0 < m) x xs h)) (operands x (All-head (λ a. a.0 < m) x xs h))

  pub kind_related : (ns : List Node) (w : ℕ) (k : Kind) → KindOk ns m w k → (is_wiring k ≡ false → (b : ℕ) → R (Of i b) (Of n b)) → AllZip R (bits_of_kind f i w k) (bits_of_kind g n w k)
  kind_related ns w (Const v) h own = zip_each R (λ b. Fixed (bit_at v b == 1)) (λ b. Fixed (bit_at v b == 1)) (range_with_len 0 w) (λ b. fixed (bit_at v b == 1))
  kind_related ns w (Concat xs) h own = parts_related xs h.2
  kind_related ns w (Slice a hi lo) h own = zip_take R w (drop lo (f a)) (drop lo (g a)) (zip_drop R lo (f a) (g a) (operands a h.0))
  kind_related ns w _ h own = zip_each R (Of i) (Of n) (range_with_len 0 w) (own refl)

abbrev Same : Bit → Bit → Type 0
Same x y = y ≡ x

all_same : (xs : List Bit) → AllZip Same xs xs
all_same [] = tt
all_same (x ∷ xs) = (refl, all_same xs)

kind_same : (f g : NodeId → List Bit) (ns : List Node) (m w : ℕ) (i : NodeId) (k : Kind) → KindOk ns m w k → ((a : NodeId) → a.0 < m → f a ≡ g a) → bits_of_kind f i w k ≡ bits_of_kind g i w k
kind_same f g ns m w i k ok e =
    sym (same_from_all_zip Same (bits_of_kind f i w k) (bits_of_kind g i w k)
    (kind_related Same f g m i i (λ a h. subst (AllZip Same (f a)) (e a h) (all_same (f a))) (λ x. refl) ns w k ok (λ o b. refl)) (λ x y h. h))

-- as many bits as the width says
module _ (f : NodeId → List Bit) (ns : List Node) (m : ℕ) (long : (a : NodeId) → a.0 < m → length (f a) ≡ wide ns a.0) (i : NodeId) where
  parts_long : (xs : List NodeId) → All (λ a. a.0 < m) xs → length (bits_of_parts f xs) ≡ sum_by (λ a. wide ns a.0) xs
  parts_long [] h = refl
  parts_long (x ∷ xs) h =
      let e = parts_long xs (All-tail (λ a. a.0 < m) x xs h) in
      let l = long x (All-head (λ a. a.0 < m) x xs h) in
      let both : length (bits_of_parts f xs) + length (f x) ≡ wide ns x.0 + sum_by (λ a. wide ns a.0) xs = omega (arith, e, l) in
      length-append (bits_of_parts f xs) (f x) ∙ both ∙ sym (sum_by-cons (λ a. wide ns a.0) x xs)

  pub kind_long : (w : ℕ) (k : Kind) → KindOk ns m w k → length (bits_of_kind f i w k) ≡ w
  kind_long w (Const v) h = length-map-range_with_len (λ b. Fixed (bit_at v b == 1)) 0 w
  kind_long w (Concat xs) h = parts_long xs h.2 ∙ h.3
  kind_long w (Slice a hi lo) h = length-take-le w (drop lo (f a)) (let p = long a h.0 in let q = h.1 in let r = h.2 in let s = h.3 in omega (arith, length-drop lo (f a), p, q, r, s))
  kind_long w _ h = length-map-range_with_len (Of i) 0 w

-- the node of a bit is below n, and neither a constant nor a slice nor a concatenation
abbrev pub IsBelow : List Node → ℕ → Bit → Type 0
IsBelow ns n (Fixed x) = Unit {0}
IsBelow ns n (Of i k) = (i.0 < n) × (is_wiring (get_or ns i.0 no_node).kind ≡ false)

pub less_below : (ns : List Node) (m n : ℕ) → m < suc n → (x : Bit) → IsBelow ns m x → IsBelow ns n x
less_below ns m n l (Fixed x) h = tt
less_below ns m n l (Of i k) h = (let q = h.0 in omega (arith, l, q), h.1)

module _ (ns : List Node) (right : AllRight ns) where
  enough : (d e : ℕ) (i : NodeId) → i.0 < length ns → i.0 < d → i.0 < e → bits_within ns d i ≡ bits_within ns e i
  unfolding bits_within
  enough zero e i l p q = absurd (omega (arith, p))
  enough (suc d) zero i l p q = absurd (omega (arith, q))
  enough (suc d) (suc e) i l p q =
      kind_same (bits_within ns d) (bits_within ns e) ns i.0 (get_or ns i.0 no_node).width i (get_or ns i.0 no_node).kind (right i.0 l).kind
      (λ a h. enough d e a (omega (arith, h, l)) (omega (arith, h, p)) (omega (arith, h, q)))

  -- the bits of a node, by those of its operands
  pub bits_step : (i : NodeId) → i.0 < length ns → bits_of ns i ≡ bits_of_kind (bits_of ns) i (get_or ns i.0 no_node).width (get_or ns i.0 no_node).kind
  unfolding bits_within
  bits_step i l =
      kind_same (bits_within ns i.0) (bits_of ns) ns i.0 (get_or ns i.0 no_node).width i (get_or ns i.0 no_node).kind (right i.0 l).kind
      (λ a h. enough i.0 (suc a.0) a (omega (arith, h, l)) h (omega arith))

  long_to : (d : ℕ) (i : NodeId) → i.0 < d → i.0 < length ns → length (bits_of ns i) ≡ wide ns i.0
  unfolding wide
  long_to zero i h l = absurd (omega (arith, h))
  long_to (suc d) i h l =
      ap length (bits_step i l)
      ∙ kind_long (bits_of ns) ns i.0 (λ a p. long_to d a (omega (arith, p, h)) (omega (arith, p, l))) i (get_or ns i.0 no_node).width (get_or ns i.0 no_node).kind (right i.0 l).kind

  pub bits_long : (i : NodeId) → i.0 < length ns → length (bits_of ns i) ≡ wide ns i.0
  bits_long i l = long_to (suc i.0) i (omega arith) l

  below_to : (d : ℕ) (i : NodeId) → i.0 < d → i.0 < length ns → Each (IsBelow ns (suc i.0)) (bits_of ns i)
  below_to zero i h l = absurd (omega (arith, h))
  below_to (suc d) i h l =
      subst (Each (IsBelow ns (suc i.0))) (sym (bits_step i l))
      (kind_related (λ x y. IsBelow ns (suc i.0) x) (bits_of ns) (bits_of ns) i.0 i i
      (λ a p. each_weaker (IsBelow ns (suc a.0)) (IsBelow ns (suc i.0)) (bits_of ns a) (less_below ns (suc a.0) (suc i.0) (omega (arith, p))) (below_to d a (omega (arith, p, h)) (omega (arith, p, l))))
      (λ x. tt) ns (get_or ns i.0 no_node).width (get_or ns i.0 no_node).kind (right i.0 l).kind (λ o b. (omega arith, o)))

  -- no bit is of a later node
  pub bits_below : (i : NodeId) → i.0 < length ns → Each (IsBelow ns (suc i.0)) (bits_of ns i)
  bits_below i l = below_to (suc i.0) i (omega arith) l
