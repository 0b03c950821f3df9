-- `==` on nodes is equality.
use Rattle.std.proofs.Common.{◌≡◌, ◌&&◌, ℕ, true, false, refl, ap, eqb}
use Rattle.std.proofs.lemmas.{Bool.false≢true, Bool.and_parts, Bool.Decides.Decides-eqb, Slice.Eq.slice_eq-Decides}
use Rattle.std.specs.{Bool.Decides, Cmp.Derive.both_true}
use Rattle.kp_bits.proofs.Operators.{same as operator, same_itself as operator_itself}
use Rattle.kp_bits.specs.contracts.operator.BinOpPartialEq.TheImpl as operators
use Rattle.kp_net.specs.declared.node.{NodeId.NodeId, Kind.Kind}
use Rattle.kp_net.specs.declared.node.Kind.TheVariants.{Const, Ext, Sample, Reg, Word, Not, Binary, Mux, Concat, Slice}
use Rattle.kp_net.specs.{declared.node.Node.Node, Operands.same_id}
use Rattle.kp_net.specs.contracts.node.NodePartialEq.TheImpl as nodes
use Rattle.kp_net.specs.contracts.node.KindPartialEq.TheImpl as kinds

number : (n m : ℕ) → eqb n m ≡ true → n ≡ m
number n m h = (Decides-eqb n m).0 h

itself : (n : ℕ) → eqb n n ≡ true
itself n = (Decides-eqb n n).1 refl

id : (a b : NodeId) → eqb a.0 b.0 ≡ true → a ≡ b
id a b h = ap (λ (n : ℕ). let x : NodeId = record { 0 = n } in x) (number a.0 b.0 h)

ids : (a b : NodeId) → Decides (same_id a b) (a ≡ b)
ids a b = (id a b, λ h. (Decides-eqb a.0 b.0).1 (ap (λ (x : NodeId). x.0) h))

kind : (a b : Kind) → kinds.eq-value.it a b ≡ true → a ≡ b
kind (Const n) (Const m) h = ap Const (number n m h)
kind Ext Ext h = refl
kind (Sample n) (Sample m) h = ap Sample (number n m h)
kind (Reg n) (Reg m) h = ap Reg (number n m h)
kind (Word f a) (Word g b) h = let p = and_parts (eqb f g) (eqb a.0 b.0) h in let x = number f g p.0 in let y = id a b p.1 in cc
kind (Not a) (Not b) h = ap Not (id a b h)
kind (Binary o a b) (Binary p u v) h =
    let p0 = and_parts (operators.eq-value.it o p) (eqb a.0 u.0 && eqb b.0 v.0) h in let p1 = and_parts (eqb a.0 u.0) (eqb b.0 v.0) p0.1 in
    let x = operator o p p0.0 in let y = id a u p1.0 in let z = id b v p1.1 in cc
kind (Mux t a b) (Mux s u v) h =
    let p0 = and_parts (eqb t.0 s.0) (eqb a.0 u.0 && eqb b.0 v.0) h in let p1 = and_parts (eqb a.0 u.0) (eqb b.0 v.0) p0.1 in
    let x = id t s p0.0 in let y = id a u p1.0 in let z = id b v p1.1 in cc
kind (Concat a) (Concat b) h = ap Concat ((slice_eq-Decides ids a b _ refl).0 h)
kind (Slice a m n) (Slice b u v) h =
    let p0 = and_parts (eqb a.0 b.0) (eqb m u && eqb n v) h in let p1 = and_parts (eqb m u) (eqb n v) p0.1 in
    let x = id a b p0.0 in let y = number m u p1.0 in let z = number n v p1.1 in cc
kind a b h = absurd (false≢true h)

kind_itself : (a : Kind) → kinds.eq-value.it a a ≡ true
kind_itself (Const n) = itself n
kind_itself Ext = refl
kind_itself (Sample n) = itself n
kind_itself (Reg n) = itself n
kind_itself (Word f a) = both_true (itself f) (itself a.0)
kind_itself (Not a) = itself a.0
kind_itself (Binary o a b) = both_true (operator_itself o) (both_true (itself a.0) (itself b.0))
kind_itself (Mux t a b) = both_true (itself t.0) (both_true (itself a.0) (itself b.0))
kind_itself (Concat a) = (slice_eq-Decides ids a a _ refl).1 refl
kind_itself (Slice a m n) = both_true (itself a.0) (both_true (itself m) (itself n))

pub node_from_eq : (a b : Node) → nodes.eq-value.it a b ≡ true → a ≡ b
node_from_eq a b h = let p = and_parts (eqb a.width b.width) (kinds.eq-value.it a.kind b.kind) h in let x = number a.width b.width p.0 in let y = kind a.kind b.kind p.1 in λ i. record { width = x i; kind = y i }

pub node_eq_itself : (a : Node) → nodes.eq-value.it a a ≡ true
node_eq_itself a = both_true (itself a.width) (kind_itself a.kind)
