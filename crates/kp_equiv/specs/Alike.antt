-- EQUIVALENT TREES.
-- The tree of a node is its bits, with the operation of each bit's node, and the trees of its operands in place of their numbers. In it a register, a
-- file and a sample port are identified by name. Two trees are equivalent if they are equal up to the order of the two operands of `& | ^ + * ==`, at
-- every depth. So slices and concatenations differ only where the bits do that they choose.
use Rattle.std.specs.Prelude.{ℕ, zero, suc, ◌<◌, ◌≡◌, ◌⊎◌, true, List, length, get_or}
use Rattle.std.specs.List.{AllZip}
use Rattle.kp_bits.specs.{declared.operator.BinOp.BinOp, Operators.commutes}
use Rattle.kp_net.specs.declared.node.{NodeId.NodeId, Kind.Kind}
use Rattle.kp_net.specs.declared.node.Kind.TheVariants.{Ext, Sample, Reg, Word, Not, Binary, Mux}
use Rattle.kp_equiv.specs.declared.bit.Bit.{Bit, TheVariants.Fixed, TheVariants.Of}
use Rattle.kp_equiv.specs.Wiring.{bits_of}
use Rattle.kp_net.specs.{declared.node.Node.Node, Netlist.Net, Parts.no_port, Parts.no_reg, Parts.no_file, Widths.no_node, Widths.wide}

-- the names of a register, a file and a sample port, by their numbers
abbrev pub reg_name : Net → ℕ → List ℕ
reg_name net r = (get_or net.parts.regs r no_reg).name

abbrev pub file_name : Net → ℕ → List ℕ
file_name net f = (get_or net.parts.files f no_file).name

abbrev pub sample_name : Net → ℕ → List ℕ
sample_name net s = (get_or net.parts.samples s no_port).name

-- a relation on the nodes of two netlists, by their numbers
abbrev pub Relation : Type 1
Relation = NodeId → NodeId → Type 0

-- two operands each, related in this order or, if the operator commutes, in the other one
abbrev pub PairRelated : Relation → BinOp → NodeId → NodeId → NodeId → NodeId → Type 0
PairRelated R op x y u v = (R x u × R y v) ⊎ ((commutes op ≡ true) × R x v × R y u)

-- nodes of two netlists have the same operation, with operands that are related; no bit is of a constant, a slice or a concatenation
abbrev pub KindAlike : Relation → Net → Net → Kind → Kind → Type 0
KindAlike R a b Ext Ext = Unit {0}
KindAlike R a b (Sample s) (Sample t) = sample_name a s ≡ sample_name b t
KindAlike R a b (Reg r) (Reg q) = reg_name a r ≡ reg_name b q
KindAlike R a b (Word f x) (Word g y) = (file_name a f ≡ file_name b g) × R x y
KindAlike R a b (Not x) (Not y) = R x y
KindAlike R a b (Binary op x y) (Binary p u v) = (op ≡ p) × PairRelated R op x y u v
KindAlike R a b (Mux t x y) (Mux s u v) = R t s × R x u × R y v
KindAlike R a b _ _ = ⊥

-- two nodes of the same width with the same operation
abbrev pub NodeAlike : Relation → Net → Net → Node → Node → Type 0
NodeAlike R a b n m = (n.width ≡ m.width) × KindAlike R a b n.kind m.kind

-- equal bits of constants, or the same bit of nodes with the same operation
abbrev pub BitAlike : Relation → Net → Net → Bit → Bit → Type 0
BitAlike R a b (Fixed x) (Fixed y) = x ≡ y
BitAlike R a b (Of i k) (Of j l) = (k ≡ l) × NodeAlike R a b (get_or a.nodes i.0 no_node) (get_or b.nodes j.0 no_node)
BitAlike R a b _ _ = ⊥

-- node i of a and node j of b have equivalent trees, up to d levels
unfoldable pub AlikeWithin : Net → Net → ℕ → NodeId → NodeId → Type 0
AlikeWithin a b zero i j = ⊥
AlikeWithin a b (suc d) i j =
    (i.0 < length a.nodes) × (j.0 < length b.nodes) × (wide a.nodes i.0 ≡ wide b.nodes j.0)
    × AllZip (BitAlike (AlikeWithin a b d) a b) (bits_of a.nodes i) (bits_of b.nodes j)

-- node i of a and node j of b have equivalent trees
pub record Alike (a b : Net) (i j : NodeId) : Type 0 where
  pub levels : ℕ
  pub alike : AlikeWithin a b levels i j
