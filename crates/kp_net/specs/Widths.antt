-- Which nodes are well-formed: their operands precede them, and the widths fit.
use Rattle.std.specs.Prelude.{ℕ, ◌+◌, ◌^◌, ◌<◌, ◌≤◌, ◌≡◌, Bool, true, false, List, length, get_or, All}
use Rattle.std.specs.List.{sum_by}
use Rattle.kp_bits.specs.{declared.operator.BinOp.BinOp, Operators.is_shift, Operators.result_width}
use Rattle.kp_net.specs.declared.node.Kind.{Kind}
use Rattle.kp_net.specs.declared.node.Kind.TheVariants.{Const, Ext, Sample, Reg, Word, Not, Binary, Mux, Concat, Slice}
use Rattle.kp_net.specs.declared.node.Node.{Node}

-- the default for a node that doesn't exist
abbrev pub no_node : Node
no_node = record { width = 0; kind = Const 0 }

-- the width of node i
unfoldable pub wide : List Node → ℕ → ℕ
wide ns i = (get_or ns i no_node).width

-- the width k of an operation, given the widths a and b of its operands, which are equal, but for a shift
abbrev pub BinaryOk : BinOp → (width left right : ℕ) → Type 0
BinaryOk op k a b = (result_width op a ≡ k) × (is_shift op ≡ false → a ≡ b)

-- a node of width k, whose operands precede index m of the list
abbrev pub KindOk : List Node → ℕ → ℕ → Kind → Type 0
KindOk ns m k (Const n) = n < 2 ^ k
KindOk ns m k Ext = Unit {0}
KindOk ns m k (Sample s) = Unit {0}
KindOk ns m k (Reg r) = Unit {0}
KindOk ns m k (Word f a) = a.0 < m
KindOk ns m k (Not a) = (a.0 < m) × (wide ns a.0 ≡ k)
KindOk ns m k (Binary op a b) = (a.0 < m) × (b.0 < m) × BinaryOk op k (wide ns a.0) (wide ns b.0)
KindOk ns m k (Mux test a b) = (test.0 < m) × (a.0 < m) × (b.0 < m) × (wide ns test.0 ≡ 1) × (wide ns a.0 ≡ k) × (wide ns b.0 ≡ k)
KindOk ns m k (Concat parts) = (2 ≤ length parts) × (length parts ≤ 12) × All (λ a. a.0 < m) parts × (sum_by (λ a. wide ns a.0) parts ≡ k)
KindOk ns m k (Slice a hi lo) = (a.0 < m) × (lo ≤ hi) × (hi < wide ns a.0) × (hi + 1 ≡ k + lo)

-- a node that may occur at index m of the list
pub record NodeOk (ns : List Node) (m : ℕ) (n : Node) : Type 0 where
  pub positive : 1 ≤ n.width
  pub at_most : n.width ≤ 64
  pub kind : KindOk ns m n.width n.kind

-- every node of the list is well-formed at its index
abbrev pub AllRight : List Node → Type 0
AllRight ns = (i : ℕ) → i < length ns → NodeOk ns i (get_or ns i no_node)

-- no two nodes are equal
abbrev pub Distinct : List Node → Type 0
Distinct ns = (i j : ℕ) → i < j → j < length ns → get_or ns i no_node ≡ get_or ns j no_node → ⊥

-- a node that reads an input, a register or a file; all others are constants and operations
abbrev pub is_cell : Kind → Bool
is_cell Ext = true
is_cell (Sample s) = true
is_cell (Reg r) = true
is_cell (Word f a) = true
is_cell _ = false
