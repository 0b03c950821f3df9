-- Which nodes are foldable: an operand has their value already, or they are constant.
use Rattle.std.specs.Prelude.{ℕ, ◌-◌, ◌^◌, ◌<◌, ◌≡◌, ◌==◌, ◌&&◌, ◌||◌, nat_le, Bool, true, false, List, length, get_or}
use Rattle.std.specs.List.{list_all}
use Rattle.kp_bits.specs.{declared.operator.BinOp.BinOp, Operators.is_shift}
use Rattle.kp_net.specs.declared.node.Kind.{Kind}
use Rattle.kp_net.specs.declared.node.Kind.TheVariants.{Const, Ext, Sample, Reg, Word, Not, Binary, Mux, Concat, Slice}
use Rattle.kp_net.specs.{declared.node.Node.Node, Widths.no_node}

abbrev pub is_const : Kind → Bool
is_const (Const n) = true
is_const _ = false

abbrev pub is_not : Kind → Bool
is_not (Not a) = true
is_not _ = false

-- `&` and `|`
abbrev pub is_masking : BinOp → Bool
is_masking BinOp.And = true
is_masking BinOp.Or = true
is_masking _ = false

-- a constant of k bits, all 0 or all 1
abbrev pub is_plain : ℕ → Kind → Bool
is_plain k (Const n) = n == 0 || n == 2 ^ k - 1
is_plain k _ = false

-- a constant of at least k
abbrev pub is_past : ℕ → Kind → Bool
is_past k (Const n) = nat_le k n
is_past k _ = false

-- whether a node of k bits and this kind is foldable, given its operands by their indices
abbrev pub folds : (ℕ → Node) → ℕ → Kind → Bool
folds ns k (Const n) = false
folds ns k Ext = false
folds ns k (Sample s) = false
folds ns k (Reg r) = false
folds ns k (Word f a) = false
folds ns k (Not a) = is_const (ns a.0).kind || is_not (ns a.0).kind
folds ns k (Binary op a b) = (is_const (ns a.0).kind && is_const (ns b.0).kind) || ((is_masking op && (is_plain k (ns a.0).kind || is_plain k (ns b.0).kind)) || (is_shift op && is_past k (ns b.0).kind))
folds ns k (Mux test a b) = is_const (ns test.0).kind || a.0 == b.0
folds ns k (Concat parts) = list_all (λ a. is_const (ns a.0).kind) parts
folds ns k (Slice a hi lo) = is_const (ns a.0).kind || (ns a.0).width == k

-- the same for the nodes of a list
abbrev pub foldable : List Node → Node → Bool
foldable ns n = folds (λ i. get_or ns i no_node) n.width n.kind

-- no node of the list is foldable
abbrev pub NoneFoldable : List Node → Type 0
NoneFoldable ns = (i : ℕ) → i < length ns → foldable ns (get_or ns i no_node) ≡ false
