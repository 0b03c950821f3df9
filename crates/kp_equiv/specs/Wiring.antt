-- THE BITS OF A NODE. Slices and concatenations only choose and order bits: each bit of a node is a bit of a constant, or of a node that is neither
-- a constant nor a slice nor a concatenation.
use Rattle.std.specs.Prelude.{ℕ, zero, suc, ◌==◌, List, [], ◌∷◌, ◌++◌, map, take, drop, get_or}
use Rattle.std.specs.{Int.bit_at, List.range_with_len}
use Rattle.kp_net.specs.declared.node.{NodeId.NodeId, Kind.Kind, Node.Node}
use Rattle.kp_net.specs.declared.node.Kind.TheVariants.{Const, Concat, Slice}
use Rattle.kp_net.specs.Widths.{no_node}
use Rattle.kp_equiv.specs.declared.bit.Bit.{Bit, TheVariants.Fixed, TheVariants.Of}

-- the bits of a concatenation, whose last part is the lowest
abbrev pub bits_of_parts : (NodeId → List Bit) → List NodeId → List Bit
bits_of_parts bits [] = []
bits_of_parts bits (x ∷ xs) = bits_of_parts bits xs ++ bits x

-- the bits of node i of this width and kind, the lowest first, given those of its operands
abbrev pub bits_of_kind : (NodeId → List Bit) → NodeId → ℕ → Kind → List Bit
bits_of_kind bits i k (Const n) = map (λ b. Fixed (bit_at n b == 1)) (range_with_len 0 k)
bits_of_kind bits i k (Concat parts) = bits_of_parts bits parts
bits_of_kind bits i k (Slice a hi lo) = take k (drop lo (bits a))
bits_of_kind bits i k _ = map (Of i) (range_with_len 0 k)

-- the bits of node i, through at most d slices and concatenations
unfoldable pub bits_within : List Node → ℕ → NodeId → List Bit
bits_within ns zero i = []
bits_within ns (suc d) i = bits_of_kind (bits_within ns d) i (get_or ns i.0 no_node).width (get_or ns i.0 no_node).kind

-- operands precede a node, so there are not more of them than its number says
abbrev pub bits_of : List Node → NodeId → List Bit
bits_of ns i = bits_within ns (suc i.0) i
