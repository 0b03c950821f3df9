-- The bits of the operands of a node.
use Rattle.std.specs.Prelude.{ℕ, ◌+◌, ◌<◌, ◌≤◌, List, [], length, get_or, All}
use Rattle.kp_net.specs.declared.node.{NodeId.NodeId, Kind.Kind, Kind.TheVariants.Concat, Kind.TheVariants.Slice}
use Rattle.kp_equiv.specs.declared.bit.Bit.{Bit}

-- the bits of nodes, by their numbers
abbrev pub bits_in : List (List Bit) → NodeId → List Bit
bits_in operands i = get_or operands i.0 []

-- the operands are there, with the bits of a slice
abbrev pub Fits : List (List Bit) → ℕ → Kind → Type 0
Fits operands k (Concat parts) = All (λ a. a.0 < length operands) parts
Fits operands k (Slice a hi lo) = (a.0 < length operands) × (lo + k ≤ length (bits_in operands a))
Fits operands k _ = Unit {0}
