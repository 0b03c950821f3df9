-- The depth of a node: the length of the longest path of operands below it.
use Rattle.std.specs.Prelude.{ℕ, ◌+◌, ◌≤◌, max, List, [], ◌∷◌, ◌++◌, fold, map, get_or}
use Rattle.kp_net.specs.declared.node.Kind.{Kind}
use Rattle.kp_net.specs.declared.node.Kind.TheVariants.{Const, Ext, Sample, Reg, Word, Not, Binary, Mux, Concat, Slice}
use Rattle.kp_net.specs.declared.node.{Node.Node, NodeId.NodeId}

-- the depth of a node of this kind, given the depths d of the nodes before it
abbrev pub depth_of : (ℕ → ℕ) → Kind → ℕ
depth_of d (Const n) = 0
depth_of d Ext = 0
depth_of d (Sample s) = 0
depth_of d (Reg r) = 0
depth_of d (Word f a) = d a.0 + 1
depth_of d (Not a) = d a.0 + 1
depth_of d (Binary op a b) = max (d a.0) (d b.0) + 1
depth_of d (Mux test a b) = max (d test.0) (max (d a.0) (d b.0)) + 1
depth_of d (Concat parts) = fold max 0 (map (λ a. d a.0) parts) + 1
depth_of d (Slice a hi lo) = d a.0 + 1

-- the depths of a list of nodes, each computed from those before it
abbrev pub depths_more : List ℕ → Node → List ℕ
depths_more known n = known ++ depth_of (λ i. get_or known i 0) n.kind ∷ []

abbrev pub depths_of : List Node → List ℕ
depths_of ns = fold depths_more [] ns

-- the depth of node i
unfoldable pub depth : List Node → ℕ → ℕ
depth ns i = get_or (depths_of ns) i 0

-- node i is no deeper than d
pub record IsNoDeeper (ns : List Node) (i : NodeId) (d : ℕ) : Type 0 where
  pub bound : depth ns i.0 ≤ d
