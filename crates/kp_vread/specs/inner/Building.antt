-- The parts of a netlist, by tables of names.
use Rattle.std.specs.Prelude.{ℕ, ◌≤◌, ◌≡◌, List, length, codes, map, if◌then◌else◌, Option, Some, None}
use Rattle.kp_bits.specs.{Word.Word, Word.word, declared.literal.Literal.Literal}
use Rattle.kp_net.specs.{declared.node.NodeId.NodeId, declared.node.Kind.Kind, declared.node.Node.Node, Names.same, Names.is_sample_name}
use Rattle.kp_net.specs.declared.node.Kind.TheVariants as kinds
use Rattle.kp_vlog.specs.{declared.tree.Named.Named, declared.tree.Right.Right, declared.tree.Item.Item, Scope.Scope, Scope.Sizes, Scope.width_in, Denote.Made}
use Rattle.kp_vlog.specs.declared.tree.Right.TheVariants as sides
use Rattle.kp_vlog.specs.declared.tree.Item.TheVariants as lines
use Rattle.kp_vread_rules.specs.Tables.{AlikeSizes}
use Rattle.kp_vread.specs.inner.Numbering.{Numbered, place_by, AreNumbered}

pub record Numbers : Type 0 where
  pub sizes : Sizes
  pub samples : Numbered
  pub regs : Numbered
  pub files : Numbered

-- the tables have what the scope has
pub record IsScope (t : Numbers) (s : Scope) : Type 0 where
  pub sizes : AlikeSizes t.sizes s.sizes
  pub samples : AreNumbered t.samples s.samples
  pub regs : AreNumbered t.regs s.regs
  pub files : AreNumbered t.files s.files

-- the node of a right side, by the numbers of names
abbrev pub node_by : Numbered → Named → NodeId
node_by t n = record { 0 = place_by t n.name }

abbrev pub source_by : Numbers → List ℕ → Kind
source_by t n =
    if same n (codes "ext") then kinds.Ext
    else if is_sample_name n then kinds.Sample (place_by t.samples n)
    else kinds.Reg (place_by t.regs n)

abbrev pub kind_by : Numbers → Numbered → Right → Kind
kind_by t wires (sides.Literal l) = kinds.Const l.literal.value
kind_by t wires (sides.Name n) = source_by t n.name
kind_by t wires (sides.Not a) = kinds.Not (node_by wires a)
kind_by t wires (sides.Binary op a b) = kinds.Binary op (node_by wires a) (node_by wires b)
kind_by t wires (sides.Choice c a b) = kinds.Mux (node_by wires c) (node_by wires a) (node_by wires b)
kind_by t wires (sides.Slice a high low) = kinds.Slice (node_by wires a) high.value low.value
kind_by t wires (sides.Word f a) = kinds.Word (place_by t.files f.name) (node_by wires a)
kind_by t wires (sides.Concat parts) = kinds.Concat (map (node_by wires) parts)

-- the numbers of a right side fit a node
abbrev pub RightFits : Right → Type 0
RightFits (sides.Slice a high low) = (high.value ≤ 63) × (low.value ≤ 63)
RightFits (sides.Concat parts) = (2 ≤ length parts) × (length parts ≤ 12)
RightFits _ = Unit {0}

abbrev pub ItemFits : Item → Type 0
ItemFits (lines.Assign t r) = RightFits r
ItemFits _ = Unit {0}

-- no name is wider than a node
pub record AreNarrow (ss : Sizes) : Type 0 where
  pub narrow : (n : List ℕ) → width_in ss n ≤ 64

-- the wires that are assigned so far, and their nodes
pub record IsMade (numbers : Numbered) (list : List Node) (made : Made) : Type 0 where
  pub wires : AreNumbered numbers made.wires
  pub nodes : list ≡ made.nodes

-- the start value of a register
abbrev pub start_from : Option Literal → Word
start_from None = word 0 0
start_from (Some l) = word l.width l.value
