-- The parts of a netlist other than the nodes, by tables of names.
use Rattle.std.specs.Prelude.{ℕ, ◌^◌, ◌≤◌, ◌≡◌, All, List, [], ◌∷◌, if◌then◌else◌, Option, Some, None}
use Rattle.kp_bits.specs.{Word.IsWord, declared.literal.Literal.Literal}
use Rattle.kp_net.specs.declared.{node.NodeId.NodeId, netlist.WritePort.WritePort, netlist.NetReg.NetReg, netlist.NetFile.NetFile}
use Rattle.kp_net.specs.Names.{same}
use Rattle.kp_vlog.specs.declared.tree.{VPort.VPort, Item.Item, Init.Init, Update.Update, VModule.VModule}
use Rattle.kp_vlog.specs.{Occurrences.start_in, Scope.Sizes, Scope.width_in, Scope.address_in, Denote.words_of}
use Rattle.kp_vlog.specs.declared.tree.Right.TheVariants as sides
use Rattle.kp_vlog.specs.declared.tree.Item.TheVariants as lines
use Rattle.kp_vlog.specs.declared.tree.Update.TheVariants as edges
use Rattle.kp_vread_rules.specs.Tables.{found}
use Rattle.kp_vread.specs.inner.{Numbering.Numbered, Building.node_by, Building.start_from, Nexts.next_by}

-- the port is no wider than a node
abbrev pub PortFits : VPort → Type 0
PortFits p = p.range.high.value ≤ 63

-- a register starts with a word that the table has
abbrev pub RegFits : List (List ℕ × Literal) → Item → Type 0
RegFits starts (lines.Reg r n) = IsWord (start_from (found starts n.name))
RegFits starts _ = Unit {0}

-- each register starts with a word
pub record AreStarted (m : VModule) : Type 0 where
  pub starts : (es : List (List ℕ × Literal)) → ((n : List ℕ) → found es n ≡ start_in m.inits n) → All (RegFits es) m.items

abbrev pub reg_by : List (List ℕ × Literal) → List (List ℕ × NodeId) → List ℕ → NetReg
reg_by starts nexts n = record { name = n; start = start_from (found starts n); next = next_by nexts n }

abbrev pub regs_by : List (List ℕ × Literal) → List (List ℕ × NodeId) → List Item → List NetReg
regs_by starts nexts [] = []
regs_by starts nexts (lines.Reg r n ∷ xs) = reg_by starts nexts n.name ∷ regs_by starts nexts xs
regs_by starts nexts (x ∷ xs) = regs_by starts nexts xs

abbrev pub output_by : Numbered → List ℕ → List Item → NodeId
output_by wires out [] = record { 0 = 0 }
output_by wires out (lines.Assign t (sides.Name n) ∷ xs) = if same t.name out then node_by wires n else output_by wires out xs
output_by wires out (x ∷ xs) = output_by wires out xs

abbrev pub port_by : Numbered → List Update → List ℕ → Option WritePort
port_by wires [] n = None
port_by wires (edges.File t f a v ∷ xs) n =
    if same n f.name then Some (record { enable = node_by wires t; address = node_by wires a; value = node_by wires v }) else port_by wires xs n
port_by wires (x ∷ xs) n = port_by wires xs n

abbrev pub file_by : Sizes → Numbered → List Init → List Update → List ℕ → NetFile
file_by sizes wires inits updates n = record {
  name = n;
  width = width_in sizes n;
  address_width = address_in sizes n;
  words = words_of inits (2 ^ address_in sizes n) n;
  port = port_by wires updates n;
}

abbrev pub files_by : Sizes → Numbered → List Init → List Update → List Item → List NetFile
files_by sizes wires inits updates [] = []
files_by sizes wires inits updates (lines.File r n w ∷ xs) = file_by sizes wires inits updates n.name ∷ files_by sizes wires inits updates xs
files_by sizes wires inits updates (x ∷ xs) = files_by sizes wires inits updates xs
