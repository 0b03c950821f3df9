-- Nodes of two netlists in one table: the number of the operation of each there, and of its bits.
use Rattle.std.specs.Prelude.{ℕ, ◌+◌, ◌*◌, ◌<◌, ◌≤◌, ◌≡◌, min, max, Bool, cond, List, length, map, get_or, Some}
use Rattle.std.specs.{Map.lookup, List.AllZip}
use Rattle.kp_net.specs.declared.node.{NodeId.NodeId, Kind.Kind}
use Rattle.kp_net.specs.declared.node.Kind.TheVariants.{Const, Ext, Sample, Reg, Word, Not, Binary, Mux, Concat, Slice}
use Rattle.kp_net.specs.{declared.node.Node.Node, declared.netlist.Parts.Parts, Netlist.Net, Parts.no_port, Parts.no_reg, Parts.no_file, Widths.no_node}
use Rattle.kp_bits.specs.Operators.{commutes}
use Rattle.kp_equiv.specs.declared.bit.Bit.{Bit, TheVariants.Fixed, TheVariants.Of}
use Rattle.kp_equiv.specs.declared.term.Term.{Term, TheVariants.Operation, TheVariants.Bits}
use Rattle.kp_equiv.specs.contracts.term.TermPartialEq.TheImpl as terms
use Rattle.kp_equiv.specs.{Wiring.bits_of, inner.Bits.bits_in}
use Rattle.kp_equiv.specs.{Classes.place, Classes.class_in, Named.reg_names, Named.file_names, Named.sample_names}

-- the names of the first netlist's registers, files and sample ports
pub record Known : Type 0 where
  pub regs : List (List ℕ)
  pub files : List (List ℕ)
  pub samples : List (List ℕ)

-- the names of a netlist
abbrev pub known_of : Net → Known
known_of net = record { regs = reg_names net; files = file_names net; samples = sample_names net }

-- at most as many names as a netlist has
pub record AreFew (ks : Known) : Type 0 where
  pub regs : length ks.regs ≤ 16777216
  pub files : length ks.files ≤ 16777216
  pub samples : length ks.samples ≤ 16777216

abbrev pub least : NodeId → NodeId → NodeId
least x y = record { 0 = min x.0 y.0 }

abbrev pub greatest : NodeId → NodeId → NodeId
greatest x y = record { 0 = max x.0 y.0 }

-- two operands in normal order
abbrev pub first_of_pair : Bool → NodeId → NodeId → NodeId
first_of_pair c x y = cond c (least x y) x

abbrev pub second_of_pair : Bool → NodeId → NodeId → NodeId
second_of_pair c x y = cond c (greatest x y) y

-- the shape of a node: operands are replaced by classes, and registers, files and sample ports by their indices among the known names
abbrev pub shape_kind : Known → Parts → (NodeId → NodeId) → Kind → Kind
shape_kind ks p m (Const n) = Const n
shape_kind ks p m Ext = Ext
shape_kind ks p m (Sample s) = Sample (place ks.samples (get_or p.samples s no_port).name)
shape_kind ks p m (Reg r) = Reg (place ks.regs (get_or p.regs r no_reg).name)
shape_kind ks p m (Word f a) = Word (place ks.files (get_or p.files f no_file).name) (m a)
shape_kind ks p m (Not a) = Not (m a)
shape_kind ks p m (Binary op a b) = Binary op (first_of_pair (commutes op) (m a) (m b)) (second_of_pair (commutes op) (m a) (m b))
shape_kind ks p m (Mux t a b) = Mux (m t) (m a) (m b)
shape_kind ks p m (Concat parts) = Concat (map m parts)
shape_kind ks p m (Slice a hi lo) = Slice (m a) hi lo

abbrev pub shape : Known → Parts → (NodeId → NodeId) → Node → Node
shape ks p m n = record { width = n.width; kind = shape_kind ks p m n.kind }

-- terms with their numbers
abbrev pub Numbered : Type 0
Numbered = List (Term × ℕ)

-- a term has this number
abbrev pub Has : Numbered → Term → ℕ → Type 0
Has t s i = lookup (terms.eq-value.it s) t ≡ Some i

-- no two terms have the same number, and all numbers are below that of the terms
pub record IsTable (t : Numbered) : Type 0 where
  pub below : (s : Term) (i : ℕ) → Has t s i → i < length t
  pub apart : (s r : Term) (i : ℕ) → Has t s i → Has t r i → s ≡ r

-- terms keep their numbers
abbrev pub Extends : Numbered → Numbered → Type 0
Extends old new = (s : Term) (i : ℕ) → Has old s i → Has new s i

-- a term is put into a table, if it isn't there, and has this number
pub record Puts (old new : Numbered) (s : Term) (i : ℕ) : Type 0 where
  pub there : Has new s i
  pub extends : Extends old new
  pub count : length new ≤ length old + 1
  pub table : IsTable new

-- the number n is that of the shape of node i
abbrev pub HasNumber : Known → Net → Numbered → List NodeId → (i n : NodeId) → Type 0
HasNumber ks net t classes i n = Has t (Operation (shape ks net.parts (class_in classes) (get_or net.nodes i.0 no_node))) n.0

-- a bit of a node, and the same in terms of numbers
abbrev pub IsNumbered : Known → Net → Numbered → List NodeId → Bit → Bit → Type 0
IsNumbered ks net t classes (Fixed x) (Fixed y) = x ≡ y
IsNumbered ks net t classes (Of i k) (Of n l) = (k ≡ l) × HasNumber ks net t classes i n
IsNumbered ks net t classes _ _ = ⊥

-- a node has these bits in terms of numbers, and its class is their number in the table
pub record HasClass (ks : Known) (net : Net) (t : Numbered) (classes : List NodeId) (i : NodeId) (bits : List Bit) : Type 0 where
  pub numbered : AllZip (IsNumbered ks net t classes) (bits_of net.nodes i) bits
  pub class : Has t (Bits bits) (class_in classes i).0

-- each of the first nodes of a netlist has its class
abbrev pub AreClasses : Known → Net → Numbered → List NodeId → List (List Bit) → Type 0
AreClasses ks net t classes wires = (i : NodeId) → i.0 < length classes → HasClass ks net t classes i (bits_in wires i)

-- the classes of the first i nodes, in a table that has grown by them
pub record Grown (ks : Known) (net : Net) (start t : Numbered) (classes : List NodeId) (wires : List (List Bit)) (i : ℕ) : Type 0 where
  pub count : length classes ≡ i
  pub wire_count : length wires ≡ i
  pub within : i ≤ length net.nodes
  pub classes_are : AreClasses ks net t classes wires
  pub extends : Extends start t
  pub grown : length t ≤ length start + 2 * i
  pub table : IsTable t
