-- The contents of a simulator, and how they fit its netlist.
use Rattle.std.specs.Prelude.{ℕ, ◌^◌, ◌<◌, ◌≡◌, ◌==◌, if◌then◌else◌, List, [], length, get_or, set, Option, None, Some}
use Rattle.kp_bits.specs.Word.{Word, word}
use Rattle.kp_net.specs.{declared.node.Node.Node, declared.netlist.WritePort.WritePort, Widths.wide, Nodes.Cells}
use Rattle.kp_net.specs.{Netlist.Net, Netlist.Input, Netlist.State, Netlist.cells_of, Parts.NetOk, Parts.no_reg, Parts.no_file}

-- the values of the nodes and of the registers, the words of the files, and the states in slots
pub record Stored : Type 0 where
  pub nodes : List ℕ
  pub regs : List ℕ
  pub files : List (List ℕ)
  pub slots : List (Option State)

abbrev pub state_of : Stored → State
state_of m = record { regs = m.regs; files = m.files }

-- there is a value for each node and register, and a word for each address of each file
pub record Fits (net : Net) (m : Stored) : Type 0 where
  pub right : NetOk net
  pub nodes : length m.nodes ≡ length net.nodes
  pub regs : length m.regs ≡ length net.parts.regs
  pub files : length m.files ≡ length net.parts.files
  pub words : (f : ℕ) → f < length net.parts.files → length (get_or m.files f []) ≡ 2 ^ (get_or net.parts.files f no_file).address_width

-- registers and words fit their widths
pub record StateFits (net : Net) (st : State) : Type 0 where
  pub regs : (r : ℕ) → r < length net.parts.regs → get_or st.regs r 0 < 2 ^ (get_or net.parts.regs r no_reg).start.width
  pub words : (f a : ℕ) → f < length net.parts.files → get_or (get_or st.files f []) a 0 < 2 ^ (get_or net.parts.files f no_file).width

-- a state of the netlist: a value for each register, and a word for each address of each file, with their widths
pub record IsStateOf (net : Net) (st : State) : Type 0 where
  pub regs : length st.regs ≡ length net.parts.regs
  pub files : length st.files ≡ length net.parts.files
  pub words : (f : ℕ) → f < length net.parts.files → length (get_or st.files f []) ≡ 2 ^ (get_or net.parts.files f no_file).address_width
  pub fit : StateFits net st

-- each state in a slot is one of the netlist
abbrev pub SlotsFit : Net → List (Option State) → Type 0
SlotsFit net slots = (k : ℕ) (st : State) → get_or slots k None ≡ Some st → IsStateOf net st

-- the cells that nodes read in a cycle with this input
abbrev pub cells : Input → Stored → Cells
cells i m = cells_of i (state_of m)

-- the words of nodes, as they are stored
abbrev pub seen : List Node → List ℕ → ℕ → Word
seen ns values i = word (wide ns i) (get_or values i 0)

-- the first n nodes hold numbers of their widths
abbrev pub FitsBelow : List Node → List ℕ → ℕ → Type 0
FitsBelow ns values n = (i : ℕ) → i < n → get_or values i 0 < 2 ^ wide ns i

-- the words of a file after the cycle, from the values of nodes
abbrev pub port_from : Option WritePort → List ℕ → List ℕ → List ℕ
port_from None values words = words
port_from (Some p) values words = if get_or values p.enable.0 0 == 1 then set words (get_or values p.address.0 0) (get_or values p.value.0 0) else words

-- the address that a port writes, from the values of nodes
abbrev pub port_noted : Option WritePort → List ℕ → Option ℕ
port_noted None values = None
port_noted (Some p) values = if get_or values p.enable.0 0 == 1 then Some (get_or values p.address.0 0) else None

-- all that a port names is stored, and its address is one of the file's
abbrev pub PortReady : Stored → ℕ → Option WritePort → Type 0
PortReady m f None = Unit {0}
PortReady m f (Some p) = (p.enable.0 < length m.nodes) × (p.address.0 < length m.nodes) × (p.value.0 < length m.nodes) × (get_or m.nodes p.address.0 0 < length (get_or m.files f []))
