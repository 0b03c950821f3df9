-- Which netlists are well-formed: each reference is to an existing part, and the widths fit.
use Rattle.std.specs.Prelude.{ℕ, ◌^◌, ◌<◌, ◌≤◌, ◌≡◌, List, [], length, get_or, All, Option, None, Some}
use Rattle.kp_bits.specs.Word.{IsWord}
use Rattle.kp_net.specs.declared.node.{NodeId.NodeId, Kind.Kind, Kind.TheVariants.Ext, Kind.TheVariants.Sample, Kind.TheVariants.Reg, Kind.TheVariants.Word}
use Rattle.kp_net.specs.declared.{node.Node.Node, netlist.Port.Port, netlist.WritePort.WritePort, netlist.NetReg.NetReg, netlist.NetFile.NetFile}
use Rattle.kp_net.specs.{declared.netlist.Parts.Parts, Netlist.Net, Widths.wide, Widths.no_node, Widths.AllRight}

-- node a is in the list and has k bits
abbrev pub NodeIs : List Node → NodeId → ℕ → Type 0
NodeIs ns a k = (a.0 < length ns) × (wide ns a.0 ≡ k)

pub record PortOk (s : Port) : Type 0 where
  pub positive : 1 ≤ s.width
  pub at_most : s.width ≤ 64

pub record RegOk (ns : List Node) (r : NetReg) : Type 0 where
  pub start : IsWord r.start
  pub next : NodeIs ns r.next r.start.width

-- a write port of a file with words of w bits and addresses of a bits
abbrev pub WriteOk : List Node → ℕ → ℕ → Option WritePort → Type 0
WriteOk ns w a None = Unit {0}
WriteOk ns w a (Some p) = NodeIs ns p.enable 1 × NodeIs ns p.address a × NodeIs ns p.value w

pub record FileOk (ns : List Node) (f : NetFile) : Type 0 where
  pub positive : 1 ≤ f.width
  pub at_most : f.width ≤ 64
  pub addressed : 1 ≤ f.address_width
  pub addressed_at_most : f.address_width ≤ 16
  pub full : length f.words ≡ 2 ^ f.address_width
  pub words : All (λ v. v < 2 ^ f.width) f.words
  pub port : WriteOk ns f.width f.address_width f.port

-- the defaults for a port, a register or a file that doesn't exist
abbrev pub no_port : Port
no_port = record { name = []; width = 0 }

abbrev pub no_reg : NetReg
no_reg = record { name = []; start = record { width = 0; value = 0 }; next = record { 0 = 0 } }

abbrev pub no_file : NetFile
no_file = record { name = []; width = 0; address_width = 0; words = []; port = None }

-- a node of k bits that reads an input, a register or a file reads an existing one, and has its width
abbrev pub CellOk : List Node → Parts → ℕ → Kind → Type 0
CellOk ns p k Ext = k ≡ p.ext
CellOk ns p k (Sample s) = (s < length p.samples) × ((get_or p.samples s no_port).width ≡ k)
CellOk ns p k (Reg r) = (r < length p.regs) × ((get_or p.regs r no_reg).start.width ≡ k)
CellOk ns p k (Word f a) = (f < length p.files) × ((get_or p.files f no_file).width ≡ k) × (wide ns a.0 ≡ (get_or p.files f no_file).address_width)
CellOk ns p k _ = Unit {0}

abbrev pub AllCells : List Node → Parts → Type 0
AllCells ns p = (i : ℕ) → i < length ns → CellOk ns p (get_or ns i no_node).width (get_or ns i no_node).kind

-- parts that fit these nodes
pub record PartsOk (ns : List Node) (p : Parts) : Type 0 where
  pub ext_positive : 1 ≤ p.ext
  pub ext_at_most : p.ext ≤ 64
  pub sample_count : length p.samples ≤ 16777216
  pub reg_count : length p.regs ≤ 16777216
  pub file_count : length p.files ≤ 16
  pub samples : All PortOk p.samples
  pub regs : All (RegOk ns) p.regs
  pub files : All (FileOk ns) p.files
  pub cells : AllCells ns p
  pub full : p.full.0 < length ns
  pub ue : p.ue.0 < length ns
  pub back : p.back.0 < length ns

pub record NetOk (net : Net) : Type 0 where
  pub count : length net.nodes ≤ 16777216
  pub right : AllRight net.nodes
  pub parts : PartsOk net.nodes net.parts
