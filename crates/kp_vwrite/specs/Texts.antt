-- The lines of the canonical text, as they are written.
use Rattle.std.specs.Prelude.{ℕ, ◌+◌, ◌-◌, ◌^◌, ◌<◌, ◌≤◌, Bool, true, false, List, [], ◌∷◌, ◌++◌, codes, decimal, flat_map, length, get_or, All}
use Rattle.kp_bits.specs.{Word.word, Word.IsWord, Spelling.spelling}
use Rattle.kp_net.specs.declared.node.{NodeId.NodeId, Kind.Kind, Kind.TheVariants.Const, Kind.TheVariants.Sample, Kind.TheVariants.Reg, Kind.TheVariants.Word}
use Rattle.kp_net.specs.declared.{node.Node.Node, netlist.Port.Port, netlist.NetReg.NetReg, netlist.NetFile.NetFile, netlist.Parts.Parts}
use Rattle.kp_net.specs.{Widths.wide, Widths.no_node, Netlist.Net}
use Rattle.kp_vlog.specs.Canon.{text_of, right_side, joined, out_ports, out_line, integer_line, word_line, port_line}

unfoldable pub joined_text : List NodeId → List ℕ
joined_text parts = text_of (joined parts)

-- a name with the range of its bits, as `input wire [7:0] s_Q, `
unfoldable pub ranged_text : List ℕ → ℕ → List ℕ → List ℕ → List ℕ
ranged_text front width name end = text_of (front ∷ decimal (width - 1) ∷ codes ":0] " ∷ name ∷ end ∷ [])

-- the header
abbrev pub reset_text : Bool → List ℕ
reset_text true = codes "input wire rst, "
reset_text false = []

unfoldable pub start_text : Parts → List ℕ
start_text p =
    text_of
    (codes "module " ∷ p.name ∷ codes "(input wire clk, " ∷ reset_text p.reset ∷ codes "input wire [" ∷ decimal (p.ext - 1) ∷ codes ":0] ext, " ∷ [])

abbrev pub sample_text : Port → List ℕ
sample_text s = ranged_text (codes "input wire [") s.width s.name (codes ", ")

abbrev pub samples_text : List Port → List ℕ
samples_text ss = flat_map sample_text ss

unfoldable pub outputs_text : (full ue back : ℕ) → List ℕ
outputs_text full ue back = text_of (out_ports full ue back)

abbrev pub header_text : List Node → Parts → List ℕ
header_text ns p = start_text p ++ (samples_text p.samples ++ outputs_text (wide ns p.full.0) (wide ns p.ue.0) (wide ns p.back.0))

-- the declarations
abbrev pub reg_text : NetReg → List ℕ
reg_text r = ranged_text (codes "  reg [") r.start.width r.name (codes ";\n")

abbrev pub regs_text : List NetReg → List ℕ
regs_text rs = flat_map reg_text rs

unfoldable pub file_text : NetFile → List ℕ
file_text f = text_of (codes "  reg [" ∷ decimal (f.width - 1) ∷ codes ":0] " ∷ f.name ∷ codes " [0:" ∷ decimal (2 ^ f.address_width - 1) ∷ codes "];\n" ∷ [])

abbrev pub files_text : List NetFile → List ℕ
files_text fs = flat_map file_text fs

unfoldable pub integer_text : List NetFile → List ℕ
integer_text fs = text_of (integer_line fs)

abbrev pub cells_text : Parts → List ℕ
cells_text p = regs_text p.regs ++ (files_text p.files ++ integer_text p.files)

-- `  wire [7:0] n2;` and the text before the right side
unfoldable pub front_text : ℕ → Node → List ℕ
front_text j n = text_of (codes "  wire [" ∷ decimal (n.width - 1) ∷ codes ":0] n" ∷ decimal j ∷ codes ";\n  assign n" ∷ decimal j ∷ codes " = " ∷ [])

unfoldable pub right_text : Parts → ℕ → Kind → List ℕ
right_text p k kind = text_of (right_side p k kind ++ (codes ";\n" ∷ []))

unfoldable pub part_text : NodeId → List ℕ
part_text a = codes ", n" ++ decimal a.0

abbrev pub parts_text : List NodeId → List ℕ
parts_text parts = flat_map part_text parts

abbrev pub node_text : Parts → ℕ → Node → List ℕ
node_text p j n = front_text j n ++ right_text p n.width n.kind

abbrev pub nodes_text : Parts → ℕ → List Node → List ℕ
nodes_text p j [] = []
nodes_text p j (n ∷ ns) = node_text p j n ++ nodes_text p (j + 1) ns

-- the outputs, and the head of the block that follows them
unfoldable pub outs_text : Parts → List ℕ
outs_text p =
    text_of (out_line (codes "full") p.full ++ (out_line (codes "ue") p.ue ++ (out_line (codes "back") p.back ++ (codes "  initial begin\n" ∷ []))))

-- the start values, with this assignment operator: in the first block, and in a reset
unfoldable pub value_text : List ℕ → List ℕ → NetReg → List ℕ
value_text margin sign r = text_of (margin ∷ r.name ∷ sign ∷ spelling r.start ∷ codes ";\n" ∷ [])

abbrev pub values_text : List ℕ → List ℕ → List NetReg → List ℕ
values_text margin sign rs = flat_map (value_text margin sign) rs

unfoldable pub fill_text : NetFile → List ℕ
fill_text f =
    text_of
    (codes "    for (i = 0; i < " ∷ decimal (2 ^ f.address_width) ∷ codes "; i = i + 1) " ∷ f.name ∷ codes "[i] = " ∷ spelling (word f.width 0) ∷ codes ";\n" ∷ [])

unfoldable pub word_text : List ℕ → (width address value : ℕ) → List ℕ
word_text name width a v = text_of (word_line name width a v)

abbrev pub words_text : List ℕ → (width address : ℕ) → List ℕ → List ℕ
words_text name width a [] = []
words_text name width a (v ∷ vs) = word_text name width a v ++ words_text name width (a + 1) vs

abbrev pub contents_text : NetFile → List ℕ
contents_text f = fill_text f ++ words_text f.name f.width 0 f.words

abbrev pub fills_text : List NetFile → List ℕ
fills_text fs = flat_map contents_text fs

abbrev pub state_text : Parts → List ℕ
state_text p = values_text (codes "    ") (codes " = ") p.regs ++ fills_text p.files

-- the updates at the end of a cycle
unfoldable pub update_text : List ℕ → NetReg → List ℕ
update_text margin r = text_of (margin ∷ r.name ∷ codes " <= n" ∷ decimal r.next.0 ∷ codes ";\n" ∷ [])

abbrev pub updates_text : List ℕ → List NetReg → List ℕ
updates_text margin rs = flat_map (update_text margin) rs

unfoldable pub port_text : List ℕ → NetFile → List ℕ
port_text margin f = text_of (port_line margin f.name f.port)

abbrev pub ports_text : List ℕ → List NetFile → List ℕ
ports_text margin fs = flat_map (port_text margin) fs

abbrev pub changes_text : List ℕ → Parts → List ℕ
changes_text margin p = updates_text margin p.regs ++ ports_text margin p.files

abbrev pub body_text : Bool → Parts → List ℕ
body_text false p = changes_text (codes "    ") p
body_text true p =
    codes "    if (rst) begin\n"
    ++ (values_text (codes "      ") (codes " <= ") p.regs ++ (codes "    end else begin\n" ++ (changes_text (codes "      ") p ++ codes "    end\n")))

abbrev pub clock_text : Parts → List ℕ
clock_text p = codes "  end\n  always @(posedge clk) begin\n" ++ (body_text p.reset p ++ codes "  end\nendmodule\n")

abbrev pub whole_text : Net → List ℕ
whole_text net =
    header_text net.nodes net.parts
    ++ (cells_text net.parts ++ (nodes_text net.parts 0 net.nodes ++ (outs_text net.parts ++ (state_text net.parts ++ clock_text net.parts))))

-- what a kind names exists, and its number fits
abbrev pub KindSafe : Parts → ℕ → Kind → Type 0
KindSafe p k (Const v) = IsWord (word k v)
KindSafe p k (Sample s) = s < length p.samples
KindSafe p k (Reg r) = r < length p.regs
KindSafe p k (Word f a) = f < length p.files
KindSafe p k _ = Unit {0}

pub record NodeSafe (p : Parts) (n : Node) : Type 0 where
  pub positive : 1 ≤ n.width
  pub kind : KindSafe p n.width n.kind

abbrev pub AllSafe : Parts → List Node → Type 0
AllSafe p ns = (i : ℕ) → i < length ns → NodeSafe p (get_or ns i no_node)

-- a file whose widths and words can be written
pub record FileSafe (f : NetFile) : Type 0 where
  pub positive : 1 ≤ f.width
  pub at_most : f.width ≤ 64
  pub addressed : f.address_width ≤ 16
  pub fit : All (λ v. v < 2 ^ f.width) f.words
