-- The canonical text of a netlist, in the Verilog subset.
use Rattle.std.specs.Prelude.{ℕ, ◌+◌, ◌-◌, ◌^◌, ◌==◌, Bool, true, false, List, [], ◌∷◌, ◌++◌, get_or, codes, decimal, if◌then◌else◌, Option, Some, None}
use Rattle.kp_bits.specs.{Word.word, Spelling.spelling, declared.operator.BinOp.BinOp, Operators.symbol}
use Rattle.kp_net.specs.declared.node.{NodeId.NodeId, Kind.Kind}
use Rattle.kp_net.specs.declared.node.Kind.TheVariants.{Const, Ext, Sample, Reg, Word, Not, Binary, Mux, Concat, Slice}
use Rattle.kp_net.specs.declared.{node.Node.Node, netlist.Port.Port, netlist.WritePort.WritePort, netlist.NetReg.NetReg, netlist.NetFile.NetFile}
use Rattle.kp_net.specs.{declared.netlist.Parts.Parts, Widths.wide, Parts.no_port, Parts.no_reg, Parts.no_file, Netlist.Net}

-- a text as the concatenation of pieces; each name, number and literal ends its piece
abbrev pub Pieces : Type 0
Pieces = List (List ℕ)

abbrev pub text_of : Pieces → List ℕ
text_of [] = []
text_of (p ∷ ps) = p ++ text_of ps

-- the name of a node's wire
abbrev pub wire_name : ℕ → List ℕ
wire_name j = codes "n" ++ decimal j

abbrev pub wire : NodeId → List ℕ
wire a = wire_name a.0

-- an operator, with a space on each side
abbrev pub sign : BinOp → List ℕ
sign op = codes " " ++ (symbol op ++ codes " ")

-- what follows the first part of a concatenation
abbrev pub more_parts : List NodeId → Pieces
more_parts [] = codes "}" ∷ []
more_parts (a ∷ parts) = codes ", " ∷ wire a ∷ more_parts parts

-- `{n1, n2}`
abbrev pub joined : List NodeId → Pieces
joined [] = codes "{}" ∷ []
joined (a ∷ parts) = codes "{" ∷ wire a ∷ more_parts parts

-- the right side of a node's assignment
abbrev pub right_side : Parts → ℕ → Kind → Pieces
right_side p k (Const v) = spelling (word k v) ∷ []
right_side p k Ext = codes "ext" ∷ []
right_side p k (Sample s) = (get_or p.samples s no_port).name ∷ []
right_side p k (Reg r) = (get_or p.regs r no_reg).name ∷ []
right_side p k (Word f a) = (get_or p.files f no_file).name ∷ codes "[" ∷ wire a ∷ codes "]" ∷ []
right_side p k (Not a) = codes "~" ∷ wire a ∷ []
right_side p k (Binary op a b) = wire a ∷ sign op ∷ wire b ∷ []
right_side p k (Mux test a b) = wire test ∷ codes " ? " ∷ wire a ∷ codes " : " ∷ wire b ∷ []
right_side p k (Concat parts) = joined parts
right_side p k (Slice a hi lo) = wire a ∷ codes "[" ∷ decimal hi ∷ codes ":" ∷ decimal lo ∷ codes "]" ∷ []

-- `input wire rst, `
abbrev pub reset_port : Bool → Pieces
reset_port true = codes "input wire rst, " ∷ []
reset_port false = []

-- `input wire [7:0] s_Q, `
abbrev pub sample_ports : List Port → Pieces
sample_ports [] = []
sample_ports (s ∷ ss) = codes "input wire [" ∷ decimal (s.width - 1) ∷ codes ":0] " ∷ s.name ∷ codes ", " ∷ sample_ports ss

-- `output wire [1:0] full, output wire [1:0] ue, output wire [3:0] back);`
abbrev pub out_ports : (full ue back : ℕ) → Pieces
out_ports full ue back =
    codes "output wire [" ∷ decimal (full - 1) ∷ codes ":0] full, output wire [" ∷ decimal (ue - 1) ∷ codes ":0] ue, output wire [" ∷ decimal (back - 1)
    ∷ codes ":0] back);\n" ∷ []

-- the line with the module's name and its ports
abbrev pub header : List Node → Parts → Pieces
header ns p =
    codes "module " ∷ p.name ∷ codes "(input wire clk, " ∷ (reset_port p.reset ++ (codes "input wire [" ∷ decimal (p.ext - 1) ∷ codes ":0] ext, "
    ∷ (sample_ports p.samples ++ out_ports (wide ns p.full.0) (wide ns p.ue.0) (wide ns p.back.0))))

-- `  reg [7:0] r_X;`
abbrev pub reg_lines : List NetReg → Pieces
reg_lines [] = []
reg_lines (r ∷ rs) = codes "  reg [" ∷ decimal (r.start.width - 1) ∷ codes ":0] " ∷ r.name ∷ codes ";\n" ∷ reg_lines rs

-- `  reg [31:0] f_M [0:31];`
abbrev pub file_lines : List NetFile → Pieces
file_lines [] = []
file_lines (f ∷ fs) =
    codes "  reg [" ∷ decimal (f.width - 1) ∷ codes ":0] " ∷ f.name ∷ codes " [0:" ∷ decimal (2 ^ f.address_width - 1) ∷ codes "];\n" ∷ file_lines fs

-- `  integer i;`, if there is a file
abbrev pub integer_line : List NetFile → Pieces
integer_line [] = []
integer_line (f ∷ fs) = codes "  integer i;\n" ∷ []

-- `  wire [7:0] n2;` and `  assign n2 = n0 & n1;`, from node j on
abbrev pub node_lines : Parts → ℕ → List Node → Pieces
node_lines p j [] = []
node_lines p j (n ∷ ns) =
    codes "  wire [" ∷ decimal (n.width - 1) ∷ codes ":0] " ∷ wire_name j ∷ codes ";\n  assign " ∷ wire_name j ∷ codes " = "
    ∷ (right_side p n.width n.kind ++ (codes ";\n" ∷ node_lines p (j + 1) ns))

-- `  assign full = n3;`
abbrev pub out_line : List ℕ → NodeId → Pieces
out_line port a = codes "  assign " ∷ port ∷ codes " = " ∷ wire a ∷ codes ";\n" ∷ []

-- `    r_X = 8'h01;`
abbrev pub start_lines : List NetReg → Pieces
start_lines [] = []
start_lines (r ∷ rs) = codes "    " ∷ r.name ∷ codes " = " ∷ spelling r.start ∷ codes ";\n" ∷ start_lines rs

-- `    f_M[3] = 32'h0000000a;`, unless the word is 0
abbrev pub word_line : List ℕ → (width address value : ℕ) → Pieces
word_line name k a v =
    if v == 0 then [] else codes "    " ∷ name ∷ codes "[" ∷ decimal a ∷ codes "] = " ∷ spelling (word k v) ∷ codes ";\n" ∷ []

-- the words of a file from address a on
abbrev pub word_lines : List ℕ → (width address : ℕ) → List ℕ → Pieces
word_lines name k a [] = []
word_lines name k a (v ∷ vs) = word_line name k a v ++ word_lines name k (a + 1) vs

-- `    for (i = 0; i < 32; i = i + 1) f_M[i] = 32'h00000000;` and the words that aren't 0
abbrev pub fill_lines : List NetFile → Pieces
fill_lines [] = []
fill_lines (f ∷ fs) =
    codes "    for (i = 0; i < " ∷ decimal (2 ^ f.address_width) ∷ codes "; i = i + 1) " ∷ f.name ∷ codes "[i] = " ∷ spelling (word f.width 0) ∷ codes ";\n"
    ∷ (word_lines f.name f.width 0 f.words ++ fill_lines fs)

-- `    r_X <= n3;`, after this margin
abbrev pub update_lines : List ℕ → List NetReg → Pieces
update_lines margin [] = []
update_lines margin (r ∷ rs) = margin ∷ r.name ∷ codes " <= " ∷ wire r.next ∷ codes ";\n" ∷ update_lines margin rs

-- `    if (n3) f_M[n4] <= n5;`, if the file has a write port
abbrev pub port_line : List ℕ → List ℕ → Option WritePort → Pieces
port_line margin name None = []
port_line margin name (Some w) =
    margin ∷ codes "if (" ∷ wire w.enable ∷ codes ") " ∷ name ∷ codes "[" ∷ wire w.address ∷ codes "] <= " ∷ wire w.value ∷ codes ";\n" ∷ []

abbrev pub port_lines : List ℕ → List NetFile → Pieces
port_lines margin [] = []
port_lines margin (f ∷ fs) = port_line margin f.name f.port ++ port_lines margin fs

-- what changes at the end of a cycle
abbrev pub change_lines : List ℕ → Parts → Pieces
change_lines margin p = update_lines margin p.regs ++ port_lines margin p.files

-- `      r_X <= 8'h01;`
abbrev pub reset_lines : List NetReg → Pieces
reset_lines [] = []
reset_lines (r ∷ rs) = codes "      " ∷ r.name ∷ codes " <= " ∷ spelling r.start ∷ codes ";\n" ∷ reset_lines rs

-- and the reset, if there is one
abbrev pub body_lines : Bool → Parts → Pieces
body_lines false p = change_lines (codes "    ") p
body_lines true p =
    codes "    if (rst) begin\n" ∷ (reset_lines p.regs ++ (codes "    end else begin\n" ∷ (change_lines (codes "      ") p ++ (codes "    end\n" ∷ []))))

abbrev pub pieces : Net → Pieces
pieces net =
    header net.nodes net.parts
    ++ (reg_lines net.parts.regs
    ++ (file_lines net.parts.files
    ++ (integer_line net.parts.files
    ++ (node_lines net.parts 0 net.nodes
    ++ (out_line (codes "full") net.parts.full
    ++ (out_line (codes "ue") net.parts.ue
    ++ (out_line (codes "back") net.parts.back
    ++ (codes "  initial begin\n" ∷ (start_lines net.parts.regs
    ++ (fill_lines net.parts.files
    ++ (codes "  end\n  always @(posedge clk) begin\n" ∷ (body_lines net.parts.reset net.parts
    ++ (codes "  end\nendmodule\n" ∷ [])))))))))))))

-- The canonical text of a netlist.
unfoldable pub canon : Net → List ℕ
canon net = text_of (pieces net)
