-- The tokens of the canonical text, each part before others.
use Rattle.std.specs.Prelude.{ℕ, ◌+◌, ◌-◌, ◌^◌, ◌==◌, if◌then◌else◌, Bool, true, false, List, [], ◌∷◌, get_or, codes, Option, Some, None}
use Rattle.kp_bits.specs.Word.{word}
use Rattle.kp_net.specs.declared.{node.NodeId.NodeId, node.Kind.Kind, node.Node.Node, netlist.Port.Port, netlist.WritePort.WritePort, netlist.NetReg.NetReg}
use Rattle.kp_net.specs.{declared.netlist.NetFile.NetFile, declared.netlist.Parts.Parts, Netlist.Net, Parts.no_port, Parts.no_reg, Parts.no_file, Widths.wide}
use Rattle.kp_net.specs.declared.node.Kind.TheVariants as kinds
use Rattle.kp_vlog.specs.declared.token.Keyword.{Keyword}
use Rattle.kp_vlog.specs.{Words.operator_mark, Tokens.Word, Tokens.name, Tokens.number, Tokens.literal, Tokens.keyword, Tokens.mark, Canon.wire, Canon.wire_name}
use Rattle.kp_vlog.proofs.Runs.{literal_for}
use Rattle.kp_vlog.specs.declared.token.Keyword.TheVariants as keywords
use Rattle.kp_vlog.specs.declared.token.Mark.TheVariants as marks

abbrev pub range_words : ℕ → List Word → List Word
range_words w ws = mark marks.OpenBracket ∷ number (w - 1) ∷ mark marks.Colon ∷ number 0 ∷ mark marks.CloseBracket ∷ ws

-- `output wire [w-1:0]`
abbrev pub port_words : Keyword → ℕ → List ℕ → List Word → List Word
port_words way w n ws = keyword way ∷ keyword keywords.Wire ∷ range_words w (name n ∷ ws)

abbrev pub reset_words : Bool → List Word → List Word
reset_words true ws = keyword keywords.Input ∷ keyword keywords.Wire ∷ name (codes "rst") ∷ mark marks.Comma ∷ ws
reset_words false ws = ws

-- the words of each part
abbrev pub each_words : {X : Type 0} → (X → List Word → List Word) → List X → List Word → List Word
each_words word [] ws = ws
each_words word (x ∷ xs) ws = word x (each_words word xs ws)

abbrev pub sample_words : Port → List Word → List Word
sample_words s ws = port_words keywords.Input s.width s.name (mark marks.Comma ∷ ws)

abbrev pub outs_words : ℕ → ℕ → ℕ → List Word → List Word
outs_words full ue back ws =
    port_words keywords.Output full (codes "full") (mark marks.Comma ∷ port_words keywords.Output ue (codes "ue") (mark marks.Comma
    ∷ port_words keywords.Output back (codes "back") (mark marks.CloseParenthesis ∷ mark marks.Semicolon ∷ ws)))

abbrev pub header_words : List Node → Parts → List Word → List Word
header_words ns p ws =
    keyword keywords.Module ∷ name p.name ∷ mark marks.OpenParenthesis ∷ keyword keywords.Input ∷ keyword keywords.Wire ∷ name (codes "clk") ∷ mark marks.Comma
    ∷ reset_words p.reset (port_words keywords.Input p.ext (codes "ext") (mark marks.Comma ∷ each_words sample_words p.samples (outs_words (wide ns p.full.0) (wide ns p.ue.0) (wide ns p.back.0) ws)))

abbrev pub reg_words : NetReg → List Word → List Word
reg_words r ws = keyword keywords.Reg ∷ range_words r.start.width (name r.name ∷ mark marks.Semicolon ∷ ws)

abbrev pub file_words : NetFile → List Word → List Word
file_words f ws =
    keyword keywords.Reg ∷ range_words f.width (name f.name ∷ mark marks.OpenBracket ∷ number 0 ∷ mark marks.Colon ∷ number (2 ^ f.address_width - 1) ∷ mark marks.CloseBracket
    ∷ mark marks.Semicolon ∷ ws)

abbrev pub integer_words : List NetFile → List Word → List Word
integer_words [] ws = ws
integer_words (f ∷ fs) ws = keyword keywords.Integer ∷ name (codes "i") ∷ mark marks.Semicolon ∷ ws

abbrev pub more_words : List NodeId → List Word → List Word
more_words [] ws = mark marks.CloseBrace ∷ ws
more_words (a ∷ parts) ws = mark marks.Comma ∷ name (wire a) ∷ more_words parts ws

abbrev pub joined_words : List NodeId → List Word → List Word
joined_words [] ws = mark marks.OpenBrace ∷ mark marks.CloseBrace ∷ ws
joined_words (a ∷ parts) ws = mark marks.OpenBrace ∷ name (wire a) ∷ more_words parts ws

abbrev pub right_words : Parts → ℕ → Kind → List Word → List Word
right_words p k (kinds.Const v) ws = literal (literal_for (word k v)) ∷ ws
right_words p k kinds.Ext ws = name (codes "ext") ∷ ws
right_words p k (kinds.Sample s) ws = name (get_or p.samples s no_port).name ∷ ws
right_words p k (kinds.Reg r) ws = name (get_or p.regs r no_reg).name ∷ ws
right_words p k (kinds.Word f a) ws = name (get_or p.files f no_file).name ∷ mark marks.OpenBracket ∷ name (wire a) ∷ mark marks.CloseBracket ∷ ws
right_words p k (kinds.Not a) ws = mark marks.Tilde ∷ name (wire a) ∷ ws
right_words p k (kinds.Binary op a b) ws = name (wire a) ∷ mark (operator_mark op) ∷ name (wire b) ∷ ws
right_words p k (kinds.Mux t a b) ws = name (wire t) ∷ mark marks.Question ∷ name (wire a) ∷ mark marks.Colon ∷ name (wire b) ∷ ws
right_words p k (kinds.Concat parts) ws = joined_words parts ws
right_words p k (kinds.Slice a hi lo) ws = name (wire a) ∷ mark marks.OpenBracket ∷ number hi ∷ mark marks.Colon ∷ number lo ∷ mark marks.CloseBracket ∷ ws

abbrev pub node_words : Parts → ℕ → List Node → List Word → List Word
node_words p j [] ws = ws
node_words p j (n ∷ ns) ws =
    keyword keywords.Wire ∷ range_words n.width (name (wire_name j) ∷ mark marks.Semicolon ∷ keyword keywords.Assign ∷ name (wire_name j) ∷ mark marks.Equals
    ∷ right_words p n.width n.kind (mark marks.Semicolon ∷ node_words p (j + 1) ns ws))

abbrev pub out_words : List ℕ → NodeId → List Word → List Word
out_words port a ws = keyword keywords.Assign ∷ name port ∷ mark marks.Equals ∷ name (wire a) ∷ mark marks.Semicolon ∷ ws

abbrev pub start_words : NetReg → List Word → List Word
start_words r ws = name r.name ∷ mark marks.Equals ∷ literal (literal_for r.start) ∷ mark marks.Semicolon ∷ ws

abbrev pub content_word : List ℕ → ℕ → ℕ → ℕ → List Word → List Word
content_word n k a v ws =
    if v == 0 then ws
    else name n ∷ mark marks.OpenBracket ∷ number a ∷ mark marks.CloseBracket ∷ mark marks.Equals ∷ literal (literal_for (word k v)) ∷ mark marks.Semicolon ∷ ws

abbrev pub content_words : List ℕ → ℕ → ℕ → List ℕ → List Word → List Word
content_words n k a [] ws = ws
content_words n k a (v ∷ vs) ws = content_word n k a v (content_words n k (a + 1) vs ws)

abbrev pub fill_words : List NetFile → List Word → List Word
fill_words [] ws = ws
fill_words (f ∷ fs) ws =
    keyword keywords.For ∷ mark marks.OpenParenthesis ∷ name (codes "i") ∷ mark marks.Equals ∷ number 0 ∷ mark marks.Semicolon
    ∷ name (codes "i") ∷ mark marks.Less ∷ number (2 ^ f.address_width) ∷ mark marks.Semicolon
    ∷ name (codes "i") ∷ mark marks.Equals ∷ name (codes "i") ∷ mark marks.Plus ∷ number 1 ∷ mark marks.CloseParenthesis
    ∷ name f.name ∷ mark marks.OpenBracket ∷ name (codes "i") ∷ mark marks.CloseBracket ∷ mark marks.Equals ∷ literal (literal_for (word f.width 0)) ∷ mark marks.Semicolon
    ∷ content_words f.name f.width 0 f.words (fill_words fs ws)

abbrev pub update_words : NetReg → List Word → List Word
update_words r ws = name r.name ∷ mark marks.Arrow ∷ name (wire r.next) ∷ mark marks.Semicolon ∷ ws

abbrev pub write_words : List ℕ → Option WritePort → List Word → List Word
write_words n None ws = ws
write_words n (Some w) ws =
    keyword keywords.If ∷ mark marks.OpenParenthesis ∷ name (wire w.enable) ∷ mark marks.CloseParenthesis ∷ name n ∷ mark marks.OpenBracket ∷ name (wire w.address)
    ∷ mark marks.CloseBracket ∷ mark marks.Arrow ∷ name (wire w.value) ∷ mark marks.Semicolon ∷ ws

abbrev pub writes_words : List NetFile → List Word → List Word
writes_words [] ws = ws
writes_words (f ∷ fs) ws = write_words f.name f.port (writes_words fs ws)

abbrev pub change_words : Parts → List Word → List Word
change_words p ws = each_words update_words p.regs (writes_words p.files ws)

abbrev pub value_words : NetReg → List Word → List Word
value_words r ws = name r.name ∷ mark marks.Arrow ∷ literal (literal_for r.start) ∷ mark marks.Semicolon ∷ ws

abbrev pub body_words : Bool → Parts → List Word → List Word
body_words false p ws = change_words p ws
body_words true p ws =
    keyword keywords.If ∷ mark marks.OpenParenthesis ∷ name (codes "rst") ∷ mark marks.CloseParenthesis ∷ keyword keywords.Begin
    ∷ each_words value_words p.regs (keyword keywords.End ∷ keyword keywords.Else ∷ keyword keywords.Begin ∷ change_words p (keyword keywords.End ∷ ws))

-- ends of the tokens
abbrev pub w1 : List Word
w1 = keyword keywords.End ∷ keyword keywords.Endmodule ∷ []

abbrev pub w2 : Parts → List Word
w2 p =
    keyword keywords.End ∷ keyword keywords.Always ∷ mark marks.At ∷ mark marks.OpenParenthesis ∷ keyword keywords.Posedge ∷ name (codes "clk") ∷ mark marks.CloseParenthesis
    ∷ keyword keywords.Begin ∷ body_words p.reset p w1

abbrev pub w3 : Parts → List Word
w3 p = keyword keywords.Initial ∷ keyword keywords.Begin ∷ each_words start_words p.regs (fill_words p.files (w2 p))

abbrev pub w4 : Parts → List Word
w4 p = out_words (codes "back") p.back (w3 p)

abbrev pub w5 : Parts → List Word
w5 p = out_words (codes "ue") p.ue (w4 p)

abbrev pub w6 : Parts → List Word
w6 p = out_words (codes "full") p.full (w5 p)

abbrev pub w7 : Net → List Word
w7 net = node_words net.parts 0 net.nodes (w6 net.parts)

abbrev pub w8 : Net → List Word
w8 net = each_words reg_words net.parts.regs (each_words file_words net.parts.files (integer_words net.parts.files (w7 net)))

abbrev pub net_words : Net → List Word
net_words net = header_words net.nodes net.parts (w8 net)
