-- The canonical text has the tokens of the netlist.
use Rattle.std.proofs.Common.{◌≡◌, ℕ, zero, suc, ◌+◌, ◌-◌, ◌≤◌, ◌<◌, ◌^◌, List, [], ◌∷◌, ◌++◌, length, Bool, true, false, cond, refl, sym, subst, arith, append_assoc, get_or}
use Rattle.std.proofs.{lemmas.List.Elements.All-head, lemmas.List.Elements.All-tail, Math.Nat.pow-le-pow_right}
use Rattle.std.specs.Prelude.{codes, decimal, All, Option, Some, None, ◌==◌}
use Rattle.kp_bits.specs.{Word.word, Word.IsWord, Spelling.spelling, declared.operator.BinOp.BinOp}
use Rattle.kp_net.specs.declared.{node.NodeId.NodeId, node.Kind.Kind, node.Node.Node, netlist.Port.Port, netlist.WritePort.WritePort, netlist.NetReg.NetReg}
use Rattle.kp_net.specs.declared.netlist.{NetFile.NetFile, Parts.Parts}
use Rattle.kp_net.specs.{Names.IsNamed, Names.is_reg_name, Names.is_file_name, Names.is_sample_name, Netlist.Net}
use Rattle.kp_net.specs.Parts.{no_port, no_reg, no_file, NodeIs, WriteOk, PortOk, RegOk, FileOk, CellOk, NetOk}
use Rattle.kp_net.specs.Widths.{wide, no_node, KindOk, NodeOk}
use Rattle.kp_net.specs.declared.node.Kind.TheVariants as kinds
use Rattle.kp_vlog.specs.Canon.{Pieces, wire, wire_name, sign, more_parts, joined, right_side, reset_port, sample_ports, out_ports, header, reg_lines, file_lines, integer_line, node_lines, out_line, start_lines, word_line, word_lines, fill_lines, update_lines, port_line, port_lines, change_lines, reset_lines, body_lines, canon}
use Rattle.kp_vlog.proofs.Words.{port_words, each_words, reset_words, sample_words, outs_words, header_words, reg_words, file_words, integer_words, more_words, joined_words, right_words, node_words, out_words, start_words, content_word, content_words, fill_words, update_words, write_words, writes_words, change_words, value_words, body_words, w1, w2, w3, w4, w5, w6, w7, w8, net_words}
use Rattle.kp_vlog.specs.Tokens.{Word, name, number, literal, keyword, mark, front, takes}
use Rattle.kp_vlog.proofs.Lex.{Spells, Says, ate, spells_nothing, spells_takes}
use Rattle.kp_vlog.proofs.Runs.{IsWritten, spells_number, spells_literal, spells_name, wire_written, literal_for}
use Rattle.kp_vlog.proofs.NamedText.{module_written, reg_written, file_written, sample_written, all_written}
use Rattle.kp_vlog.specs.declared.token.Keyword.TheVariants as keywords
use Rattle.kp_vlog.specs.declared.token.Mark.TheVariants as marks
use Rattle.kp_vlog.specs.Words.{operator_mark}

-- what the text requires of the parts, with names that can be written
pub record Writable (net : Net) : Type 0 where
  pub name : IsWritten net.parts.name
  pub samples : All (λ s. PortOk s × IsWritten s.name) net.parts.samples
  pub regs : All (λ r. RegOk net.nodes r × IsWritten r.name) net.parts.regs
  pub files : All (λ f. FileOk net.nodes f × IsWritten f.name) net.parts.files

pub writable : (net : Net) → NetOk net → IsNamed net → Writable net
writable net k n = record {
  name = module_written net.parts.name n.name;
  samples = λ i d l. (k.parts.samples i d l, all_written is_sample_name (λ s. s.name) sample_written net.parts.samples n.samples i d l);
  regs = λ i d l. (k.parts.regs i d l, all_written is_reg_name (λ r. r.name) reg_written net.parts.regs n.regs i d l);
  files = λ i d l. (k.parts.files i d l, all_written is_file_name (λ f. f.name) file_written net.parts.files n.files i d l);
}

-- the text of parts of one kind
each_says : {X : Type 0} (lines : List X → Pieces) (words : X → List Word → List Word) (Fine : X → Type 0) → lines [] ≡ []
    → ((x : X) (xs : List X) (ps : Pieces) (ws : List Word) → Fine x → Says (lines xs ++ ps) ws → Says (lines (x ∷ xs) ++ ps) (words x ws))
    → (xs : List X) (ps : Pieces) (ws : List Word) → All Fine xs → Says ps ws → Says (lines xs ++ ps) (each_words words xs ws)
each_says lines words Fine none one [] ps ws ok s = subst (λ (qs : Pieces). Says (qs ++ ps) ws) (sym none) s
each_says lines words Fine none one (x ∷ xs) ps ws ok s =
    one x xs ps (each_words words xs ws) (All-head Fine x xs ok) (each_says lines words Fine none one xs ps ws (All-tail Fine x xs ok) s)

-- A byte that starts no punctuator of two bytes, whatever follows it.
bracket_front : (text : List ℕ) → front (91 ∷ text) ≡ takes (mark marks.OpenBracket) 1
bracket_front [] = refl
bracket_front (b ∷ text) = refl

colon_front : (text : List ℕ) → front (58 ∷ text) ≡ takes (mark marks.Colon) 1
colon_front [] = refl
colon_front (b ∷ text) = refl

bracket : {text : List ℕ} {ws : List Word} → Spells text ws → Spells (91 ∷ text) (mark marks.OpenBracket ∷ ws)
bracket {text} s = spells_takes (mark marks.OpenBracket) 1 (bracket_front text) s

colon : {text : List ℕ} {ws : List Word} → Spells text ws → Spells (58 ∷ text) (mark marks.Colon ∷ ws)
colon {text} s = spells_takes (mark marks.Colon) 1 (colon_front text) s

outs_say : (full ue back : ℕ) (ps : Pieces) (ws : List Word) → full ≤ 64 → ue ≤ 64 → back ≤ 64 → Says ps ws → Says (out_ports full ue back ++ ps) (outs_words full ue back ws)
outs_say full ue back ps ws f u b s =
    ate 4 refl (bracket (spells_number (full - 1) _ _ (omega arith) refl (ate 11 refl (bracket (spells_number (ue - 1) _ _ (omega arith) refl (ate 11 refl
    (bracket (spells_number (back - 1) _ _ (omega arith) refl (ate 8 refl s)))))))))

samples_say : (ss : List Port) (ps : Pieces) (ws : List Word) → All (λ s. PortOk s × IsWritten s.name) ss → Says ps ws → Says (sample_ports ss ++ ps) (each_words sample_words ss ws)
samples_say = each_says sample_ports sample_words (λ s. PortOk s × IsWritten s.name) refl (λ x ss ps ws ok s.
    let high = ok.0.at_most in ate 4 refl (bracket (spells_number (x.width - 1) _ _ (omega arith) refl (ate 4 refl (spells_name x.name _ _ ok.1 refl (ate 2 refl s))))))

reset_says : (reset : Bool) (ps : Pieces) (ws : List Word) → Says ps ws → Says (reset_port reset ++ ps) (reset_words reset ws)
reset_says true ps ws s = ate 7 refl s
reset_says false ps ws s = s

header_says : (ns : List Node) (p : Parts) (ps : Pieces) (ws : List Word) → IsWritten p.name → p.ext ≤ 64 → ((i : ℕ) → wide ns i ≤ 64) → All (λ s. PortOk s × IsWritten s.name) p.samples
    → Says ps ws → Says (header ns p ++ ps) (header_words ns p ws)
header_says ns p ps ws named ext short ok s =
    let outs = out_ports (wide ns p.full.0) (wide ns p.ue.0) (wide ns p.back.0) in
    let inputs = codes "input wire [" ∷ decimal (p.ext - 1) ∷ codes ":0] ext, " ∷ (sample_ports p.samples ++ outs) in
    let v1 = outs_words (wide ns p.full.0) (wide ns p.ue.0) (wide ns p.back.0) ws in
    let v2 = each_words sample_words p.samples v1 in
    let v3 = port_words keywords.Input p.ext (codes "ext") (mark marks.Comma ∷ v2) in
    let says1 : Says (outs ++ ps) v1 = outs_say (wide ns p.full.0) (wide ns p.ue.0) (wide ns p.back.0) ps ws (short p.full.0) (short p.ue.0) (short p.back.0) s in
    let says2 : Says ((sample_ports p.samples ++ outs) ++ ps) v2 =
    subst (λ (qs : Pieces). Says qs v2) (sym (append_assoc (sample_ports p.samples) outs ps)) (samples_say p.samples (outs ++ ps) v1 ok says1) in
    let says3 : Says (inputs ++ ps) v3 = ate 4 refl (bracket (spells_number (p.ext - 1) _ _ (omega arith) refl (ate 7 refl says2))) in
    ate 2 refl (spells_name p.name _ _ named refl (ate 8 refl
    (subst (λ (qs : Pieces). Says qs (reset_words p.reset v3)) (sym (append_assoc (reset_port p.reset) inputs ps)) (reset_says p.reset (inputs ++ ps) v3 says3))))

regs_say : (ns : List Node) (rs : List NetReg) (ps : Pieces) (ws : List Word) → All (λ r. RegOk ns r × IsWritten r.name) rs → Says ps ws → Says (reg_lines rs ++ ps) (each_words reg_words rs ws)
regs_say ns = each_says reg_lines reg_words (λ r. RegOk ns r × IsWritten r.name) refl (λ r rs ps ws ok s.
    let high = ok.0.start.at_most in ate 4 refl (bracket (spells_number (r.start.width - 1) _ _ (omega arith) refl (ate 4 refl (spells_name r.name _ _ ok.1 refl (ate 2 refl s))))))

-- a file has few words
few_words : (a : ℕ) → a ≤ 16 → 2 ^ a ≤ 65536
few_words a h = pow-le-pow_right (omega arith) h

files_say : (ns : List Node) (fs : List NetFile) (ps : Pieces) (ws : List Word) → All (λ f. FileOk ns f × IsWritten f.name) fs → Says ps ws → Says (file_lines fs ++ ps) (each_words file_words fs ws)
files_say ns = each_says file_lines file_words (λ f. FileOk ns f × IsWritten f.name) refl (λ f fs ps ws ok s.
    let high = ok.0.at_most in let few = few_words f.address_width ok.0.addressed_at_most in
    ate 4 refl (bracket (spells_number (f.width - 1) _ _ (omega arith) refl (ate 4 refl (spells_name f.name _ _ ok.1 refl (ate 3 refl (colon
    (spells_number (2 ^ f.address_width - 1) _ _ (omega arith) refl (ate 3 refl s)))))))))

integer_says : (fs : List NetFile) (ps : Pieces) (ws : List Word) → Says ps ws → Says (integer_line fs ++ ps) (integer_words fs ws)
integer_says [] ps ws s = s
integer_says (f ∷ fs) ps ws s = ate 7 refl s

-- the wire of a node that is early enough
wire_ok : (m : ℕ) (a : NodeId) → m ≤ 16777216 → a.0 < m → IsWritten (wire a)
wire_ok m a few h = wire_written a.0 (omega arith)

more_say : (m : ℕ) (parts : List NodeId) (ps : Pieces) (ws : List Word) → m ≤ 16777216 → All (λ a. a.0 < m) parts → Says (codes ";\n" ∷ ps) ws
    → Says (more_parts parts ++ (codes ";\n" ∷ ps)) (more_words parts ws)
more_say m [] ps ws few ok s = ate 1 refl s
more_say m (a ∷ []) ps ws few ok s = ate 2 refl (spells_name (wire a) _ _ (wire_ok m a few (All-head (λ a. a.0 < m) a [] ok)) refl (ate 1 refl s))
more_say m (a ∷ b ∷ parts) ps ws few ok s =
    ate 2 refl (spells_name (wire a) _ _ (wire_ok m a few (All-head (λ a. a.0 < m) a (b ∷ parts) ok)) refl (more_say m (b ∷ parts) ps ws few (All-tail (λ a. a.0 < m) a (b ∷ parts) ok) s))

joined_says : (m : ℕ) (parts : List NodeId) (ps : Pieces) (ws : List Word) → m ≤ 16777216 → All (λ a. a.0 < m) parts → Says (codes ";\n" ∷ ps) ws
    → Says (joined parts ++ (codes ";\n" ∷ ps)) (joined_words parts ws)
joined_says m [] ps ws few ok s = ate 2 refl s
joined_says m (a ∷ []) ps ws few ok s = ate 1 refl (spells_name (wire a) _ _ (wire_ok m a few (All-head (λ a. a.0 < m) a [] ok)) refl (ate 1 refl s))
joined_says m (a ∷ b ∷ parts) ps ws few ok s =
    ate 1 refl (spells_name (wire a) _ _ (wire_ok m a few (All-head (λ a. a.0 < m) a (b ∷ parts) ok)) refl (more_say m (b ∷ parts) ps ws few (All-tail (λ a. a.0 < m) a (b ∷ parts) ok) s))

-- an operator between two wires
sign_says : (op : BinOp) (a b : NodeId) (ps : Pieces) (ws : List Word) → IsWritten (wire a) → IsWritten (wire b) → Says (codes ";\n" ∷ ps) ws
    → Says (wire a ∷ sign op ∷ wire b ∷ codes ";\n" ∷ ps) (name (wire a) ∷ mark (operator_mark op) ∷ name (wire b) ∷ ws)
sign_says BinOp.And a b ps ws x y s = spells_name (wire a) _ _ x refl (ate 3 refl (spells_name (wire b) _ _ y refl s))
sign_says z a b ps ws x y s = spells_name (wire a) _ _ x refl (ate 3 refl (spells_name (wire b) _ _ y refl s))

right_says : (net : Net) (m k : ℕ) (kind : Kind) (ps : Pieces) (ws : List Word) → Writable net → m ≤ 16777216 → 1 ≤ k → k ≤ 64 → ((i : ℕ) → wide net.nodes i ≤ 64)
    → KindOk net.nodes m k kind → CellOk net.nodes net.parts k kind → Says (codes ";\n" ∷ ps) ws → Says (right_side net.parts k kind ++ (codes ";\n" ∷ ps)) (right_words net.parts k kind ws)
right_says net m k (kinds.Const v) ps ws n few low high short ok cell s = spells_literal (word k v) _ _ (record { positive = low; at_most = high; fits = ok }) refl s
right_says net m k kinds.Ext ps ws n few low high short ok cell s = ate 1 refl s
right_says net m k (kinds.Sample i) ps ws n few low high short ok cell s =
    spells_name (get_or net.parts.samples i no_port).name _ _ (n.samples i no_port cell.0).1 refl s
right_says net m k (kinds.Reg i) ps ws n few low high short ok cell s =
    spells_name (get_or net.parts.regs i no_reg).name _ _ (n.regs i no_reg cell.0).1 refl s
right_says net m k (kinds.Word i a) ps ws n few low high short ok cell s =
    spells_name (get_or net.parts.files i no_file).name _ _ (n.files i no_file cell.0).1 refl
    (ate 1 refl (spells_name (wire a) _ _ (wire_ok m a few ok) refl (ate 1 refl s)))
right_says net m k (kinds.Not a) ps ws n few low high short ok cell s = ate 1 refl (spells_name (wire a) _ _ (wire_ok m a few ok.0) refl s)
right_says net m k (kinds.Binary op a b) ps ws n few low high short ok cell s = sign_says op a b ps ws (wire_ok m a few ok.0) (wire_ok m b few ok.1) s
right_says net m k (kinds.Mux t a b) ps ws n few low high short ok cell s =
    spells_name (wire t) _ _ (wire_ok m t few ok.0) refl (ate 3 refl (spells_name (wire a) _ _ (wire_ok m a few ok.1) refl (ate 3 refl
    (spells_name (wire b) _ _ (wire_ok m b few ok.2) refl s))))
right_says net m k (kinds.Concat parts) ps ws n few low high short ok cell s = joined_says m parts ps ws few ok.2 s
right_says net m k (kinds.Slice a hi lo) ps ws n few low high short ok cell s =
    let w = short a.0 in let h = ok.2 in let l = ok.1 in
    spells_name (wire a) _ _ (wire_ok m a few ok.0) refl (bracket (spells_number hi _ _ (omega arith) refl
    (colon (spells_number lo _ _ (omega arith) refl (ate 1 refl s)))))

-- the nodes from index j on, with what is known of each
abbrev pub RightFrom : Net → ℕ → List Node → Type 0
RightFrom net j [] = Unit {0}
RightFrom net j (n ∷ ns) = NodeOk net.nodes j n × CellOk net.nodes net.parts n.width n.kind × RightFrom net (j + 1) ns

pub right_from : (net : Net) (j : ℕ) (ns : List Node) → ((i : ℕ) → i < length ns → NodeOk net.nodes (j + i) (get_or ns i no_node) × CellOk net.nodes net.parts (get_or ns i no_node).width (get_or ns i no_node).kind)
    → RightFrom net j ns
right_from net j [] h = tt
right_from net j (n ∷ ns) h =
    let here = h 0 (omega arith) in
    let e : j + 0 ≡ j = omega arith in
    (subst (λ m. NodeOk net.nodes m n) e here.0, here.1, right_from net (j + 1) ns (λ i l. let next = h (suc i) (omega arith) in let e : j + suc i ≡ j + 1 + i = omega arith in (subst (λ m. NodeOk net.nodes m (get_or ns i no_node)) e next.0, next.1)))

pub all_right : (net : Net) → NetOk net → RightFrom net 0 net.nodes
all_right net k = right_from net 0 net.nodes (λ i l. let e : i ≡ 0 + i = omega arith in (subst (λ m. NodeOk net.nodes m (get_or net.nodes i no_node)) e (k.right i l), k.parts.cells i l))

nodes_say : (net : Net) (j : ℕ) (ns : List Node) (ps : Pieces) (ws : List Word) → Writable net → ((i : ℕ) → wide net.nodes i ≤ 64) → j + length ns ≤ 16777216 → RightFrom net j ns
    → Says ps ws → Says (node_lines net.parts j ns ++ ps) (node_words net.parts j ns ws)
nodes_say net j [] ps ws n short few ok s = s
nodes_say net j (x ∷ ns) ps ws n short few ok s =
    let low = ok.0.positive in let high = ok.0.at_most in
    ate 4 refl (bracket (spells_number (x.width - 1) _ _ (omega arith) refl (ate 4 refl (spells_name (wire_name j) _ _ (wire_written j (omega arith)) refl
    (ate 6 refl (spells_name (wire_name j) _ _ (wire_written j (omega arith)) refl (ate 3 refl
    (subst (λ (qs : Pieces). Says qs (right_words net.parts x.width x.kind (mark marks.Semicolon ∷ node_words net.parts (j + 1) ns ws))) (sym (append_assoc (right_side net.parts x.width x.kind) (codes ";\n" ∷ node_lines net.parts (j + 1) ns) ps))
    (right_says net j x.width x.kind (node_lines net.parts (j + 1) ns ++ ps) _ n (omega arith) low high short ok.0.kind ok.1
    (ate 2 refl (nodes_say net (j + 1) ns ps ws n short (omega arith) ok.2 s)))))))))))

out_says : (port : List ℕ) (a : NodeId) (ps : Pieces) (ws : List Word) → a.0 < 16777216 → ((qs : Pieces) (vs : List Word) → Says qs vs → Says (codes "  assign " ∷ port ∷ codes " = " ∷ qs) (keyword keywords.Assign ∷ name port ∷ mark marks.Equals ∷ vs))
    → Says ps ws → Says (out_line port a ++ ps) (out_words port a ws)
out_says port a ps ws h front s = front (wire a ∷ codes ";\n" ∷ ps) (name (wire a) ∷ mark marks.Semicolon ∷ ws) (spells_name (wire a) _ _ (wire_written a.0 (omega arith)) refl (ate 2 refl s))

starts_say : (ns : List Node) (rs : List NetReg) (ps : Pieces) (ws : List Word) → All (λ r. RegOk ns r × IsWritten r.name) rs → Says ps ws → Says (start_lines rs ++ ps) (each_words start_words rs ws)
starts_say ns = each_says start_lines start_words (λ r. RegOk ns r × IsWritten r.name) refl
    (λ r rs ps ws ok s. ate 4 refl (spells_name r.name _ _ ok.1 refl (ate 3 refl (spells_literal r.start _ _ ok.0.start refl (ate 2 refl s)))))

word_says : (n : List ℕ) (k a v : ℕ) (ps : Pieces) (ws : List Word) → IsWritten n → IsWord (word k v) → a < 65536 → Says ps ws → (t : Bool) → (v == 0) ≡ t → Says (word_line n k a v ++ ps) (content_word n k a v ws)
word_says n k a v ps ws named ok low s true e =
    subst (λ (b : Bool). Says (cond b [] (codes "    " ∷ n ∷ codes "[" ∷ decimal a ∷ codes "] = " ∷ spelling (word k v) ∷ codes ";\n" ∷ []) ++ ps)
    (cond b ws (name n ∷ mark marks.OpenBracket ∷ number a ∷ mark marks.CloseBracket ∷ mark marks.Equals ∷ literal (literal_for (word k v)) ∷ mark marks.Semicolon ∷ ws))) (sym e) s
word_says n k a v ps ws named ok low s false e =
    subst (λ (b : Bool). Says (cond b [] (codes "    " ∷ n ∷ codes "[" ∷ decimal a ∷ codes "] = " ∷ spelling (word k v) ∷ codes ";\n" ∷ []) ++ ps)
    (cond b ws (name n ∷ mark marks.OpenBracket ∷ number a ∷ mark marks.CloseBracket ∷ mark marks.Equals ∷ literal (literal_for (word k v)) ∷ mark marks.Semicolon ∷ ws))) (sym e)
    (ate 4 refl (spells_name n _ _ named refl (bracket (spells_number a _ _ (omega arith) refl (ate 4 refl (spells_literal (word k v) _ _ ok refl
    (ate 2 refl s)))))))

words_say : (n : List ℕ) (k a : ℕ) (vs : List ℕ) (ps : Pieces) (ws : List Word) → IsWritten n → 1 ≤ k → k ≤ 64 → a + length vs ≤ 65536 → All (λ v. v < 2 ^ k) vs
    → Says ps ws → Says (word_lines n k a vs ++ ps) (content_words n k a vs ws)
words_say n k a [] ps ws named low high few fit s = s
words_say n k a (v ∷ vs) ps ws named low high few fit s =
    subst (λ (qs : Pieces). Says qs (content_words n k a (v ∷ vs) ws)) (sym (append_assoc (word_line n k a v) (word_lines n k (a + 1) vs) ps))
    (word_says n k a v _ _ named (record { positive = low; at_most = high; fits = All-head (λ v. v < 2 ^ k) v vs fit }) (omega arith)
    (words_say n k (a + 1) vs ps ws named low high (omega arith) (All-tail (λ v. v < 2 ^ k) v vs fit) s) (v == 0) refl)

fills_say : (ns : List Node) (fs : List NetFile) (ps : Pieces) (ws : List Word) → All (λ f. FileOk ns f × IsWritten f.name) fs → Says ps ws → Says (fill_lines fs ++ ps) (fill_words fs ws)
fills_say ns [] ps ws ok s = s
fills_say ns (f ∷ fs) ps ws ok s =
    let F : NetFile → Type 0 = λ f. FileOk ns f × IsWritten f.name in
    let file = (All-head F f fs ok).0 in let few = few_words f.address_width file.addressed_at_most in let full = file.full in
    let n = (All-head F f fs ok).1 in
    let zero_fits : 2 ^ 0 ≤ 2 ^ f.width = pow-le-pow_right {n = 2} (omega arith) {i = 0} {j = f.width} (omega arith) in
    ate 18 refl (spells_number (2 ^ f.address_width) _ _ (omega arith) refl (ate 13 refl (spells_name f.name _ _ n refl (ate 6 refl
    (spells_literal (word f.width 0) _ _ (record { positive = file.positive; at_most = file.at_most; fits = omega arith }) refl (ate 2 refl
    (subst (λ (qs : Pieces). Says qs (content_words f.name f.width 0 f.words (fill_words fs ws))) (sym (append_assoc (word_lines f.name f.width 0 f.words) (fill_lines fs) ps))
    (words_say f.name f.width 0 f.words _ _ n file.positive file.at_most (omega arith) file.words
    (fills_say ns fs ps ws (All-tail F f fs ok) s)))))))))

-- a margin of blanks is skipped
pub record IsMargin (margin : List ℕ) : Type 0 where
  pub passes : (text : List ℕ) (vs : List Word) → Spells text vs → Spells (margin ++ text) vs

node_written : (ns : List Node) (a : NodeId) (k : ℕ) → length ns ≤ 16777216 → NodeIs ns a k → IsWritten (wire a)
node_written ns a k few h = wire_ok (length ns) a few h.0

updates_say : (margin : List ℕ) (ns : List Node) (rs : List NetReg) (ps : Pieces) (ws : List Word) → IsMargin margin → length ns ≤ 16777216 → All (λ r. RegOk ns r × IsWritten r.name) rs
    → Says ps ws → Says (update_lines margin rs ++ ps) (each_words update_words rs ws)
updates_say margin ns rs ps ws pass few = each_says (update_lines margin) update_words (λ r. RegOk ns r × IsWritten r.name) refl (λ r rs ps ws ok s.
    pass.passes _ _ (spells_name r.name _ _ ok.1 refl (ate 3 refl (spells_name (wire r.next) _ _ (node_written ns r.next r.start.width few ok.0.next) refl (ate 2 refl s))))) rs ps ws

write_says : (margin n : List ℕ) (ns : List Node) (w a : ℕ) (port : Option WritePort) (ps : Pieces) (ws : List Word) → IsMargin margin → length ns ≤ 16777216 → IsWritten n → WriteOk ns w a port
    → Says ps ws → Says (port_line margin n port ++ ps) (write_words n port ws)
write_says margin n ns w a None ps ws pass few named ok s = s
write_says margin n ns w a (Some p) ps ws pass few named ok s =
    pass.passes _ _ (ate 3 refl (spells_name (wire p.enable) _ _ (node_written ns p.enable 1 few ok.0) refl (ate 2 refl (spells_name n _ _ named refl
    (ate 1 refl (spells_name (wire p.address) _ _ (node_written ns p.address a few ok.1) refl (ate 4 refl
    (spells_name (wire p.value) _ _ (node_written ns p.value w few ok.2) refl (ate 2 refl s)))))))))

writes_say : (margin : List ℕ) (ns : List Node) (fs : List NetFile) (ps : Pieces) (ws : List Word) → IsMargin margin → length ns ≤ 16777216 → All (λ f. FileOk ns f × IsWritten f.name) fs
    → Says ps ws → Says (port_lines margin fs ++ ps) (writes_words fs ws)
writes_say margin ns [] ps ws pass few ok s = s
writes_say margin ns (f ∷ fs) ps ws pass few ok s =
    let F : NetFile → Type 0 = λ f. FileOk ns f × IsWritten f.name in
    let file = All-head F f fs ok in
    subst (λ (qs : Pieces). Says qs (writes_words (f ∷ fs) ws)) (sym (append_assoc (port_line margin f.name f.port) (port_lines margin fs) ps))
    (write_says margin f.name ns f.width f.address_width f.port _ _ pass few file.1 file.0.port (writes_say margin ns fs ps ws pass few (All-tail F f fs ok) s))

changes_say : (margin : List ℕ) (net : Net) (ps : Pieces) (ws : List Word) → IsMargin margin → NetOk net → Writable net → Says ps ws → Says (change_lines margin net.parts ++ ps) (change_words net.parts ws)
changes_say margin net ps ws pass k n s =
    subst (λ (qs : Pieces). Says qs (change_words net.parts ws)) (sym (append_assoc (update_lines margin net.parts.regs) (port_lines margin net.parts.files) ps))
    (updates_say margin net.nodes net.parts.regs _ _ pass k.count n.regs (writes_say margin net.nodes net.parts.files ps ws pass k.count n.files s))

values_say : (ns : List Node) (rs : List NetReg) (ps : Pieces) (ws : List Word) → All (λ r. RegOk ns r × IsWritten r.name) rs → Says ps ws → Says (reset_lines rs ++ ps) (each_words value_words rs ws)
values_say ns = each_says reset_lines value_words (λ r. RegOk ns r × IsWritten r.name) refl
    (λ r rs ps ws ok s. ate 6 refl (spells_name r.name _ _ ok.1 refl (ate 3 refl (spells_literal r.start _ _ ok.0.start refl (ate 2 refl s)))))

four_pass : IsMargin (codes "    ")
four_pass = record { passes = λ text vs s. ate 4 refl s }

six_pass : IsMargin (codes "      ")
six_pass = record { passes = λ text vs s. ate 6 refl s }

body_says : (reset : Bool) (net : Net) (ps : Pieces) (ws : List Word) → NetOk net → Writable net → Says ps ws → Says (body_lines reset net.parts ++ ps) (body_words reset net.parts ws)
body_says false net ps ws k n s = changes_say (codes "    ") net ps ws four_pass k n s
body_says true net ps ws k n s =
    let p = net.parts in
    let last = codes "    end\n" ∷ [] in
    let changes = change_lines (codes "      ") p ++ last in
    let v1 = keyword keywords.End ∷ ws in
    let v2 = change_words p v1 in
    let v3 = keyword keywords.End ∷ keyword keywords.Else ∷ keyword keywords.Begin ∷ v2 in
    let says1 : Says (last ++ ps) v1 = ate 6 refl s in
    let says2 : Says (changes ++ ps) v2 =
    subst (λ (qs : Pieces). Says qs v2) (sym (append_assoc (change_lines (codes "      ") p) last ps)) (changes_say (codes "      ") net (last ++ ps) v1 six_pass k n says1) in
    let says3 : Says ((codes "    end else begin\n" ∷ changes) ++ ps) v3 = ate 10 refl says2 in
    ate 12 refl
    (subst (λ (qs : Pieces). Says qs (each_words value_words p.regs v3)) (sym (append_assoc (reset_lines p.regs) (codes "    end else begin\n" ∷ changes) ps)) (values_say net.nodes p.regs ((codes "    end else begin\n" ∷ changes) ++ ps) v3 n.regs says3))

wide_short : (net : Net) → NetOk net → (i : ℕ) → wide net.nodes i ≤ 64
unfolding wide
wide_short net k i = go net.nodes i (λ j h. (k.right j h).at_most)
  where
    go : (ns : List Node) (i : ℕ) → ((j : ℕ) → j < length ns → (get_or ns j no_node).width ≤ 64) → (get_or ns i no_node).width ≤ 64
    go [] i h = omega arith
    go (n ∷ ns) zero h = h 0 (omega arith)
    go (n ∷ ns) (suc i) h = go ns i (λ j l. h (suc j) (omega arith))

-- The canonical text has these tokens.
pub canon_says : (net : Net) → NetOk net → IsNamed net → Spells (canon net) (net_words net)
unfolding canon
canon_says net k named =
    let n = writable net k named in
    let p = net.parts in
    let few = k.count in
    let short = wide_short net k in
    let full = k.parts.full in let ue = k.parts.ue in let back = k.parts.back in
    let p1 : Pieces = codes "  end\nendmodule\n" ∷ [] in
    let p2 : Pieces = codes "  end\n  always @(posedge clk) begin\n" ∷ (body_lines p.reset p ++ p1) in
    let p3 : Pieces = codes "  initial begin\n" ∷ (start_lines p.regs ++ (fill_lines p.files ++ p2)) in
    let s1 : Says p1 w1 = ate 6 refl spells_nothing in
    let s2 : Says p2 (w2 p) = ate 17 refl (body_says p.reset net p1 w1 k n s1) in
    let s3 : Says p3 (w3 p) = ate 6 refl (starts_say net.nodes p.regs (fill_lines p.files ++ p2) (fill_words p.files (w2 p)) n.regs (fills_say net.nodes p.files p2 (w2 p) n.files s2)) in
    let p4 : Pieces = out_line (codes "back") p.back ++ p3 in
    let p5 : Pieces = out_line (codes "ue") p.ue ++ p4 in
    let p6 : Pieces = out_line (codes "full") p.full ++ p5 in
    let s4 : Says p4 (w4 p) = out_says (codes "back") p.back p3 (w3 p) (omega arith) (λ qs vs s. ate 8 refl s) s3 in
    let s5 : Says p5 (w5 p) = out_says (codes "ue") p.ue p4 (w4 p) (omega arith) (λ qs vs s. ate 8 refl s) s4 in
    let s6 : Says p6 (w6 p) = out_says (codes "full") p.full p5 (w5 p) (omega arith) (λ qs vs s. ate 8 refl s) s5 in
    let p7 : Pieces = node_lines p 0 net.nodes ++ p6 in
    let s7 : Says p7 (w7 net) = nodes_say net 0 net.nodes p6 (w6 p) n short (omega arith) (all_right net k) s6 in
    let p8 : Pieces = integer_line p.files ++ p7 in
    let v8 = integer_words p.files (w7 net) in
    let s8 : Says p8 v8 = integer_says p.files p7 (w7 net) s7 in
    let p9 : Pieces = file_lines p.files ++ p8 in
    let v9 = each_words file_words p.files v8 in
    let s9 : Says p9 v9 = files_say net.nodes p.files p8 v8 n.files s8 in
    header_says net.nodes p (reg_lines p.regs ++ p9) (w8 net) n.name k.parts.ext_at_most short n.samples (regs_say net.nodes p.regs p9 v9 n.regs s9)
