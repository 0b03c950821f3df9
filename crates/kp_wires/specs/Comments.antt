-- A MODULE WITH COMMENTS: each register has one after its declaration, with what it stores, and each wire after its assignment, with the signals that it is.
-- Nothing but comments is added, each from `  //` to the end of its line.
use Rattle.std.specs.Prelude.{ℕ, zero, suc, ◌+◌, ◌-◌, ◌/◌, ◌%◌, ◌==◌, nat_lt, if◌then◌else◌, List, [], ◌∷◌, ◌++◌, length, get_or, flat_map, codes, decimal}
use Rattle.kp_ast.specs.declared.tree.Job.{Job}
use Rattle.kp_net.specs.Netlist.{Net}
use Rattle.kp_synth_registers.specs.Keys.{key_at}
use Rattle.kp_vlog.specs.Canon.{canon, text_of}
use Rattle.kp_core_ports.specs.{Core.with_ports, Core.is_in_line, Names.stored, declared.port.Port.Port}
use Rattle.kp_wires.specs.{Table.below, Texts.called, declared.wire.Wire.Wire}

-- ---- comments at the ends of lines

abbrev pub comment_of : List ℕ → List ℕ
comment_of [] = []
comment_of (c ∷ cs) = codes "  // " ++ flat_map (λ b. if is_in_line b then b ∷ [] else []) (c ∷ cs)

-- the number of the line that contains byte n
abbrev pub next_line : (line byte : ℕ) → ℕ
next_line line byte = if is_in_line byte then line else suc line

abbrev pub line_of : List ℕ → (offset : ℕ) → ℕ
line_of text zero = 0
line_of text (suc n) = next_line (line_of text n) (get_or text n 0)

-- a byte of a line; a comment precedes the line feed
abbrev pub end_of : (ℕ → List ℕ) → ℕ → ℕ → List ℕ
end_of note line byte = if is_in_line byte then [] else comment_of (note line)

abbrev pub byte_text : (ℕ → List ℕ) → ℕ → ℕ → List ℕ
byte_text note line byte = end_of note line byte ++ byte ∷ []

abbrev pub byte_at : (ℕ → List ℕ) → List ℕ → ℕ → List ℕ
byte_at note text n = byte_text note (line_of text n) (get_or text n 0)

-- a text whose line i ends with the comment `note i`, if this isn't empty
abbrev pub with_comments : (ℕ → List ℕ) → List ℕ → List ℕ
with_comments note text = below (byte_at note text) (length text)

-- ---- what is said of a line of a module

-- a wire, in the comment on a node
unfoldable pub entry_tail : ℕ → List ℕ
entry_tail stage = text_of (codes " " ∷ decimal stage ∷ [])

abbrev pub entry : Job → ℕ → Wire → List ℕ
entry job j w = if w.node.0 == j then codes ", " ++ (called (codes " ") job w.stage w.signal ++ entry_tail w.stage) else []

abbrev pub entries : Job → List Wire → ℕ → List ℕ
entries job wires j = flat_map (entry job j) wires

abbrev pub after_two : List ℕ → List ℕ
after_two (a ∷ b ∷ rest) = rest
after_two _ = []

-- A module has a line with its ports, one for each register, one for each file and one for their index, if there are files, and two for each node, the second of
-- which is its assignment.
abbrev pub node_note : Job → List Wire → ℕ → List ℕ
node_note job wires d = if d % 2 == 1 then after_two (entries job wires (d / 2)) else []

abbrev pub file_lines : Net → ℕ
file_lines net = if length net.parts.files == 0 then 0 else length net.parts.files + 1

abbrev pub rest_note : Net → Job → List Wire → ℕ → List ℕ
rest_note net job wires d = if nat_lt d (file_lines net) then [] else node_note job wires (d - file_lines net)

abbrev pub body_note : Net → Job → List Wire → ℕ → List ℕ
body_note net job wires r = if nat_lt r (length net.parts.regs) then stored job (key_at job r) else rest_note net job wires (r - length net.parts.regs)

abbrev pub note_at : Net → Job → List Wire → ℕ → List ℕ
note_at net job wires zero = []
note_at net job wires (suc r) = body_note net job wires r

unfoldable pub commented_text : Net → Job → List Port → List Wire → List ℕ
commented_text net job ports wires = with_ports net job ports (with_comments (note_at net job wires) (canon net)) []
