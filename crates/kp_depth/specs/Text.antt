-- THE TEXT of the depths: a table with a row for each stage, and then its longest paths, each from its first node to its end. A path is a list of wires of the
-- module that the netlist is written as, with the time when each is there, and beside a wire the statements whose value it is. Nodes that cost nothing and that
-- no statement makes aren't listed.
use Rattle.std.specs.Prelude.{ℕ, zero, suc, ◌+◌, ◌-◌, ◌/◌, ◌%◌, ◌==◌, max, Bool, true, false, not, ◌&&◌, ◌||◌, nat_lt, is_none, List, [], ◌∷◌, ◌++◌, length, fold, flat_map, get_or, replicate, codes, decimal, Option, Some, None, if◌then◌else◌}
use Rattle.kp_ast.specs.declared.tree.Job.{Job}
use Rattle.kp_net.specs.declared.{node.Kind.Kind}
use Rattle.kp_net.specs.declared.node.Kind.TheVariants.{Const, Ext, Sample, Reg, Word, Not, Binary, Mux, Concat, Slice}
use Rattle.kp_net.specs.{Netlist.Net, Parts.no_port, Parts.no_reg, Parts.no_file}
use Rattle.kp_synth_registers.specs.Keys.{key_at}
use Rattle.kp_vlog.specs.Canon.{sign, text_of, wire}
use Rattle.kp_core_ports.specs.Names.{stored}
use Rattle.kp_wires.specs.{Statements.statements, declared.wire.Signal.Signal, declared.wire.Signal.TheVariants.Read, declared.wire.Wire.Wire}
use Rattle.kp_depth.specs.declared.{ends.Holder.Holder, ends.Holder.TheVariants.Register, ends.Holder.TheVariants.File, ends.Holder.TheVariants.Address, time.Input.Input, time.Time.Time, stages.Path.Path, stages.Row.Row, stages.Depths.Depths}
use Rattle.kp_depth.specs.{Depths.no_row, Paths.kind_at, Statements.named_at, Statements.origin, Times.known_time}

-- a number of hundredths: `12.05`
unfoldable pub hundredths : ℕ → List ℕ
hundredths n = decimal (n / 100) ++ (codes "." ++ (decimal (n % 100 / 10) ++ decimal (n % 10)))

abbrev pub at_right : ℕ → List ℕ → List ℕ
at_right width text = replicate (width - length text) 32 ++ text

-- what a register holds, and what takes the end of a path
abbrev pub register_text : Job → Net → ℕ → List ℕ
register_text job net r = (get_or net.parts.regs r no_reg).name ++ (codes " (" ++ (stored job (key_at job r) ++ codes ")"))

abbrev pub holder_text : Job → Net → Holder → List ℕ
holder_text job net (Register r) = register_text job net r
holder_text job net (File f) = (get_or net.parts.files f no_file).name
holder_text job net (Address f) = codes "the address of " ++ (get_or net.parts.files f no_file).name

abbrev pub at_left : ℕ → List ℕ → List ℕ
at_left width text = text ++ replicate (width - length text) 32

-- THE WIRE of a node: what it is assigned
abbrev pub assigned : Job → Net → Kind → List ℕ
assigned job net (Const v) = codes "constant"
assigned job net Ext = codes "ext"
assigned job net (Sample s) = (get_or net.parts.samples s no_port).name
assigned job net (Reg r) = register_text job net r
assigned job net (Word f a) = (get_or net.parts.files f no_file).name ++ (codes "[" ++ (wire a ++ codes "]"))
assigned job net (Binary op a b) = wire a ++ (sign op ++ wire b)
assigned job net (Mux test a b) = wire test ++ (codes " ? " ++ (wire a ++ (codes " : " ++ wire b)))
assigned job net (Not a) = codes "~" ++ wire a
assigned job net (Slice a hi lo) = wire a ++ (codes "[" ++ (decimal hi ++ (codes ":" ++ (decimal lo ++ codes "]"))))
assigned job net (Concat parts) = codes "{..}"

abbrev pub wire_text : Job → Net → ℕ → Kind → List ℕ
wire_text job net i kind = codes "n" ++ (decimal i ++ (codes " = " ++ assigned job net kind))

-- THE STATEMENTS beside the wire of a node, after a part of the path that comes from this stage. The value of a read comes through a bypass if that is a later
-- one.
unfoldable pub bypass_from : ℕ → List ℕ
bypass_from m = text_of (codes ", bypass from stage " ∷ decimal m ∷ [])

abbrev pub bypass : ℕ → ℕ → Signal → List ℕ
bypass from k (Read j) = if nat_lt k from then bypass_from from else []
bypass from k signal = []

abbrev pub note : Job → ℕ → Wire → List ℕ
note job from w = statements job w.stage w.signal ++ bypass from w.stage w.signal

abbrev pub notes : Job → List Wire → ℕ → ℕ → List ℕ
notes job wires from i = flat_map (note job from) (named_at wires i)

abbrev pub beside : List ℕ → List ℕ → List ℕ
beside text [] = text
beside text (c ∷ cs) = at_left 32 text ++ (c ∷ cs)

-- THE LINE of a node. What is within a chain has no time of its own.
abbrev pub time_text : Bool → Time → List ℕ
time_text within v = if within then [] else hundredths v.arrival

abbrev pub wire_line : Job → Net → ℕ → List ℕ → Kind → List ℕ → List ℕ
wire_line job net i time kind said = at_right 9 time ++ (codes "  " ++ (beside (wire_text job net i kind) said ++ codes "\n"))

-- it is listed if it costs something, begins the path or is the value of a statement
abbrev pub costs : Bool → Time → Bool
costs within v = not within && (nat_lt v.chain.latest v.arrival || is_none v.chain.last)

abbrev pub is_listed : Bool → Time → List ℕ → Bool
is_listed within v [] = costs within v
is_listed within v (c ∷ cs) = true

abbrev pub line_of : Job → Net → Bool → ℕ → Time → List ℕ → List ℕ
line_of job net within i v said =
    if is_listed within v said then wire_line job net i (time_text within v) (kind_at net.nodes i) said else []

abbrev pub step_text : Job → Net → List Wire → List Time → ℕ → Bool → ℕ → List ℕ
step_text job net wires times from within i = line_of job net within i (known_time times i) (notes job wires from i)

abbrev pub steps_text : Job → Net → List Wire → List Time → List Input → List ℕ
steps_text job net wires times [] = []
steps_text job net wires times (x ∷ path) = steps_text job net wires times path ++ step_text job net wires times (origin job net wires path) x.within x.node.0

-- THE PATHS of stage k
abbrev pub stage_name : Job → ℕ → List ℕ
stage_name job k = if k == job.stages.value then codes "words" else codes "stage " ++ decimal k

abbrev pub path_name : Job → ℕ → List ℕ → List ℕ
path_name job k sort = codes "\n" ++ (stage_name job k ++ sort)

abbrev pub path_end : Job → Net → Path → List ℕ
path_end job net p = hundredths p.length ++ (codes " to " ++ (holder_text job net p.end.holder ++ codes "\n"))

abbrev pub path_lines : Job → Net → List Wire → List Time → Path → List ℕ
path_lines job net wires times p =
    steps_text job net wires times p.steps.items ++ step_text job net wires times (origin job net wires p.steps.items) false p.end.node.0

abbrev pub path_text : Job → Net → List Wire → List Time → ℕ → List ℕ → Option Path → List ℕ
path_text job net wires times k sort None = []
path_text job net wires times k sort (Some p) = path_name job k sort ++ (path_end job net p ++ path_lines job net wires times p)

abbrev pub paths_text : Job → Net → List Wire → List Time → ℕ → Row → List ℕ
paths_text job net wires times k row =
    path_text job net wires times k (codes ", data: ") row.to_data ++ path_text job net wires times k (codes ", control: ") row.to_control

-- THE ROW of stage k
abbrev pub length_text : Option Path → List ℕ
length_text None = codes "-"
length_text (Some p) = hundredths p.length

abbrev pub row_name : ℕ → ℕ → List ℕ
row_name stages k = if k == stages then codes "words" else decimal k

abbrev pub length_of : Option Path → ℕ
length_of None = 0
length_of (Some p) = p.length

abbrev pub holder_at : Option Path → Option Holder
holder_at None = None
holder_at (Some p) = Some p.end.holder

-- what takes the end of the longer one of two paths
abbrev pub longer_to : Option Path → Option Path → Option Holder
longer_to None b = holder_at b
longer_to (Some a) b = if nat_lt a.length (length_of b) then holder_at b else Some a.end.holder

abbrev pub end_text : Job → Net → Option Holder → List ℕ
end_text job net None = codes "-"
end_text job net (Some h) = holder_text job net h

abbrev pub numbers_text : ℕ → ℕ → Row → List ℕ
numbers_text stages k row =
    at_right 5 (row_name stages k) ++ (at_right 9 (length_text row.to_data) ++ (at_right 9 (length_text row.to_control) ++ (at_right 12 (decimal row.bits) ++ codes "   ")))

abbrev pub row_text : Job → Net → ℕ → Row → List ℕ
row_text job net k row = numbers_text job.stages.value k row ++ (end_text job net (longer_to row.to_data row.to_control) ++ codes "\n")

-- the longest of all
abbrev pub longer : ℕ → Row → ℕ
longer n row = max n (max (length_of row.to_data) (length_of row.to_control))

abbrev pub longest_of : List Row → ℕ
longest_of rows = fold longer 0 rows

-- the texts of the first n rows
abbrev pub texts_below : (ℕ → Row → List ℕ) → List Row → ℕ → List ℕ
texts_below f rows zero = []
texts_below f rows (suc n) = texts_below f rows n ++ f n (get_or rows n no_row)

abbrev pub title_text : List ℕ → ℕ → List ℕ
title_text name stages = name ++ (codes ": " ++ (decimal stages ++ codes " stages"))

unfoldable pub table_head : List ℕ
table_head = codes "\n\nstage     data  control  bits after   longest path to\n"

unfoldable pub longest_head : List ℕ
longest_head = codes ", longest path "

abbrev pub columns_text : ℕ → List ℕ
columns_text longest = longest_head ++ (hundredths longest ++ table_head)

abbrev pub head_text : List ℕ → (stages longest : ℕ) → List ℕ
head_text name stages longest = title_text name stages ++ columns_text longest

-- THE TEXT, where this is the table of wires of the stages.
unfoldable pub depth_text : Job → Net → List Wire → Depths → List ℕ
depth_text job net wires d =
    let rows = d.rows.items in
    head_text job.name.name job.stages.value (longest_of rows)
    ++ (texts_below (row_text job net) rows (length rows) ++ texts_below (paths_text job net wires d.times.all.items) rows (length rows))
