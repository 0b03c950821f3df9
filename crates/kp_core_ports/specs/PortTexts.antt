-- THE TEXTS OF PORTS: what a line that asks for ports adds to the header of a module, and the line that it adds to its body.
use Rattle.std.specs.Prelude.{ℕ, ◌-◌, List, [], ◌∷◌, ◌++◌, get_or, codes, decimal}
use Rattle.kp_ast.specs.declared.tree.Job.{Job}
use Rattle.kp_net.specs.{declared.netlist.NetReg.NetReg, Netlist.Net, Parts.no_reg}
use Rattle.kp_vlog.specs.Canon.{text_of}
use Rattle.kp_design.specs.Numbers.{target_at, pipe_at}
use Rattle.kp_synth_registers.specs.{Keys.place_of, declared.key.Key.Key, declared.key.Key.TheVariants.Pipe}
use Rattle.kp_core_ports.specs.declared.port.Ask.{Ask}
use Rattle.kp_core_ports.specs.declared.port.Ask.TheVariants.{Show, Peek, Load, Probe, Next, Commit}
use Rattle.kp_core_ports.specs.declared.port.Port.{Port}

-- `,` and `  output wire [7:0] o_R`, in a line of its own, or `  input wire [4:0] pa_F`
unfoldable pub wire_head : List ℕ → List ℕ
wire_head direction = text_of (codes ",\n  " ∷ direction ∷ codes " wire [" ∷ [])

unfoldable pub wire_tail : ℕ → List ℕ → List ℕ → List ℕ
wire_tail width prefix label = text_of (decimal (width - 1) ∷ codes ":0] " ∷ prefix ∷ label ∷ [])

abbrev pub wire : List ℕ → ℕ → List ℕ → List ℕ → List ℕ
wire direction width prefix label = wire_head direction ++ wire_tail width prefix label

abbrev pub output : ℕ → List ℕ → List ℕ → List ℕ
output width prefix label = wire (codes "output") width prefix label

abbrev pub input : ℕ → List ℕ → List ℕ → List ℕ
input width prefix label = wire (codes "input") width prefix label

-- `,` and `  input wire le_F`
unfoldable pub enable : List ℕ → List ℕ
enable label = text_of (codes ",\n  input wire le_" ∷ label ∷ [])

-- in the header
abbrev pub header_for : Job → List ℕ → Ask → List ℕ
header_for job label (Show t) = output (target_at job t).width (codes "o_") label
header_for job label (Peek t) = input (target_at job t).address (codes "pa_") label ++ output (target_at job t).width (codes "p_") label
header_for job label (Load t) = enable label ++ (input (target_at job t).address (codes "la_") label ++ input (target_at job t).width (codes "l_") label)
header_for job label (Probe x k) = output (pipe_at job x).width (codes "o_") label
header_for job label (Next x k) = output (pipe_at job x).width (codes "d_") label
header_for job label Commit = codes ",\n  output wire commit"

-- the register of a key
abbrev pub register_at : Net → Job → Key → NetReg
register_at net job key = get_or net.parts.regs (place_of job key) no_reg

-- in the body: `  assign o_R = r_R;`
unfoldable pub show_line : List ℕ → List ℕ
show_line label = text_of (codes "  assign o_" ∷ label ∷ codes " = r_" ∷ label ∷ codes ";\n" ∷ [])

-- `  assign p_F = f_F[pa_F];`
unfoldable pub peek_line : List ℕ → List ℕ
peek_line label = text_of (codes "  assign p_" ∷ label ∷ codes " = f_" ∷ label ∷ codes "[pa_" ∷ label ∷ codes "];\n" ∷ [])

-- `  always @(posedge clk) if (rst && le_F) f_F[la_F] <= l_F;`
unfoldable pub load_test : List ℕ → List ℕ
load_test label = text_of (codes "  always @(posedge clk) if (rst && le_" ∷ label ∷ codes ") " ∷ [])

unfoldable pub load_update : List ℕ → List ℕ
load_update label = text_of (codes "f_" ∷ label ∷ codes "[la_" ∷ label ∷ codes "] <= l_" ∷ label ∷ codes ";\n" ∷ [])

abbrev pub load_line : List ℕ → List ℕ
load_line label = load_test label ++ load_update label

-- `  assign o_P_k = q_5;`
unfoldable pub probe_line : List ℕ → NetReg → List ℕ
probe_line label reg = text_of (codes "  assign o_" ∷ label ∷ codes " = " ∷ reg.name ∷ codes ";\n" ∷ [])

-- `  assign d_P_k = n17;`
unfoldable pub next_line : List ℕ → NetReg → List ℕ
next_line label reg = text_of (codes "  assign d_" ∷ label ∷ codes " = n" ∷ decimal reg.next.0 ∷ codes ";\n" ∷ [])

-- `  assign commit = ue[4];`
unfoldable pub commit_line : ℕ → List ℕ
commit_line stages = text_of (codes "  assign commit = ue[" ∷ decimal (stages - 1) ∷ codes "];\n" ∷ [])

abbrev pub line_for : Net → Job → List ℕ → Ask → List ℕ
line_for net job label (Show t) = show_line label
line_for net job label (Peek t) = peek_line label
line_for net job label (Load t) = load_line label
line_for net job label (Probe x k) = probe_line label (register_at net job (Pipe x k))
line_for net job label (Next x k) = next_line label (register_at net job (Pipe x k))
line_for net job label Commit = commit_line job.stages.value

abbrev pub header_text : Job → Port → List ℕ
header_text job p = header_for job p.label p.ask

abbrev pub line_text : Net → Job → Port → List ℕ
line_text net job p = line_for net job p.label p.ask
