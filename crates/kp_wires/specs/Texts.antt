-- THE TEXTS of the table of wires: as lines, and as names in a scope for each stage of a module.
use Rattle.std.specs.Prelude.{ℕ, ◌-◌, ◌==◌, Bool, false, if◌then◌else◌, List, [], ◌∷◌, ◌++◌, length, get_or, slice_get, flat_map, codes, decimal, Option, Some, None}
use Rattle.kp_ast.specs.declared.tree.{Job.Job, Stmt.Stmt, StmtKind.StmtKind}
use Rattle.kp_ast.specs.declared.tree.StmtKind.TheVariants as stmts
use Rattle.kp_machine.specs.Slots.{targets_of}
use Rattle.kp_net.specs.{Netlist.Net, Parts.no_reg, Widths.wide, declared.netlist.NetReg.NetReg}
use Rattle.kp_vlog.specs.Canon.{text_of}
use Rattle.kp_design.specs.Numbers.{guess_at}
use Rattle.kp_synth_registers.specs.{Keys.key_at, Keys.keys_of, declared.key.Key.Key}
use Rattle.kp_synth_registers.specs.declared.key.Key.TheVariants.{Visible, Full, Pipe, Valid, Value, Pending, Guess, Hint}
use Rattle.kp_synth_stage.specs.Work.{stmts_at}
use Rattle.kp_core_ports.specs.Names.{hint_name, pipe_name, target_name}
use Rattle.kp_wires.specs.{Table.below, declared.wire.Signal.Signal, declared.wire.Wire.Wire}
use Rattle.kp_wires.specs.declared.wire.Signal.TheVariants.{Let, Read, Put, When, Set, Aim, Stall, WrongGuess}

-- ---- a signal by its kind and its name

-- the name that statement j of stage k binds
abbrev pub bound_name : StmtKind → List ℕ
bound_name (stmts.Let name e) = name.name
bound_name (stmts.Read r) = r.name.name
bound_name _ = []

abbrev pub name_in : Option Stmt → List ℕ
name_in None = []
name_in (Some s) = bound_name s.kind

abbrev pub stmt_name : Job → ℕ → ℕ → List ℕ
stmt_name job k j = name_in (slice_get (stmts_at job k) j)

-- a kind, a sign between, and a name
unfoldable pub call : List ℕ → List ℕ → List ℕ → List ℕ
call kind sign name = text_of (kind ∷ sign ∷ name ∷ [])

abbrev pub called : List ℕ → Job → ℕ → Signal → List ℕ
called sign job k (Let j) = call (codes "let") sign (stmt_name job k j)
called sign job k (Read j) = call (codes "read") sign (stmt_name job k j)
called sign job k (Put x) = call (codes "put") sign (pipe_name job x)
called sign job k (When t) = call (codes "when") sign (target_name job t)
called sign job k (Set t) = call (codes "set") sign (target_name job t)
called sign job k (Aim h) = call (codes "aim") sign (hint_name job h)
called sign job k Stall = codes "stall"
called sign job k WrongGuess = codes "wrong_guess"

-- ---- the lines: `n91 let op 1`, `n147 stall 1`

unfoldable pub row_head : ℕ → List ℕ
row_head node = text_of (codes "n" ∷ decimal node ∷ codes " " ∷ [])

unfoldable pub row_tail : ℕ → List ℕ
row_tail stage = text_of (codes " " ∷ decimal stage ∷ codes "\n" ∷ [])

abbrev pub wire_row : Job → Wire → List ℕ
wire_row job w = row_head w.node.0 ++ (called (codes " ") job w.stage w.signal ++ row_tail w.stage)

unfoldable pub wires_text : Job → List Wire → List ℕ
wires_text job wires = flat_map (wire_row job) wires

-- ---- the names in a scope for each stage

-- `      wire [7:0] `
unfoldable pub name_head : ℕ → List ℕ
name_head width = text_of (codes "      wire [" ∷ decimal (width - 1) ∷ codes ":0] " ∷ [])

-- ` = q_2;`
unfoldable pub register_tail : NetReg → List ℕ
register_tail reg = text_of (codes " = " ∷ reg.name ∷ codes ";\n" ∷ [])

-- ` = n91;`
unfoldable pub node_tail : ℕ → List ℕ
node_tail node = text_of (codes " = n" ∷ decimal node ∷ codes ";\n" ∷ [])

-- whether a register is one of stage k
abbrev pub is_in_stage : ℕ → Key → Bool
is_in_stage k (Visible t) = false
is_in_stage k (Full j) = j == k
is_in_stage k (Pipe x j) = j == k
is_in_stage k (Valid t j) = j == k
is_in_stage k (Value t j) = j == k
is_in_stage k (Pending g j) = j == k
is_in_stage k (Guess g j) = j == k
is_in_stage k (Hint h) = false

-- its name. A guess has its number, since several reads may guess a register.
unfoldable pub guess_call : List ℕ → List ℕ → ℕ → List ℕ
guess_call kind name g = text_of (kind ∷ name ∷ codes "_" ∷ decimal g ∷ [])

abbrev pub register_called : Job → Key → List ℕ
register_called job (Visible t) = []
register_called job (Full k) = codes "is_full"
register_called job (Pipe x k) = call (codes "pipe") (codes "_") (pipe_name job x)
register_called job (Valid t k) = call (codes "is_set") (codes "_") (target_name job t)
register_called job (Value t k) = call (codes "result") (codes "_") (target_name job t)
register_called job (Pending g k) = guess_call (codes "is_guessed_") (target_name job (guess_at job g).register) g
register_called job (Guess g k) = guess_call (codes "guess_") (target_name job (guess_at job g).register) g
register_called job (Hint h) = []

abbrev pub register_line : Job → Key → NetReg → List ℕ
register_line job key reg = name_head reg.start.width ++ (register_called job key ++ register_tail reg)

abbrev pub own_register : Net → Job → ℕ → ℕ → List ℕ
own_register net job k r = if is_in_stage k (key_at job r) then register_line job (key_at job r) (get_or net.parts.regs r no_reg) else []

abbrev pub wire_line : Net → Job → Wire → List ℕ
wire_line net job w = name_head (wide net.nodes w.node.0) ++ (called (codes "_") job w.stage w.signal ++ node_tail w.node.0)

abbrev pub own_wire : Net → Job → ℕ → Wire → List ℕ
own_wire net job k w = if w.stage == k then wire_line net job w else []

-- the scope of stage k: its registers, its wires, and whether it updates and is squashed
unfoldable pub scope_head : ℕ → List ℕ
scope_head k = text_of (codes "    if (1) begin : stage_" ∷ decimal k ∷ codes "\n" ∷ [])

unfoldable pub updates_line : ℕ → List ℕ
updates_line k = text_of (codes "      wire [0:0] updates = ue[" ∷ decimal k ∷ codes "];\n" ∷ [])

unfoldable pub squashed_line : ℕ → List ℕ
squashed_line k = text_of (codes "      wire [0:0] squashed = back > 4'd" ∷ decimal k ∷ codes ";\n    end\n" ∷ [])

abbrev pub registers_in : Net → Job → ℕ → List ℕ
registers_in net job k = below (own_register net job k) (length (keys_of job))

abbrev pub scope_text : Net → Job → List Wire → ℕ → List ℕ
scope_text net job wires k = scope_head k ++ (registers_in net job k ++ (flat_map (own_wire net job k) wires ++ (updates_line k ++ squashed_line k)))

unfoldable pub lines_head : List ℕ
lines_head = codes "  // Names for viewers of waveforms, in a scope for each stage.\n  /* verilator lint_off UNUSEDSIGNAL */\n  generate\n"

unfoldable pub lines_tail : List ℕ
lines_tail = codes "  endgenerate\n  /* verilator lint_on UNUSEDSIGNAL */\n"

unfoldable pub named_lines : Net → Job → List Wire → List ℕ
named_lines net job wires = lines_head ++ (below (scope_text net job wires) job.stages.value ++ lines_tail)
