-- A NETLIST SHOWS (IMPLEMENTS) THE PIPELINED MACHINE of a job.
use Rattle.std.specs.Prelude.{◌≡◌, ℕ, zero, suc, ◌-◌, ◌<◌, ◌≤◌, ◌^◌, List, [], ◌∷◌, ◌++◌, map, length, take, drop, get_or, true, false, not, if◌then◌else◌, codes, decimal, All}
use Rattle.std.specs.List.{filter}
use Rattle.kp_base.specs.declared.row.Row.{Row as NetRow}
use Rattle.kp_ast.specs.declared.tree.Job.{Job}
use Rattle.kp_pipeline.specs.Machine.{State as MachineState}
use Rattle.kp_pipeline.specs.{Pipeline.pipeline_start, Rows.Row, Rows.Trace, Rows.bits, Rows.pipe, Rows.state_after as pipeline_after, Trimming.trimmed}
use Rattle.kp_stage.specs.Start.{start_of}
use Rattle.kp_machine.specs.Slots.{Slot, targets_of, is_register, samples_of}
use Rattle.kp_machine.specs.Machine.{machine_of, state_of, start_hints, pipe_of, registers_before, files_before}
use Rattle.kp_net.specs.declared.netlist.{NetReg.NetReg, NetFile.NetFile, Port.Port}
use Rattle.kp_net.specs.Netlist.{Net, Input, State, cells_of, start_of as net_start, state_after, states_from, rows_from, run, last_of}
use Rattle.kp_net.specs.Widths.{wide}
use Rattle.kp_design.specs.{Numbers.target_at, Spans.is_alive}
use Rattle.kp_synth_registers.specs.Keys.{keys_of}
use Rattle.kp_synth_registers.specs.Holding.{Holds, word_bit, inputs_of}

-- A name and a width, and for a file the width of its addresses.
abbrev pub named_with : List ℕ → Slot → Slot
named_with prefix s = record { name = prefix ++ s.name; width = s.width; address = s.address }

abbrev pub reg_slot : NetReg → Slot
reg_slot r = record { name = r.name; width = r.start.width; address = 0 }

abbrev pub file_slot : NetFile → Slot
file_slot f = record { name = f.name; width = f.width; address = f.address_width }

abbrev pub port_slot : Port → Slot
port_slot s = record { name = s.name; width = s.width; address = 0 }

abbrev pub registers_of : Job → List Slot
registers_of job = filter is_register (targets_of job.decls)

abbrev pub files_of : Job → List Slot
files_of job = filter (λ s. not (is_register s)) (targets_of job.decls)

-- q_0, q_1 and so on: n names from number i on
abbrev pub other_names : ℕ → ℕ → List (List ℕ)
other_names i zero = []
other_names i (suc n) = (codes "q_" ++ decimal i) ∷ other_names (suc i) n

-- The names of a netlist: the visible registers of the job come first, as r_R, and then q_0, q_1 and so on. The files are f_F,
-- and the ports of samples s_Q.
pub record NamedBy (net : Net) (job : Job) : Type 0 where
  pub name : net.parts.name ≡ codes "m_" ++ job.name.name
  pub visible : map reg_slot (take (length (registers_of job)) net.parts.regs) ≡ map (named_with (codes "r_")) (registers_of job)
  pub others : map (λ (r : NetReg). r.name) (drop (length (registers_of job)) net.parts.regs) ≡ other_names 0 (length net.parts.regs - length (registers_of job))
  pub files : map file_slot net.parts.files ≡ map (named_with (codes "f_")) (files_of job)
  pub samples : map port_slot net.parts.samples ≡ map (named_with (codes "s_")) (samples_of job.decls)

-- The word of a target at an address in a state of the netlist.
abbrev pub shown_word : Job → State → MachineState
shown_word job s t a =
    if is_register (target_at job t) then get_or s.regs (registers_before (targets_of job.decls) t) 0
    else get_or (get_or s.files (files_before (targets_of job.decls) t) []) a 0

-- A row with its words as bits, for n stages.
abbrev pub row_bits : ℕ → NetRow → Row
row_bits n r = record { full = bits (word_bit r.full) n 0; ue = bits (word_bit r.ue) n 0; back = r.back }

abbrev pub no_state : State
no_state = record { regs = []; files = [] }

-- Over these inputs its rows are those of the pipeline, and in each state each r_R and f_F has the visible value of R
-- and F. A register is read at address 0, the only one below 2 ^ 0.
pub record ShowsOver (net : Net) (job : Job) (ins : List Input) : Type 0 where
  pub rows : map (row_bits job.stages.value) (run net ins).rows ≡ (pipe_of job (map (inputs_of job) ins)).rows
  pub visible : (T t a : ℕ) → T ≤ length ins → t < length (targets_of job.decls) → a < 2 ^ (target_at job t).address
      → shown_word job (get_or (run net ins).states T no_state) t a ≡ (pipe_of job (map (inputs_of job) ins)).visible T t a

-- THE STATE AFTER A RESET of the targets: a register has its start value again, and the words of a file are unchanged.
abbrev pub left_by_reset : Job → MachineState → MachineState
left_by_reset job s t a = if is_register (target_at job t) then state_of job (start_of job) t a else s t a

-- The pipeline that starts with the state after a reset in a state of the netlist.
abbrev pub pipe_anew : Job → State → List Input → Trace
pipe_anew job s ins = pipe (machine_of job) (left_by_reset job (shown_word job s)) (start_hints job) (map (inputs_of job) ins)

-- In a state each file has a word for each of its addresses, with its width.
pub record HasWords (net : Net) (job : Job) (s : State) : Type 0 where
  pub count : length s.files ≡ length net.parts.files
  pub sizes : (t : ℕ) → t < length (targets_of job.decls) → is_register (target_at job t) ≡ false
      → length (get_or s.files (files_before (targets_of job.decls) t) []) ≡ 2 ^ (target_at job t).address
  pub fits : (t a : ℕ) → t < length (targets_of job.decls) → is_register (target_at job t) ≡ false → a < 2 ^ (target_at job t).address
      → get_or (get_or s.files (files_before (targets_of job.decls) t) []) a 0 < 2 ^ (target_at job t).width

-- After a reset of this state its rows are those of that pipeline, and in each state each r_R and f_F has the visible value.
pub record ShowsAnew (net : Net) (job : Job) (s : State) (i : Input) (ins : List Input) : Type 0 where
  pub rows : map (row_bits job.stages.value) (rows_from net (state_after net i s) ins) ≡ (pipe_anew job s ins).rows
  pub visible : (T t a : ℕ) → T ≤ length ins → t < length (targets_of job.decls) → a < 2 ^ (target_at job t).address
      → shown_word job (get_or (states_from net (state_after net i s) ins) T no_state) t a ≡ (pipe_anew job s ins).visible T t a

-- ITS REGISTERS HOLD THE PIPELINE over these inputs, from a state of the netlist on: in the state after any number of cycles, whatever comes in then,
-- they hold the state of the pipeline, which starts with these values of the targets, after as many cycles. A pipe is 0 past its last use.
pub record HoldsFrom (net : Net) (job : Job) (s : State) (v : MachineState) (ins : List Input) : Type 0 where
  pub keys : length net.parts.regs ≡ length (keys_of job)
  pub holds : (T : ℕ) (i : Input) → T ≤ length ins
      → Holds job (cells_of i (get_or (states_from net s ins) T no_state))
      (trimmed (is_alive job) (pipeline_after (machine_of job) (pipeline_start v (start_hints job)) (map (inputs_of job) ins) T)) (inputs_of job i)

-- For every list of inputs that never reset it; and in any state with complete files, for every such list after a
-- reset. Each state that it reaches contains all words of the files.
pub record Shows (net : Net) (job : Job) : Type 0 where
  pub names : NamedBy net job
  pub ext : net.parts.ext ≡ job.stages.value
  pub full : wide net.nodes net.parts.full.0 ≡ job.stages.value
  pub ue : wide net.nodes net.parts.ue.0 ≡ job.stages.value
  pub back : wide net.nodes net.parts.back.0 ≡ 4
  pub reset : net.parts.reset ≡ true
  pub runs : (ins : List Input) → All (λ (i : Input). i.reset ≡ false) ins → ShowsOver net job ins
  pub words : (ins : List Input) → HasWords net job (last_of net ins)
  pub anew : (s : State) (i : Input) (ins : List Input) → HasWords net job s → i.reset ≡ true → All (λ (j : Input). j.reset ≡ false) ins → ShowsAnew net job s i ins
  pub holds : (ins : List Input) → All (λ (i : Input). i.reset ≡ false) ins → HoldsFrom net job (net_start net) (state_of job (start_of job)) ins
  pub holds_anew : (s : State) (i : Input) (ins : List Input) → HasWords net job s → i.reset ≡ true → All (λ (j : Input). j.reset ≡ false) ins
      → HoldsFrom net job (state_after net i s) (left_by_reset job (shown_word job s)) ins
