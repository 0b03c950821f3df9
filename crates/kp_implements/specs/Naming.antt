-- THE NAMES that a netlist has for what a job declares, and where it stores the values of the targets.
use Rattle.std.specs.Prelude.{ℕ, zero, suc, List, [], ◌∷◌, ◌++◌, get_or, map, not, if◌then◌else◌, codes, decimal}
use Rattle.std.specs.List.{filter}
use Rattle.kp_ast.specs.declared.tree.Job.{Job}
use Rattle.kp_machine.specs.{Slots.Slot, Slots.targets_of, Slots.samples_of, Slots.is_register, Words.target}
use Rattle.kp_net.specs.{declared.netlist.Port.Port, Netlist.Net, Netlist.State, Names.same}
use Rattle.kp_pipeline.specs.Machine.{State as MachineState}

-- The module of a job J is m_J. A register R is r_R, a file F is f_F, and the port of a sample Q is s_Q.
abbrev pub module_name : Job → List ℕ
module_name job = codes "m_" ++ job.name.name

abbrev pub register_name : Slot → List ℕ
register_name s = codes "r_" ++ s.name

abbrev pub file_name : Slot → List ℕ
file_name s = codes "f_" ++ s.name

abbrev pub sample_port : Slot → Port
sample_port s = record { name = codes "s_" ++ s.name; width = s.width }

abbrev pub sample_ports : Job → List Port
sample_ports job = map sample_port (samples_of job.decls)

-- All other registers are numbered: q_0, q_1 and so on. These are the names of n of them, from number i on.
abbrev pub hidden_names : ℕ → ℕ → List (List ℕ)
hidden_names i zero = []
hidden_names i (suc n) = (codes "q_" ++ decimal i) ∷ hidden_names (suc i) n

-- The registers and the files of a job, each in the order of declaration.
abbrev pub registers_of : Job → List Slot
registers_of job = filter is_register (targets_of job.decls)

abbrev pub files_of : Job → List Slot
files_of job = filter (λ s. not (is_register s)) (targets_of job.decls)

abbrev pub register_names : Net → List (List ℕ)
register_names net = map (λ r. r.name) net.parts.regs

abbrev pub file_names : Net → List (List ℕ)
file_names net = map (λ f. f.name) net.parts.files

-- The index of the first name in a list that equals this one, or the length of the list if none does.
abbrev pub place_among : List (List ℕ) → List ℕ → ℕ
place_among [] name = 0
place_among (n ∷ names) name = if same n name then 0 else suc (place_among names name)

-- The number of the register, or of the file, that has the name of a target.
abbrev pub register_of : Net → Slot → ℕ
register_of net s = place_among (register_names net) (register_name s)

abbrev pub file_of : Net → Slot → ℕ
file_of net s = place_among (file_names net) (file_name s)

-- The value of a target at an address in a state of the netlist. A register has only address 0.
abbrev pub value_of : Net → State → Slot → ℕ → ℕ
value_of net st s a =
    if is_register s then get_or st.regs (register_of net s) 0 else get_or (get_or st.files (file_of net s) []) a 0

unfoldable pub value_shown : Job → Net → State → MachineState
value_shown job net st t a = value_of net st (target job t) a
