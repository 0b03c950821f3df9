-- A NETLIST SHOWS (IMPLEMENTS) THE PIPELINED MACHINE OF A JOB.
use Rattle.std.specs.Prelude.{◌≡◌, ℕ, ◌<◌, ◌≤◌, true, false, List, [], ◌++◌, length, get_or, map, codes, take}
use Rattle.kp_ast.specs.declared.tree.Job.{Job}
use Rattle.kp_machine.specs.{Machine.pipe_of, Slots.Slot, Slots.targets_of, Slots.is_register, Words.target}
use Rattle.kp_net.specs.{Netlist.Net, Netlist.Input, Parts.no_reg, Parts.no_file, Widths.wide}
use Rattle.kp_sched.specs.Runs.{ShowsAlike}
use Rattle.kp_implements.specs.Naming.{module_name, register_name, file_name, hidden_names, registers_of, files_of, register_names, file_names, register_of, file_of, sample_ports}
use Rattle.kp_implements.specs.Traces.{trace_of, inputs_seen, AreQuiet}

-- The register of a target exists, with its width; and so does the file of another target.
pub record HasRegister (net : Net) (s : Slot) : Type 0 where
  pub there : register_of net s < length net.parts.regs
  pub width : (get_or net.parts.regs (register_of net s) no_reg).start.width ≡ s.width

pub record HasFile (net : Net) (s : Slot) : Type 0 where
  pub there : file_of net s < length net.parts.files
  pub width : (get_or net.parts.files (file_of net s) no_file).width ≡ s.width
  pub address : (get_or net.parts.files (file_of net s) no_file).address_width ≡ s.address

-- The netlist belongs to the job: it has a stall bit for each stage, the job's sample ports, a register r_R for each
-- register R and a file f_F for each file F with their widths, and no other registers and files with such names.
pub record IsOfJob (net : Net) (job : Job) : Type 0 where
  pub ext : net.parts.ext ≡ job.stages.value
  pub samples : net.parts.samples ≡ sample_ports job
  pub registers : (t : ℕ) → t < length (targets_of job.decls) → is_register (target job t) ≡ true → HasRegister net (target job t)
  pub files : (t : ℕ) → t < length (targets_of job.decls) → is_register (target job t) ≡ false → HasFile net (target job t)
  pub no_more_registers : (r : ℕ) → r < length net.parts.regs → take 2 (get_or (register_names net) r []) ≡ codes "r_"
      → (t : ℕ) × (t < length (targets_of job.decls)) × (is_register (target job t) ≡ true) × (get_or (register_names net) r [] ≡ register_name (target job t))
  pub no_more_files : (f : ℕ) → f < length net.parts.files
      → (t : ℕ) × (t < length (targets_of job.decls)) × (is_register (target job t) ≡ false) × (get_or (file_names net) f [] ≡ file_name (target job t))

-- The outputs `full` and `ue` have a bit for each stage, and `back` has 4 for the stage that rolls back.
pub record HasOutputs (net : Net) : Type 0 where
  pub few : net.parts.ext ≤ 12
  pub full : wide net.nodes net.parts.full.0 ≡ net.parts.ext
  pub ue : wide net.nodes net.parts.ue.0 ≡ net.parts.ext
  pub back : wide net.nodes net.parts.back.0 ≡ 4

-- SHOWS: for every list of inputs that never raise the reset, the rows are those of the pipelined machine, and each register and each
-- word of a file has its visible value in every state.
pub record Shows (net : Net) (job : Job) : Type 0 where
  pub name : net.parts.name ≡ module_name job
  pub outputs : HasOutputs net
  pub reset : net.parts.reset ≡ true
  pub of_job : IsOfJob net job
  pub runs : (ins : List Input) → AreQuiet ins → ShowsAlike job (trace_of job net ins) (pipe_of job (inputs_seen job ins))

-- The order of the registers and of the files: the visible ones come first, in the order of declaration, and then all others.
pub record IsInOrder (net : Net) (job : Job) : Type 0 where
  pub others : ℕ
  pub registers : register_names net ≡ map register_name (registers_of job) ++ hidden_names 0 others
  pub files : file_names net ≡ map file_name (files_of job)
