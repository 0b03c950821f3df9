-- THE PARTS that are built from the next nodes, the write ports and the start state.
use Rattle.std.specs.Prelude.{ℕ, suc, ◌+◌, ◌-◌, ◌<◌, ◌^◌, List, [], ◌∷◌, ◌++◌, length, drop, get_or, slice_index, All, Option, None, true, codes, decimal}
use Rattle.kp_bits.specs.Word.{Word, word}
use Rattle.kp_ast.specs.declared.tree.{Decl.Decl, Job.Job}
use Rattle.kp_ast.specs.declared.tree.Decl.TheVariants as decls
use Rattle.kp_stage.specs.declared.start.Start.{Start}
use Rattle.kp_machine.specs.{Slots.hints_of, Machine.hint_starts}
use Rattle.kp_net.specs.declared.{node.NodeId.NodeId, netlist.Port.Port, netlist.WritePort.WritePort, netlist.NetReg.NetReg, netlist.NetFile.NetFile}
use Rattle.kp_net.specs.{declared.netlist.Parts.Parts, Growth.Held, Netlist.Net}
use Rattle.kp_net.specs.Names.{IsSpelled, is_module_name, is_reg_name, is_file_name, is_sample_name}
use Rattle.kp_synth_registers.specs.{declared.key.Key.Key, declared.key.Key.TheVariants.Hint}
use Rattle.kp_design.specs.Numbers.{target_at, sample_at, hint_at}
use Rattle.kp_synth_registers.specs.Keys.{key_width, keys_of}
use Rattle.kp_synth_next.specs.{declared.control.RowNodes.RowNodes, Nexts.no_node_id}

abbrev pub no_word : Word
no_word = record { width = 0; value = 0 }

-- how many registers and files are declared
abbrev pub reg_count : List Decl → ℕ
reg_count [] = 0
reg_count (decls.Reg n width start ∷ ds) = suc (reg_count ds)
reg_count (_ ∷ ds) = reg_count ds

abbrev pub file_count : List Decl → ℕ
file_count [] = 0
file_count (decls.File n width address ∷ ds) = suc (file_count ds)
file_count (_ ∷ ds) = file_count ds

-- the visible registers from number i on
abbrev pub visible_regs : List Word → List NodeId → ℕ → List Decl → List NetReg
visible_regs starts nexts i [] = []
visible_regs starts nexts i (decls.Reg n width start ∷ ds) =
    record { name = codes "r_" ++ n.name; start = get_or starts i no_word; next = get_or nexts i no_node_id } ∷ visible_regs starts nexts (i + 1) ds
visible_regs starts nexts i (_ ∷ ds) = visible_regs starts nexts i ds

-- the start value of a register that has no name in the job, where the hints start with these values
abbrev pub first_start : List ℕ → Key → ℕ
first_start hints (Hint h) = slice_index hints h
first_start hints _ = 0

-- such a register with number r, the first of which has the number `from`
abbrev pub other_reg : Job → List NodeId → ℕ → ℕ → Key → NetReg
other_reg job nexts from r key = record {
  name = codes "q_" ++ decimal (r - from);
  start = word (key_width job key) (first_start (hint_starts job.decls) key);
  next = get_or nexts r no_node_id;
}

abbrev pub other_regs : Job → List NodeId → ℕ → ℕ → List Key → List NetReg
other_regs job nexts from r [] = []
other_regs job nexts from r (key ∷ keys) = other_reg job nexts from r key ∷ other_regs job nexts from (r + 1) keys

abbrev pub net_regs : Job → List Word → List NodeId → List NetReg
net_regs job starts nexts =
    visible_regs starts nexts 0 job.decls ++ other_regs job nexts (reg_count job.decls) (reg_count job.decls) (drop (reg_count job.decls) (keys_of job))

-- each hint's start value fits it
abbrev pub FirstsFit : Job → Type 0
FirstsFit job = (h : ℕ) → h < length (hints_of job.decls) → slice_index (hint_starts job.decls) h < 2 ^ (hint_at job h).width

-- the files from number f on, where t is the number of the next target
abbrev pub net_files : Job → List (List ℕ) → List (Option WritePort) → ℕ → ℕ → List Decl → List NetFile
net_files job words ports t f [] = []
net_files job words ports t f (decls.Reg n width start ∷ ds) = net_files job words ports (t + 1) f ds
net_files job words ports t f (decls.File n width address ∷ ds) =
    record {
      name = codes "f_" ++ n.name;
      width = (target_at job t).width;
      address_width = (target_at job t).address;
      words = get_or words f [];
      port = get_or ports t None;
    } ∷ net_files job words ports (t + 1) (f + 1) ds
net_files job words ports t f (_ ∷ ds) = net_files job words ports t f ds

-- the ports of the samples from number x on
abbrev pub net_ports : Job → ℕ → List Decl → List Port
net_ports job x [] = []
net_ports job x (decls.Sample n width stage ∷ ds) = record { name = codes "s_" ++ n.name; width = (sample_at job x).width } ∷ net_ports job (x + 1) ds
net_ports job x (_ ∷ ds) = net_ports job x ds

-- all parts together
abbrev pub net_parts : Job → Start → List NodeId → List (Option WritePort) → RowNodes → Parts
net_parts job start nexts ports row = record {
  name = codes "m_" ++ job.name.name;
  ext = job.stages.value;
  reset = true;
  samples = net_ports job 0 job.decls;
  regs = net_regs job start.regs nexts;
  files = net_files job start.files ports 0 0 job.decls;
  full = row.full;
  ue = row.ue;
  back = row.back;
}

abbrev pub made_net : Job → Held → Start → List NodeId → List (Option WritePort) → RowNodes → Net
made_net job p start nexts ports row = record { nodes = p.nodes; parts = net_parts job start nexts ports row }

-- each part that has a name has a valid one
abbrev pub SpelledReg : NetReg → Type 0
SpelledReg r = IsSpelled is_reg_name r.name

abbrev pub SpelledFile : NetFile → Type 0
SpelledFile f = IsSpelled is_file_name f.name

abbrev pub SpelledPort : Port → Type 0
SpelledPort s = IsSpelled is_sample_name s.name

unfoldable pub AllSpelled : {X : Type 0} → (X → Type 0) → List X → Type 0
AllSpelled P xs = All P xs

pub record Spelled (p : Parts) : Type 0 where
  pub name : IsSpelled is_module_name p.name
  pub samples : AllSpelled SpelledPort p.samples
  pub regs : AllSpelled SpelledReg p.regs
  pub files : AllSpelled SpelledFile p.files
