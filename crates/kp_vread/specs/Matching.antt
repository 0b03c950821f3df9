-- How a netlist differs from a job: the first difference, in the order in which they are compared.
use Rattle.std.specs.Prelude.{ℕ, ◌+◌, ◌==◌, List, [], ◌∷◌, ◌++◌, length, take, codes, Bool, true, false, not, ◌&&◌, ◌||◌, if◌then◌else◌, Option, Some, None}
use Rattle.kp_base.specs.{First.first, Refusal.v_rule, declared.refusal.Refusal.Refusal}
use Rattle.kp_ast.specs.declared.tree.{Decl.Decl, Job.Job}
use Rattle.kp_ast.specs.declared.tree.Decl.TheVariants as decls
use Rattle.kp_machine.specs.Slots.{Slot, slot, targets_of, is_register}
use Rattle.kp_net.specs.{declared.netlist.Port.Port, declared.netlist.NetReg.NetReg, declared.netlist.NetFile.NetFile, declared.netlist.Parts.Parts, Names.same}
use Rattle.kp_implements.specs.Naming.{register_name, file_name}
use Rattle.kp_vread.specs.declared.job_match.Mismatch.{Mismatch}
use Rattle.kp_vread.specs.declared.job_match.Mismatch.TheVariants as differs

-- V6, at the first byte of a text
abbrev pub not_of_job : Refusal
not_of_job = v_rule 6 (record { line = 1; col = 1 })

-- the first register with this name has this width
abbrev pub has_register : List NetReg → List ℕ → ℕ → Bool
has_register [] name width = false
has_register (r ∷ rs) name width = if same r.name name then r.start.width == width else has_register rs name width

-- the first file with this name has these widths
abbrev pub has_file : List NetFile → List ℕ → (width address : ℕ) → Bool
has_file [] name width address = false
has_file (f ∷ fs) name width address = if same f.name name then (f.width == width) && (f.address_width == address) else has_file fs name width address

-- each of the targets exists
abbrev pub has_target : Parts → Slot → Bool
has_target p s = if is_register s then has_register p.regs (register_name s) s.width else has_file p.files (file_name s) s.width s.address

abbrev pub has_targets : Parts → List Slot → Bool
has_targets p [] = true
has_targets p (s ∷ ss) = has_target p s && has_targets p ss

-- the name is that of a register, or of a file, among the targets
abbrev pub names_register : List Slot → List ℕ → Bool
names_register [] name = false
names_register (s ∷ ss) name = (is_register s && same name (register_name s)) || names_register ss name

abbrev pub names_file : List Slot → List ℕ → Bool
names_file [] name = false
names_file (s ∷ ss) name = (not (is_register s) && same name (file_name s)) || names_file ss name

-- the name begins with `r_`
abbrev pub is_visible : List ℕ → Bool
is_visible name = same (take 2 name) (codes "r_")

-- the port of a sample
abbrev pub is_port_of : Port → Slot → Bool
is_port_of p s = same p.name (codes "s_" ++ s.name) && (p.width == s.width)

-- the first entry that fails a test, by its number, where the entries are numbered from i on
abbrev pub failing : {X : Type 0} → (ℕ → Mismatch) → (X → Bool) → ℕ → List X → Option Mismatch
failing fact test i [] = None
failing fact test i (x ∷ xs) = if test x then failing fact test (i + 1) xs else Some (fact i)

-- the ports are those of the samples, in the order of declaration
abbrev pub of_ports : ℕ → List Decl → List Port → Option Mismatch
of_ports i [] [] = None
of_ports i [] (p ∷ ps) = Some (differs.OtherPorts (length (p ∷ ps)))
of_ports i (decls.Sample n width stage ∷ ds) [] = Some (differs.Absent i)
of_ports i (decls.Sample n width stage ∷ ds) (p ∷ ps) = if is_port_of p (slot n width 0) then of_ports (i + 1) ds ps else Some (differs.Absent i)
of_ports i (d ∷ ds) ps = of_ports (i + 1) ds ps

-- each declared register and each declared file exists, with its widths
abbrev pub of_targets : Parts → ℕ → List Decl → Option Mismatch
of_targets p = failing (λ i. differs.Absent i) (λ d. has_targets p (targets_of (d ∷ [])))

-- each register whose name begins with `r_` is declared, and each file is
abbrev pub of_registers : List Slot → ℕ → List NetReg → Option Mismatch
of_registers ss = failing (λ i. differs.OtherRegister i) (λ r. not (is_visible r.name) || names_register ss r.name)

abbrev pub of_files : List Slot → ℕ → List NetFile → Option Mismatch
of_files ss = failing (λ i. differs.OtherFile i) (λ f. names_file ss f.name)

-- the stall word has a bit for each stage
abbrev pub of_stages : Parts → Job → Option Mismatch
of_stages p job = if p.ext == job.stages.value then None else Some (differs.Stages p.ext job.stages.value)

abbrev pub first_mismatch : Parts → Job → Option Mismatch
first_mismatch p job = first (of_stages p job ∷ of_ports 0 job.decls p.samples ∷ of_targets p 0 job.decls
    ∷ of_registers (targets_of job.decls) 0 p.regs ∷ of_files (targets_of job.decls) 0 p.files ∷ [])
