-- THE ENDS OF PATHS: what registers take at the end of a cycle, and whether they do; what is written to files, where, and whether it is; and, where files are
-- outside, the addresses of the words that are read. Each belongs to the stage that computes it; the addresses are listed after the last stage.
use Rattle.std.specs.Prelude.{ℕ, zero, suc, ◌-◌, Bool, true, false, ◌==◌, List, [], ◌∷◌, ◌++◌, length, get_or, Option, Some, None, if◌then◌else◌}
use Rattle.kp_ast.specs.declared.tree.Job.{Job}
use Rattle.kp_machine.specs.{Slots.targets_of, Slots.is_register, Machine.machine_of, Machine.files_before}
use Rattle.kp_net.specs.declared.node.{NodeId.NodeId, Node.Node, Kind.Kind, Kind.TheVariants.Word, Kind.TheVariants.Reg, Kind.TheVariants.Mux}
use Rattle.kp_net.specs.{declared.netlist.WritePort.WritePort, Netlist.Net, Parts.no_reg, Parts.no_file}
use Rattle.kp_design.specs.{declared.layout.Port.Port, Numbers.target_at, Fits.port_at}
use Rattle.kp_synth_registers.specs.{declared.key.Key.Key, Keys.keys_of, Keys.key_at}
use Rattle.kp_synth_registers.specs.declared.key.Key.TheVariants.{Visible, Full, Pipe, Valid, Value, Pending, Guess, Hint}
use Rattle.kp_depth.specs.declared.ends.{End.End, Sort.Sort, Holder.Holder}
use Rattle.kp_depth.specs.declared.ends.Sort.TheVariants.{Data, Control}
use Rattle.kp_depth.specs.declared.ends.Holder.TheVariants.{Register, File, Address}
use Rattle.kp_depth.specs.{Delay.kind_of, Paths.kind_at}

-- the stage that writes a target, or 0 if none does
abbrev pub port_stage : Option Port → ℕ
port_stage None = 0
port_stage (Some p) = p.write

-- THE STAGE that computes what the register of a key takes
abbrev pub stage_of : Job → Key → ℕ
stage_of job (Visible t) = port_stage (port_at job t)
stage_of job (Full k) = k - 1
stage_of job (Pipe x k) = k - 1
stage_of job (Valid t k) = k - 1
stage_of job (Value t k) = k - 1
stage_of job (Pending g k) = k - 1
stage_of job (Guess g k) = k - 1
stage_of job (Hint h) = (machine_of job).hint_stage h

-- bits that the stalls are computed from are control
abbrev pub sort_of : Key → Sort
sort_of (Full k) = Control
sort_of (Valid t k) = Control
sort_of (Pending g k) = Control
sort_of _ = Data

abbrev pub end_of : ℕ → Holder → Sort → NodeId → End
end_of stage holder sort node = record { stage = stage; sort = sort; holder = holder; node = node }

-- A REGISTER that takes a node: of a choice between a new value and its own the new value and the test, else the node.
abbrev pub is_own : ℕ → Kind → Bool
is_own r (Reg s) = r == s
is_own r _ = false

abbrev pub next_ends : List Node → ℕ → Sort → ℕ → NodeId → Kind → List End
next_ends ns k sort r next (Mux test a b) =
    if is_own r (kind_of ns b) then end_of k (Register r) Control test ∷ end_of k (Register r) sort a ∷ [] else end_of k (Register r) sort next ∷ []
next_ends ns k sort r next _ = end_of k (Register r) sort next ∷ []

abbrev pub register_ends : Job → Net → ℕ → List End
register_ends job net r =
    let next = (get_or net.parts.regs r no_reg).next in
    next_ends net.nodes (stage_of job (key_at job r)) (sort_of (key_at job r)) r next (kind_of net.nodes next)

-- A FILE, by the number of its target
abbrev pub write_ends : ℕ → ℕ → Option WritePort → List End
write_ends k f None = []
write_ends k f (Some p) = end_of k (File f) Control p.enable ∷ end_of k (File f) Data p.address ∷ end_of k (File f) Data p.value ∷ []

abbrev pub target_ends : Job → Net → ℕ → List End
target_ends job net t =
    let f = files_before (targets_of job.decls) t in
    if is_register (target_at job t) then [] else write_ends (port_stage (port_at job t)) f (get_or net.parts.files f no_file).port

-- A WORD that is read outside, by its node
abbrev pub word_end : ℕ → Kind → List End
word_end k (Word f a) = end_of k (Address f) Data a ∷ []
word_end k _ = []

abbrev pub word_ends : Job → Net → ℕ → List End
word_ends job net i = word_end job.stages.value (kind_at net.nodes i)

-- those of the first n
abbrev pub each_below : (ℕ → List End) → ℕ → List End
each_below f zero = []
each_below f (suc n) = each_below f n ++ f n

-- THE ENDS of a netlist of a job
abbrev pub ends_of : Job → Net → Bool → List End
ends_of job net inside =
    each_below (register_ends job net) (length (keys_of job))
    ++ (each_below (target_ends job net) (length (targets_of job.decls))
    ++ (if inside then [] else each_below (word_ends job net) (length net.nodes)))
