-- WHICH VERILOG A COMMAND REJECTS: the first of the rules V1 to V6 that the text or the texts of its input violate.
use Rattle.std.specs.Prelude.{◌⊎◌, ◌≤◌, ℕ, List, length, take, drop, Ok, Err}
use Rattle.kp_base.specs.declared.refusal.Refusal.{Refusal}
use Rattle.kp_ast.specs.declared.tree.Job.{Job}
use Rattle.kp_net.specs.Netlist.{Net}
use Rattle.kp_vlog.specs.Splitting.{FirstEnds}
use Rattle.kp_words.specs.declared.commands.Command.{Command}
use Rattle.kp_words.specs.declared.commands.Command.TheVariants.{Read, Watch, Compare}
use Rattle.kp_frontend.specs.Judging.{JudgesHead, most_bytes}
use Rattle.kp_tool.specs.{Read.ReadsVerilog, Compared.ReadsModule}

-- the first of two modules violates a rule, or the first one violates none and the second one does
abbrev pub MisreadsModules : Job → List ℕ → (rest middle : ℕ) → Refusal → Type 0
MisreadsModules job input rest middle refusal =
    ReadsModule job (take middle input) rest (Err refusal)
    ⊎ ((net : Net) × ReadsModule job (take middle input) rest (Ok net) × ReadsModule job input middle (Err refusal))

-- two modules after a job, of which the second one starts where the first one ends
abbrev pub MisreadsPair : List ℕ → Job → ℕ → Refusal → Type 0
MisreadsPair input job rest refusal = (middle : ℕ) × FirstEnds rest (drop rest input) middle × MisreadsModules job input rest middle refusal

-- The first rule of Verilog that the input of a command violates: V1 to V5 for a text alone, and V1 to V6 after a job that violates no rule. The other
-- commands read no Verilog.
abbrev pub Misreads : Command → List ℕ → Refusal → Type 0
Misreads Read input refusal = (length input ≤ most_bytes) × ReadsVerilog input 0 (Err refusal)
Misreads (Watch count) input refusal = (job : Job) × (rest : ℕ) × JudgesHead input (Ok (job, rest)) × ReadsModule job input rest (Err refusal)
Misreads Compare input refusal = (job : Job) × (rest : ℕ) × JudgesHead input (Ok (job, rest)) × MisreadsPair input job rest refusal
Misreads command input refusal = ⊥
