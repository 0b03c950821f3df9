-- WHAT THE NAMES OF THE STAGES MEAN in a netlist: each has a node with its word.
use Rattle.std.specs.Prelude.{◌≡◌, ◌<◌, ℕ, suc, true, List, [], ◌∷◌, length, get_or, Some}
use Rattle.kp_ast.specs.{Expressions.look_up, declared.tree.Job.Job}
use Rattle.kp_ast.specs.Expressions as values
use Rattle.kp_pipeline.specs.Pipeline.{PipelineState, Inputs, above}
use Rattle.kp_width.specs.Names.{Sense, find}
use Rattle.kp_machine.specs.Machine.{machine_of}
use Rattle.kp_net.specs.{Growth.Held, Netlist.Net, Nodes.Cells}
use Rattle.kp_build.specs.Names.{AreInside, Scope, word_of}
use Rattle.kp_synth_registers.specs.{declared.outcome.Outcome.Outcome, Holding.Holds}
use Rattle.kp_synth_stage.specs.{Known.names_after, Scopes.is_bound, Scopes.scope_at, Work.stmts_at}
use Rattle.kp_synth_next.specs.Control.{AllSay}

-- the words of the names in stage k: of its pipes and its samples, and of its lets and reads, where a read has the truth that the stage sees
abbrev pub names_in : Job → PipelineState → Inputs → ℕ → values.Values
names_in job st i k = names_after job k (above (machine_of job) st i k).truth st.hints (st.stage k).instruction.pipes i.samples

-- these nodes have the words of the names of stage k
pub record Named (job : Job) (p : Held) (k : ℕ) (env : Scope) : Type 0 where
  pub inside : AreInside p env
  pub means : (c : Cells) (st : PipelineState) (i : Inputs) → Holds job c st i
      → (x : List ℕ) (m : Sense) → find (scope_at job k (length (stmts_at job k))) x ≡ Some m → is_bound m.kind ≡ true
      → word_of c p env x ≡ look_up (names_in job st i k) x

-- the default for a stage that doesn't exist
abbrev pub no_names : Scope
no_names = record { decls = []; names = [] }

-- WHAT THE STAGES OF A NETLIST MEAN: these are the nodes of what each stage does, and of its names
pub record HasStages (net : Net) (job : Job) (outs : List Outcome) (names : List Scope) : Type 0 where
  pub pool : Held
  pub nodes : net.nodes ≡ pool.nodes
  pub says : AllSay job pool outs
  pub count : length names ≡ job.stages.value
  pub named : (k : ℕ) → k < job.stages.value → Named job pool k (get_or names k no_names)
