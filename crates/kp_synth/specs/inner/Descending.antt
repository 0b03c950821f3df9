-- From the top stage down.
use Rattle.std.specs.Prelude.{◌≡◌, ℕ, suc, List, [], ◌∷◌}
use Rattle.kp_ast.specs.declared.tree.Job.{Job}
use Rattle.kp_pipeline.specs.Pipeline.{above}
use Rattle.kp_machine.specs.{Machine.machine_of, Slots.pipes_of, Slots.hints_of}
use Rattle.kp_net.specs.{declared.node.NodeId.NodeId, Growth.Held, Growth.Kept, Growth.Wire, Netlist.Net}
use Rattle.kp_build.specs.Names.{Scope}
use Rattle.kp_synth_registers.specs.{declared.outcome.Outcome.Outcome, Meaning.IsTest, Meaning.Says}
use Rattle.kp_synth_stage.specs.{declared.row.Source.Source, Rows.SourcesOk, Work.SlotsHave}
use Rattle.kp_synth.specs.{declared.pipeline_stage.Entered.Entered, Known.Named, inner.Seeing.SeesAbove, inner.Seeing.PipesIn, inner.Seeing.HintsIn, inner.Whole.Few}

-- the nodes of the inputs of stage k
pub record EnteredOk (job : Job) (p : Held) (k : ℕ) (e : Entered) : Type 0 where
  pub pipes : SlotsHave p (pipes_of job.decls) e.pipes.items
  pub pipe_values : PipesIn job p e.pipes.items k
  pub hints : SlotsHave p (hints_of job.decls) e.hints.items
  pub hint_values : HintsIn job p e.hints.items
  pub full_wire : Wire p e.full 1
  pub full_is_test : IsTest job p e.full (λ st i. (st.stage k).full)
  pub ext_wire : Wire p e.ext 1
  pub ext_is_test : IsTest job p e.ext (λ st i. i.ext k)

-- what stage k sees of the stages above it
pub record Faces (job : Job) (p : Held) (ss : List Source) (higher : NodeId) (k : ℕ) : Type 0 where
  pub sources : SourcesOk job p ss
  pub few : Few job k ss
  pub sees : SeesAbove job p ss k
  pub wire : Wire p higher 1
  pub is_test : IsTest job p higher (λ st i. (above (machine_of job) st i k).stall)

-- the stages from k on have these nodes
abbrev pub SayFrom : Job → Held → ℕ → List Outcome → Type 0
SayFrom job p k [] = Unit {0}
SayFrom job p k (o ∷ os) = Says job p k o × SayFrom job p (suc k) os

-- and their names these
abbrev pub NamedFrom : Job → Held → ℕ → List Scope → Type 0
NamedFrom job p k [] = Unit {0}
NamedFrom job p k (env ∷ envs) = Named job p k env × NamedFrom job p (suc k) envs

-- a netlist has all nodes of a pool, and at most m more
pub record Contains (p : Held) (m : ℕ) (net : Net) : Type 0 where
  pub pool : Held
  pub nodes : net.nodes ≡ pool.nodes
  pub kept : Kept p pool m
