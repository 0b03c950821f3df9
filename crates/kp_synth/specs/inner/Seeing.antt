-- What the nodes of a stage mean in the pipeline.
use Rattle.std.specs.Prelude.{ℕ, ◌≡◌, ◌<◌, ◌^◌, cond, List, length}
use Rattle.kp_ast.specs.declared.tree.Job.{Job}
use Rattle.kp_pipeline.specs.Pipeline.{PipelineState, Inputs, above, outcome, hits, candidate_hits, forwarded}
use Rattle.kp_machine.specs.Machine.{machine_of}
use Rattle.kp_net.specs.{declared.node.NodeId.NodeId, Nodes.Cells, Nodes.at, Nodes.on, Growth.Held}
use Rattle.kp_synth_registers.specs.{Holding.Holds, Holding.optional, Meaning.Gives, Meaning.guesses_at, Meaning.node_at}
use Rattle.kp_design.specs.Numbers.{target_at}
use Rattle.kp_synth_stage.specs.{declared.row.Row.Row, declared.row.Source.Source, declared.work.Work.Work, Rows.Sees, Rows.row_hits, Rows.source_view}
use Rattle.kp_synth_stage.specs.Work.{Means}

-- the sources mean what stage k sees of the stages above it
unfoldable pub SeesAbove : Job → Held → List Source → ℕ → Type 0
SeesAbove job p ss k = (c : Cells) (st : PipelineState) (i : Inputs) → Holds job c st i → Sees job c p ss (above (machine_of job) st i k).truth

-- these nodes have the values of the pipes in stage k, of the samples, and of the hints
unfoldable pub PipesIn : Job → Held → List NodeId → ℕ → Type 0
PipesIn job p ns k = (x : ℕ) → x < length ns → Gives job p (node_at ns x) (λ st i. (st.stage k).instruction.pipes x)

unfoldable pub SamplesIn : Job → Held → List NodeId → Type 0
SamplesIn job p ns = (x : ℕ) → x < length ns → Gives job p (node_at ns x) (λ st i. i.samples x)

unfoldable pub HintsIn : Job → Held → List NodeId → Type 0
HintsIn job p ns = (h : ℕ) → h < length ns → Gives job p (node_at ns h) (λ st i. st.hints h)

-- the nodes mean what stage k does in this cycle
unfoldable pub Computes : Job → Held → Work → ℕ → Type 0
Computes job p w k = (c : Cells) (st : PipelineState) (i : Inputs) → Holds job c st i → Means job c p (guesses_at job k) w (outcome (machine_of job) st i k)

-- what a row (bypass entry) means for the reads of target t below stage k: whether the stage hits, and the value that it forwards
unfoldable pub RowMeans : Job → Held → Row → ℕ → ℕ → Type 0
RowMeans job p r k t = (c : Cells) (st : PipelineState) (i : Inputs) → Holds job c st i
    → ((a : ℕ) → a < 2 ^ (target_at job t).address → row_hits c p r a ≡ hits (machine_of job) st k t a)
    × (optional (on c p.nodes r.ok.0) (at c p.nodes r.value.0) ≡ forwarded (machine_of job) st i k t)

-- what a target means for reads below stage k, given what it means for reads in stage k
unfoldable pub Nearer : Job → ℕ → ℕ → Held → Source → Held → Source → Type 0
Nearer job k t p s q s' = (c : Cells) (st : PipelineState) (i : Inputs) → Holds job c st i → (a : ℕ) → a < 2 ^ (target_at job t).address
    → source_view c q s' a ≡ cond (candidate_hits (machine_of job) st k t a) (forwarded (machine_of job) st i k t) (source_view c p s a)
