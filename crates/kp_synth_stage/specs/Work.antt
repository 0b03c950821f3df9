-- WHAT THE NODES OF A STAGE MEAN.
use Rattle.std.specs.Prelude.{List, None, Option, get_or, length, slice_get, sum_by, ℕ, ◌*◌, ◌+◌, ◌<◌, ◌≡◌}
use Rattle.kp_ast.specs.declared.tree.{Job.Job, Stmt.Stmt, StmtKind.StmtKind}
use Rattle.kp_stage.specs.{Facts.stmts_in, Sizes.size_of_kind}
use Rattle.kp_pipeline.specs.Sequential.{StageOutcome, run}
use Rattle.kp_machine.specs.{Machine.stage_tree, Slots.Slot, Slots.hints_of, Slots.pipes_of, Slots.samples_of, Slots.targets_of}
use Rattle.kp_net.specs.{Growth.Held, Growth.Wire, Nodes.Cells, Nodes.at, Nodes.on, declared.node.NodeId.NodeId}
use Rattle.kp_design.specs.{Numbers.hint_at, Numbers.no_slot, Numbers.pipe_at, Numbers.target_at, declared.guess.GuessSlot.GuessSlot}
use Rattle.kp_synth_registers.specs.Meaning.{MadeFit, PutFits, SetFits, guesses_at, made_values, node_at, put_value, set_value}
use Rattle.kp_synth_stage.specs.{Rows.Sees, declared.row.Source.Source, declared.slots.Slots.Slots, declared.work.Work.Work}
use Rattle.kp_ast.specs.declared.tree.StmtKind.TheVariants as stmts

-- the statements of stage k
abbrev pub stmts_at : Job → ℕ → List Stmt
stmts_at job k = stmts_in (slice_get job.blocks k)

-- the targets, pipes, samples and hints of a job
pub record AreSlots (job : Job) (s : Slots) : Type 0 where
  pub targets : s.targets.items ≡ targets_of job.decls
  pub pipes : s.pipes.items ≡ pipes_of job.decls
  pub samples : s.samples.items ≡ samples_of job.decls
  pub hints : s.hints.items ≡ hints_of job.decls

-- nodes of these slots, each of its width
pub record SlotsHave (p : Held) (slots : List Slot) (ns : List NodeId) : Type 0 where
  pub count : length ns ≡ length slots
  pub wires : (i : ℕ) → i < length ns → Wire p (node_at ns i) (get_or slots i no_slot).width

-- the nodes are in the pool and have their widths
pub record Fits (job : Job) (p : Held) (slots : List GuessSlot) (w : Work) : Type 0 where
  pub hazard : Wire p w.hazard 1
  pub put_count : length w.puts.items ≡ length (pipes_of job.decls)
  pub puts : (x : ℕ) → PutFits p (pipe_at job x).width (get_or w.puts.items x None)
  pub set_count : length w.sets.items ≡ length (targets_of job.decls)
  pub sets : (t : ℕ) → SetFits p (target_at job t).width (get_or w.sets.items t None)
  pub made : MadeFit p slots w.made.items
  pub aim_count : length w.aims.items ≡ length (hints_of job.decls)
  pub aims : (h : ℕ) → PutFits p (hint_at job h).width (get_or w.aims.items h None)

-- they mean this outcome
pub record Means (job : Job) (c : Cells) (p : Held) (slots : List GuessSlot) (w : Work) (o : StageOutcome) : Type 0 where
  pub hazard : on c p.nodes w.hazard.0 ≡ o.hazard
  pub puts : (x : ℕ) → x < length (pipes_of job.decls) → put_value c p (get_or w.puts.items x None) ≡ o.puts x
  pub sets : (t : ℕ) → t < length (targets_of job.decls) → set_value c p (get_or w.sets.items t None) ≡ o.sets t
  pub made : made_values c p slots w.made.items ≡ o.guesses
  pub aims : (h : ℕ) → h < length (hints_of job.decls) → put_value c p (get_or w.aims.items h None) ≡ o.aims h

-- these nodes have these values
abbrev pub NodesHave : Cells → Held → List NodeId → (ℕ → ℕ) → Type 0
NodesHave c p ns values = (i : ℕ) → i < length ns → at c p.nodes (node_at ns i).0 ≡ values i

-- WHAT A BLOCK MEANS: the nodes of stage k mean what the stage does, with the truths from the sources, where the
-- pipes, the samples and the hints have the values of these nodes
unfoldable pub Does : Job → ℕ → Held → List NodeId → List NodeId → List NodeId → List Source → Held → Work → Type 0
Does job k p pipes samples hints ss q w = (c : Cells) (v : ℕ → ℕ → Option ℕ) (values taken aims : ℕ → ℕ) → Sees job c p ss v
    → NodesHave c p pipes values → NodesHave c p samples taken → NodesHave c p hints aims
    → Means job c q (guesses_at job k) w (run v aims (stage_tree job k taken values))

-- BOUNDS. The nodes of a statement other than those of its expressions: a read needs a few for each stage above, and a set a few.
abbrev pub extra_of : ℕ → StmtKind → ℕ
extra_of n (stmts.Read r) = 20 * n
extra_of n (stmts.Set e x when) = 4
extra_of n _ = 0

abbrev pub cost_of : Job → StmtKind → ℕ
cost_of job x = 8 * size_of_kind job.decls x + extra_of job.stages.value x

abbrev pub costs_of : Job → List Stmt → ℕ
costs_of job xs = sum_by (λ x. cost_of job x.kind) xs
