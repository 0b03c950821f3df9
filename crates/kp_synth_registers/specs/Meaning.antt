-- WHAT A NODE MEANS in terms of the state that the cells hold, and the nodes that exist before those of the stages are built.
use Rattle.std.specs.Prelude.{◌≡◌, ℕ, ◌<◌, ◌^◌, ◌%◌, List, [], ◌∷◌, length, get_or, Option, Some, None, Bool, true, false, slice_get}
use Rattle.kp_ast.specs.declared.tree.Job.{Job}
use Rattle.kp_stage.specs.Facts.{stmts_in}
use Rattle.kp_pipeline.specs.{Sequential.PendingGuess, Pipeline.PipelineState, Pipeline.Inputs, Pipeline.outcome, Pipeline.stall, Pipeline.mismatches}
use Rattle.kp_machine.specs.{Slots.targets_of, Slots.pipes_of, Slots.hints_of, Slots.samples_of, Slots.is_register, Machine.machine_of, Machine.files_before}
use Rattle.kp_net.specs.{declared.node.NodeId.NodeId, declared.node.Kind.Kind, Nodes.Cells, Nodes.at, Nodes.on, Widths.no_node}
use Rattle.kp_net.specs.Growth.{Held, Wire, Kept}
use Rattle.kp_net.specs.declared.node.Kind.TheVariants as kinds
use Rattle.kp_synth_registers.specs.declared.{outcome.Made.Made, outcome.Set.Set, outcome.Outcome.Outcome, registers.Reads.Reads}
use Rattle.kp_synth_registers.specs.Holding.{Holds, optional, pending_guess}
use Rattle.kp_design.specs.declared.guess.GuessSlot.{GuessSlot}
use Rattle.kp_design.specs.Numbers.{target_at, pipe_at, hint_at, sample_at, guesses_in}
use Rattle.kp_synth_registers.specs.Keys.{key_width, key_at, keys_of}

-- A node has the value of this test of the state and the inputs.
unfoldable pub IsTest : Job → Held → NodeId → (PipelineState → Inputs → Bool) → Type 0
IsTest job p n f = (c : Cells) (st : PipelineState) (i : Inputs) → Holds job c st i → on c p.nodes n.0 ≡ f st i

-- A node has this value.
unfoldable pub Gives : Job → Held → NodeId → (PipelineState → Inputs → ℕ) → Type 0
Gives job p n f = (c : Cells) (st : PipelineState) (i : Inputs) → Holds job c st i → at c p.nodes n.0 ≡ f st i

-- A bit and a value mean this optional value.
unfoldable pub MayGive : Job → Held → NodeId → NodeId → (PipelineState → Inputs → Option ℕ) → Type 0
MayGive job p bit value f = (c : Cells) (st : PipelineState) (i : Inputs) → Holds job c st i
    → optional (on c p.nodes bit.0) (at c p.nodes value.0) ≡ f st i

-- the node of this number among some nodes
abbrev pub node_at : List NodeId → ℕ → NodeId
node_at ns r = get_or ns r (record { 0 = 0 })

-- A cell that a node reads is one of the netlist of this job.
abbrev pub CellFits : Job → Held → ℕ → Kind → Type 0
CellFits job p k kinds.Ext = k ≡ job.stages.value
CellFits job p k (kinds.Sample x) = (x < length (samples_of job.decls)) × (k ≡ (sample_at job x).width)
CellFits job p k (kinds.Reg r) = (r < length (keys_of job)) × (k ≡ key_width job (key_at job r))
CellFits job p k (kinds.Word f a) = (t : ℕ) × (t < length (targets_of job.decls)) × (is_register (target_at job t) ≡ false)
    × (f ≡ files_before (targets_of job.decls) t) × (k ≡ (target_at job t).width) × Wire p a (target_at job t).address
CellFits job p k _ = Unit {0}

unfoldable pub CellsFit : Job → Held → Type 0
CellsFit job p = (i : ℕ) → i < length p.nodes → CellFits job p (get_or p.nodes i no_node).width (get_or p.nodes i no_node).kind

-- Between p and q at most k nodes were added, and each cell that one of them reads is a cell of the netlist.
pub record Added (job : Job) (p q : Held) (k : ℕ) : Type 0 where
  pub kept : Kept p q k
  pub fits : CellsFit job p → CellsFit job q

-- The nodes that were built before those of the stages: one reads each register, in the order of the keys, one has
-- the value of each sample, and one reads the stall word.
pub record Ready (job : Job) (p : Held) (reads : Reads) : Type 0 where
  pub keys : reads.keys ≡ keys_of job
  pub same : length reads.registers ≡ length (keys_of job)
  pub wires : (r : ℕ) → r < length (keys_of job) → Wire p (node_at reads.registers r) (key_width job (key_at job r))
  pub values : (c : Cells) (r : ℕ) → r < length (keys_of job) → at c p.nodes (node_at reads.registers r).0 ≡ c.reg r % 2 ^ key_width job (key_at job r)
  pub sample_count : length reads.samples ≡ length (samples_of job.decls)
  pub sample_wires : (x : ℕ) → x < length (samples_of job.decls) → Wire p (node_at reads.samples x) (sample_at job x).width
  pub samples : (x : ℕ) → x < length (samples_of job.decls) → Gives job p (node_at reads.samples x) (λ st i. i.samples x)
  pub ext_wire : Wire p reads.ext job.stages.value
  pub ext_value : (c : Cells) → at c p.nodes reads.ext.0 ≡ c.ext % 2 ^ job.stages.value

-- THE OUTCOME OF A STAGE.
abbrev pub put_value : Cells → Held → Option NodeId → Option ℕ
put_value c p None = None
put_value c p (Some n) = Some (at c p.nodes n.0)

abbrev pub set_value : Cells → Held → Option Set → Option ℕ
set_value c p None = None
set_value c p (Some s) = optional (on c p.nodes s.enabled.0) (at c p.nodes s.value.0)

-- the guesses of the guessed reads of a stage that are used
abbrev pub guess_value : Bool → PendingGuess → List PendingGuess → List PendingGuess
guess_value true guess rest = guess ∷ rest
guess_value false guess rest = rest

abbrev pub made_values : Cells → Held → List GuessSlot → List Made → List PendingGuess
made_values c p [] made = []
made_values c p (s ∷ ss) [] = []
made_values c p (s ∷ ss) (m ∷ made) = guess_value (on c p.nodes m.pending.0) (pending_guess s (at c p.nodes m.value.0)) (made_values c p ss made)

abbrev pub PutFits : Held → ℕ → Option NodeId → Type 0
PutFits p w None = Unit {0}
PutFits p w (Some n) = Wire p n w

abbrev pub SetFits : Held → ℕ → Option Set → Type 0
SetFits p w None = Unit {0}
SetFits p w (Some s) = Wire p s.enabled 1 × Wire p s.value w

abbrev pub MadeFit : Held → List GuessSlot → List Made → Type 0
MadeFit p [] [] = Unit {0}
MadeFit p [] (m ∷ made) = ⊥
MadeFit p (s ∷ ss) [] = ⊥
MadeFit p (s ∷ ss) (m ∷ made) = Wire p m.pending 1 × Wire p m.value s.width × MadeFit p ss made

-- The guessed reads of stage k.
unfoldable pub guesses_at : Job → ℕ → List GuessSlot
guesses_at job k = guesses_in job k 0 (stmts_in (slice_get job.blocks k))

-- The nodes o mean what stage k does.
pub record Says (job : Job) (p : Held) (k : ℕ) (o : Outcome) : Type 0 where
  pub stall_wire : Wire p o.stall 1
  pub stall : IsTest job p o.stall (λ st i. stall (machine_of job) st i k)
  pub miss_wire : Wire p o.miss 1
  pub miss : IsTest job p o.miss (λ st i. mismatches (machine_of job) st i k)
  pub put_count : length o.puts ≡ length (pipes_of job.decls)
  pub put_wires : (x : ℕ) → PutFits p (pipe_at job x).width (get_or o.puts x None)
  pub puts : (c : Cells) (st : PipelineState) (i : Inputs) → Holds job c st i → (x : ℕ) → x < length (pipes_of job.decls)
      → put_value c p (get_or o.puts x None) ≡ (outcome (machine_of job) st i k).puts x
  pub set_count : length o.sets ≡ length (targets_of job.decls)
  pub set_wires : (t : ℕ) → SetFits p (target_at job t).width (get_or o.sets t None)
  pub sets : (c : Cells) (st : PipelineState) (i : Inputs) → Holds job c st i → (t : ℕ) → t < length (targets_of job.decls)
      → set_value c p (get_or o.sets t None) ≡ (outcome (machine_of job) st i k).sets t
  pub made_wires : MadeFit p (guesses_at job k) o.made
  pub made : (c : Cells) (st : PipelineState) (i : Inputs) → Holds job c st i
      → made_values c p (guesses_at job k) o.made ≡ (outcome (machine_of job) st i k).guesses
  pub aim_count : length o.aims ≡ length (hints_of job.decls)
  pub aim_wires : (h : ℕ) → PutFits p (hint_at job h).width (get_or o.aims h None)
  pub aims : (c : Cells) (st : PipelineState) (i : Inputs) → Holds job c st i → (h : ℕ) → h < length (hints_of job.decls)
      → put_value c p (get_or o.aims h None) ≡ (outcome (machine_of job) st i k).aims h
