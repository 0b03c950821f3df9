-- What the nodes of all stages mean, from the top stage down.
use Rattle.std.specs.Prelude.{ℕ, suc, ◌≡◌, ◌+◌, ◌^◌, ◌<◌, ◌≤◌, ◌==◌, ◌&&◌, Bool, true, List, [], take, length, get_or, Option, Some, None, slice_get}
use Rattle.kp_ast.specs.declared.tree.Job.{Job}
use Rattle.kp_pipeline.specs.{Sequential.PendingGuess, Pipeline.PipelineState, Pipeline.Inputs, Pipeline.above, Pipeline.outcome, Pipeline.differs}
use Rattle.kp_machine.specs.{Machine.machine_of, Slots.targets_of}
use Rattle.kp_net.specs.{declared.node.NodeId.NodeId, Nodes.Cells, Nodes.on, Growth.Held}
use Rattle.kp_synth_registers.specs.{declared.outcome.Set.Set, Holding.Holds, Holding.some_of, Holding.guess_passes, Meaning.SetFits, Meaning.set_value}
use Rattle.kp_design.specs.{declared.guess.GuessSlot.GuessSlot, Numbers.target_at, Numbers.guesses_of, Numbers.guess_at}
use Rattle.kp_synth_stage.specs.{declared.row.Source.Source, declared.row.Own.Own, Rows.own_value, Rows.SourceOk}
use Rattle.kp_synth.specs.inner.Seeing.{Nearer}

-- whether a result is enabled, by its enable pipe
abbrev pub enabled_by : (ℕ → ℕ) → Option ℕ → Bool
enabled_by values None = true
enabled_by values (Some x) = values x == 1

-- whether it is written at this address; the only address of a register is 0
abbrev pub addressed_by : (ℕ → ℕ) → Option ℕ → ℕ → Bool
addressed_by values None a = true
addressed_by values (Some x) a = values x == a

-- this is the set of target t in stage k
unfoldable pub SetMeans : Job → Held → ℕ → ℕ → Option Set → Type 0
SetMeans job p k t s = (c : Cells) (st : PipelineState) (i : Inputs) → Holds job c st i → set_value c p s ≡ (outcome (machine_of job) st i k).sets t

-- these are the sets of all targets
pub record SetsMean (job : Job) (p : Held) (k : ℕ) (ss : List (Option Set)) : Type 0 where
  pub count : length ss ≡ length (targets_of job.decls)
  pub wires : (t : ℕ) → SetFits p (target_at job t).width (get_or ss t None)
  pub means : (t : ℕ) → t < length (targets_of job.decls) → SetMeans job p k t (get_or ss t None)

-- before stage k each target has at most one row for each stage above it
unfoldable pub Few : Job → ℕ → List Source → Type 0
Few job k ss = (t : ℕ) (s : Source) → slice_get ss t ≡ Some s → length s.rows.items + suc k ≤ job.stages.value

-- what the first m targets mean for reads below stage k, given what they mean for reads in stage k
unfoldable pub AllNearer : Job → ℕ → ℕ → Held → List Source → Held → List Source → Type 0
AllNearer job k m p ss q ss' = (t : ℕ) (s s' : Source) → t < m → slice_get ss t ≡ Some s → slice_get ss' t ≡ Some s' → Nearer job k t p s q s'

-- THE GUESSES. A guessed read is of a register.
pub record GuessOk (job : Job) (g : GuessSlot) : Type 0 where
  pub target : g.register < length (targets_of job.decls)
  pub register : (target_at job g.register).address ≡ 0
  pub width : g.width ≡ (target_at job g.register).width

unfoldable pub GuessesOk : Job → Type 0
GuessesOk job = (g : ℕ) → g < length (guesses_of job) → GuessOk job (guess_at job g)

-- the truth of a guess that is pending in stage k is available, and differs from it
abbrev pub is_wrong : Job → PipelineState → Inputs → ℕ → PendingGuess → Bool
is_wrong job st i k p = differs ((above (machine_of job) st i k).truth p.register 0) p.value

-- a node is 1 exactly if one of the first m guesses is wrong in stage k
unfoldable pub Misses : Job → Held → ℕ → ℕ → NodeId → Type 0
Misses job p k m n = (c : Cells) (st : PipelineState) (i : Inputs) → Holds job c st i
    → on c p.nodes n.0 ≡ ((st.stage k).full && some_of (guess_passes job c k (is_wrong job st i k)) 0 (take m (guesses_of job)))

-- AT THE TOP a target has its own value and no rows.
unfoldable pub OwnMeans : Job → Held → ℕ → ℕ → Own → Type 0
OwnMeans job p t w o = (c : Cells) (st : PipelineState) (i : Inputs) → Holds job c st i → (a : ℕ) → a < 2 ^ (target_at job t).address → own_value c p w o a ≡ st.visible t a

pub record Bare (job : Job) (p : Held) (t : ℕ) (s : Source) : Type 0 where
  pub ok : SourceOk job p t s
  pub rows : s.rows.items ≡ []
  pub own : OwnMeans job p t s.width s.own

-- what the rules of the language guarantee: a block for each stage, and guesses of registers alone
pub record RulesGive (job : Job) : Type 0 where
  pub blocks : length job.blocks ≡ job.stages.value
  pub guesses : GuessesOk job
