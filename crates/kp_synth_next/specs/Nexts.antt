-- THE NEXT VALUE OF EACH REGISTER at the end of a cycle.
use Rattle.std.specs.Prelude.{◌≡◌, ℕ, suc, ◌+◌, ◌<◌, ◌≤◌, ◌^◌, List, length, get_or, Option, Some, None, Bool, false, cond, ◌&&◌, ◌==◌, is_some, []}
use Rattle.kp_ast.specs.declared.tree.Job.{Job}
use Rattle.kp_pipeline.specs.Pipeline.{PipelineState, Inputs, ue, cycle, next_visible}
use Rattle.kp_machine.specs.{Slots.targets_of, Slots.is_register, Machine.machine_of}
use Rattle.kp_net.specs.{declared.node.NodeId.NodeId, declared.netlist.WritePort.WritePort, Nodes.Cells, Nodes.at, Nodes.on, Growth.Held, Growth.Wire}
use Rattle.kp_synth_registers.specs.declared.key.Key.{Key}
use Rattle.kp_synth_registers.specs.declared.key.Key.TheVariants.{Visible, Full, Pipe, Valid, Value, Pending, Guess, Hint}
use Rattle.kp_design.specs.{declared.guess.GuessSlot.GuessSlot, Numbers.target_at, Numbers.guess_at, Numbers.guesses_of}
use Rattle.kp_synth_registers.specs.Keys.{key_width, key_at, keys_of}
use Rattle.kp_synth_registers.specs.{declared.outcome.Made.Made, declared.outcome.Outcome.Outcome, Holding.Holds, Holding.kept_in, Meaning.Says}

abbrev pub no_node_id : NodeId
no_node_id = record { 0 = 0 }

abbrev pub no_made : Made
no_made = record { pending = no_node_id; value = no_node_id }

abbrev pub no_outcome : Outcome
no_outcome = record { stall = no_node_id; miss = no_node_id; puts = []; sets = []; made = []; aims = [] }

-- the outcome of stage k, and the nodes of a guessed read
abbrev pub outcome_at : List Outcome → ℕ → Outcome
outcome_at outs k = get_or outs k no_outcome

abbrev pub made_at : List Outcome → GuessSlot → Made
made_at outs s = get_or (outcome_at outs s.stage).made s.index no_made

-- A guess that leaves stage k: it is made there, or was pending there.
abbrev pub leaves_pending : Job → Held → List Outcome → Cells → ℕ → ℕ → GuessSlot → Bool
leaves_pending job p outs c k g s = cond (s.stage == k) (on c p.nodes (made_at outs s).pending.0) (kept_in job c (Pending g k) == 1)

abbrev pub leaves_with : Job → Held → List Outcome → Cells → ℕ → ℕ → GuessSlot → ℕ
leaves_with job p outs c k g s = cond (s.stage == k) (at c p.nodes (made_at outs s).value.0) (kept_in job c (Guess g k))

-- What the next node of a register means, by its key. The value of a result that isn't set, and of a guess that isn't
-- pending, is unspecified.
abbrev pub NextIs : Job → Held → List Outcome → NodeId → Cells → PipelineState → Inputs → Key → Type 0
NextIs job p outs n c st i (Visible t) = at c p.nodes n.0 ≡ next_visible (machine_of job) st i t 0
NextIs job p outs n c st i (Full k) = on c p.nodes n.0 ≡ ((cycle (machine_of job) st i).stage k).full
NextIs job p outs n c st i (Pipe x k) = at c p.nodes n.0 ≡ ((cycle (machine_of job) st i).stage k).instruction.pipes x
NextIs job p outs n c st i (Valid t k) = on c p.nodes n.0 ≡ is_some (((cycle (machine_of job) st i).stage k).instruction.results t)
NextIs job p outs n c st i (Value t k) = (v : ℕ) → ((cycle (machine_of job) st i).stage k).instruction.results t ≡ Some v → at c p.nodes n.0 ≡ v
NextIs job p outs n c st i (Pending g k) = (j : ℕ) → k ≡ suc j
    → on c p.nodes n.0 ≡ cond (ue (machine_of job) st i j) (leaves_pending job p outs c j g (guess_at job g)) (kept_in job c (Pending g k) == 1)
NextIs job p outs n c st i (Guess g k) = (j : ℕ) → k ≡ suc j
    → at c p.nodes n.0 ≡ cond (ue (machine_of job) st i j) (leaves_with job p outs c j g (guess_at job g)) (kept_in job c (Guess g k))
NextIs job p outs n c st i (Hint h) = at c p.nodes n.0 ≡ (cycle (machine_of job) st i).hints h

-- The word of a file after a cycle, by its write port.
abbrev pub port_word : Cells → Held → Option WritePort → (address before : ℕ) → ℕ
port_word c p None a v = v
port_word c p (Some port) a v = cond (on c p.nodes port.enable.0 && (at c p.nodes port.address.0 == a)) (at c p.nodes port.value.0) v

abbrev pub PortFits : Job → Held → ℕ → Option WritePort → Type 0
PortFits job p t None = Unit {0}
PortFits job p t (Some port) = Wire p port.enable 1 × Wire p port.address (target_at job t).address × Wire p port.value (target_at job t).width

-- THE NEXT NODES, and the write ports of the files, by the number of the target.
pub record Closes (job : Job) (p : Held) (outs : List Outcome) (nexts : ℕ → NodeId) (ports : ℕ → Option WritePort) : Type 0 where
  pub says : (k : ℕ) → k < job.stages.value → Says job p k (outcome_at outs k)
  pub wires : (r : ℕ) → r < length (keys_of job) → Wire p (nexts r) (key_width job (key_at job r))
  pub next : (c : Cells) (st : PipelineState) (i : Inputs) → Holds job c st i → (r : ℕ) → r < length (keys_of job)
      → NextIs job p outs (nexts r) c st i (key_at job r)
  pub port_wires : (t : ℕ) → t < length (targets_of job.decls) → is_register (target_at job t) ≡ false → PortFits job p t (ports t)
  pub port : (c : Cells) (st : PipelineState) (i : Inputs) → Holds job c st i
      → (t a : ℕ) → t < length (targets_of job.decls) → is_register (target_at job t) ≡ false → a < 2 ^ (target_at job t).address
      → next_visible (machine_of job) st i t a ≡ port_word c p (ports t) a (st.visible t a)

-- A requirement on the guesses of a job: each is made two stages or more before the write stage of its register.
abbrev pub GuessesFit : Job → Type 0
GuessesFit job = (g : ℕ) → g < length (guesses_of job) → (guess_at job g).stage + 2 ≤ (guess_at job g).write
