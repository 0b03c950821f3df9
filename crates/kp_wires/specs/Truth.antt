-- WHAT A WIRE OF THE TABLE HAS, in each cycle: in terms of the state of the pipeline that the registers hold, and of the inputs.
use Rattle.std.specs.Prelude.{◌≡◌, ◌==◌, ℕ, true, List, length, Option, Some, is_some}
use Rattle.std.specs.Option.{option_map}
use Rattle.kp_bits.specs.Word.{Word}
use Rattle.kp_ast.specs.{Expressions.look_up, declared.tree.Job.Job}
use Rattle.kp_pipeline.specs.Pipeline.{PipelineState, Inputs, mismatches, outcome, stall}
use Rattle.kp_width.specs.Names.{Sense, find}
use Rattle.kp_machine.specs.{Machine.machine_of, Slots.hints_of, Slots.pipes_of, Slots.targets_of}
use Rattle.kp_net.specs.{Netlist.Net, Nodes.Cells, Nodes.at}
use Rattle.kp_synth_registers.specs.Holding.{Holds}
use Rattle.kp_synth_stage.specs.{Scopes.is_bound, Scopes.scope_at, Work.stmts_at}
use Rattle.kp_synth.specs.Known.{names_in}
use Rattle.kp_wires.specs.{Texts.stmt_name, declared.wire.Signal.Signal, declared.wire.Wire.Wire}
use Rattle.kp_wires.specs.declared.wire.Signal.TheVariants.{Let, Read, Put, When, Set, Aim, Stall, WrongGuess}

-- the value of a name in scope in stage k, by the statements of the stage: it executes them with its pipes, the samples and the hints, and a read has the
-- truth that the stage sees, or its guess
abbrev pub HasName : Job → PipelineState → Inputs → ℕ → List ℕ → ℕ → Type 0
HasName job st i k x v = (m : Sense) → find (scope_at job k (length (stmts_at job k))) x ≡ Some m → is_bound m.kind ≡ true
    → option_map (λ (y : Word). y.value) (look_up (names_in job st i k) x) ≡ Some v

-- a signal has this value: of a result that isn't set the value is unspecified
abbrev pub Has : Job → PipelineState → Inputs → ℕ → Signal → ℕ → Type 0
Has job st i k (Let j) v = HasName job st i k (stmt_name job k j) v
Has job st i k (Read j) v = HasName job st i k (stmt_name job k j) v
Has job st i k (Put x) v = (outcome (machine_of job) st i k).puts x ≡ Some v
Has job st i k (When t) v = (v == 1) ≡ is_some ((outcome (machine_of job) st i k).sets t)
Has job st i k (Set t) v = (y : ℕ) → (outcome (machine_of job) st i k).sets t ≡ Some y → v ≡ y
Has job st i k (Aim h) v = (outcome (machine_of job) st i k).aims h ≡ Some v
Has job st i k Stall v = (v == 1) ≡ stall (machine_of job) st i k
Has job st i k WrongGuess v = (v == 1) ≡ mismatches (machine_of job) st i k

-- the wire has the value of its signal
abbrev pub IsTrue : Job → Net → Wire → Type 0
IsTrue job net w = (c : Cells) (st : PipelineState) (i : Inputs) → Holds job c st i → Has job st i w.stage w.signal (at c net.nodes w.node.0)
