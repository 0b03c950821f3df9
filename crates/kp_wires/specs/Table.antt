-- THE TABLE OF WIRES, stage after stage: the lets and reads of a stage in the order of its text, what it puts, sets and aims, and its stall and wrong guess. A
-- constant isn't in it.
use Rattle.std.specs.Prelude.{◌≡◌, ℕ, zero, suc, Bool, true, false, if◌then◌else◌, List, [], ◌∷◌, ◌++◌, length, get_or, slice_get, Option, Some, None}
use Rattle.kp_ast.specs.declared.tree.{Job.Job, Stmt.Stmt, StmtKind.StmtKind}
use Rattle.kp_ast.specs.declared.tree.StmtKind.TheVariants as stmts
use Rattle.kp_net.specs.{Netlist.Net, Widths.no_node, declared.node.Kind.Kind, declared.node.NodeId.NodeId}
use Rattle.kp_net.specs.declared.node.Kind.TheVariants as kinds
use Rattle.kp_build.specs.Names.{Scope, node_of}
use Rattle.kp_synth_registers.specs.declared.outcome.{Outcome.Outcome, Set.Set}
use Rattle.kp_synth_stage.specs.Work.{stmts_at}
use Rattle.kp_synth_next.specs.Nexts.{outcome_at}
use Rattle.kp_synth.specs.Known.{HasStages, no_names}
use Rattle.kp_wires.specs.declared.wire.{Signal.Signal, Wire.Wire}
use Rattle.kp_wires.specs.declared.wire.Signal.TheVariants.{Let, Read, Put, When, Set as SetTo, Aim, Stall, WrongGuess}

-- what f gives for the numbers below n, in order
abbrev pub below : {A : Type 0} → (ℕ → List A) → ℕ → List A
below f zero = []
below f (suc n) = below f n ++ f n

abbrev pub is_constant : Kind → Bool
is_constant (kinds.Const v) = true
is_constant _ = false

-- a wire for a node that isn't a constant
abbrev pub wire_of : Net → ℕ → Signal → Option NodeId → List Wire
wire_of net k signal None = []
wire_of net k signal (Some n) = if is_constant (get_or net.nodes n.0 no_node).kind then [] else record { node = n; stage = k; signal = signal } ∷ []

-- for the name that a statement binds
abbrev pub bound_wire : Net → ℕ → Scope → ℕ → StmtKind → List Wire
bound_wire net k env j (stmts.Let name e) = wire_of net k (Let j) (node_of env.names name.name)
bound_wire net k env j (stmts.Read r) = wire_of net k (Read j) (node_of env.names r.name.name)
bound_wire net k env j _ = []

abbrev pub stmt_wire : Net → ℕ → Scope → ℕ → Option Stmt → List Wire
stmt_wire net k env j None = []
stmt_wire net k env j (Some s) = bound_wire net k env j s.kind

-- for a set: its condition and its value
abbrev pub set_wires : Net → ℕ → ℕ → Option Set → List Wire
set_wires net k t None = []
set_wires net k t (Some s) = wire_of net k (When t) (Some s.enabled) ++ wire_of net k (SetTo t) (Some s.value)

-- those of a stage
abbrev pub bound_wires : Net → Job → ℕ → Scope → List Wire
bound_wires net job k env = below (λ j. stmt_wire net k env j (slice_get (stmts_at job k) j)) (length (stmts_at job k))

abbrev pub put_wires : Net → ℕ → Outcome → List Wire
put_wires net k o = below (λ x. wire_of net k (Put x) (get_or o.puts x None)) (length o.puts)

abbrev pub all_set_wires : Net → ℕ → Outcome → List Wire
all_set_wires net k o = below (λ t. set_wires net k t (get_or o.sets t None)) (length o.sets)

abbrev pub aim_wires : Net → ℕ → Outcome → List Wire
aim_wires net k o = below (λ h. wire_of net k (Aim h) (get_or o.aims h None)) (length o.aims)

abbrev pub stage_wires : Net → Job → ℕ → Outcome → Scope → List Wire
stage_wires net job k o env =
    bound_wires net job k env ++ (put_wires net k o ++ (all_set_wires net k o ++ (aim_wires net k o
    ++ (wire_of net k Stall (Some o.stall) ++ wire_of net k WrongGuess (Some o.miss)))))

-- those of all stages, which have these nodes
unfoldable pub wires_of : Net → Job → List Outcome → List Scope → List Wire
wires_of net job outs names = below (λ k. stage_wires net job k (outcome_at outs k) (get_or names k no_names)) job.stages.value

-- THE TABLE of a netlist of a job: that of nodes that mean what its stages do
pub record AreWires (net : Net) (job : Job) (wires : List Wire) : Type 0 where
  pub outcomes : List Outcome
  pub names : List Scope
  pub stages : HasStages net job outcomes names
  pub table : wires ≡ wires_of net job outcomes names
