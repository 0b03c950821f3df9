-- Which nodes are evaluated in a cycle, and in which order.
use Rattle.std.specs.Prelude.{ℕ, ◌+◌, ◌<◌, ◌≤◌, ◌≡◌, ◌⊎◌, Bool, true, false, List, [], ◌∷◌, length, get_or, map, All, Option, None, Some}
use Rattle.kp_net.specs.declared.node.{NodeId.NodeId, Kind.Kind}
use Rattle.kp_net.specs.declared.node.Kind.TheVariants.{Reg, Word, Not, Binary, Mux, Concat, Slice}
use Rattle.kp_net.specs.{declared.node.Node.Node, declared.netlist.WritePort.WritePort, Netlist.Net, Parts.no_file, Widths.no_node}
use Rattle.kp_cycle_plan.specs.{declared.codes.Op.TheVariants.Plain, declared.codes.Step.Step, Codes.op_for, Latches.latch_for, Latches.OfLatch}

-- the operands of a node
abbrev pub reads : Kind → List NodeId
reads (Word f a) = a ∷ []
reads (Not a) = a ∷ []
reads (Binary op a b) = a ∷ b ∷ []
reads (Mux test a b) = test ∷ a ∷ b ∷ []
reads (Concat parts) = parts
reads (Slice a hi lo) = a ∷ []
reads _ = []

abbrev pub reads_at : List Node → ℕ → List NodeId
reads_at ns i = reads (get_or ns i no_node).kind

-- a node that is marked
abbrev pub IsMarked : List Bool → ℕ → Type 0
IsMarked marks j = get_or marks j false ≡ true

-- as many marks, including all earlier ones
pub record Grows (old new : List Bool) : Type 0 where
  pub count : length new ≡ length old
  pub kept : (j : ℕ) → IsMarked old j → IsMarked new j

-- one of the first k of these numbers
abbrev pub Among : List ℕ → (first number : ℕ) → Type 0
Among ts k j = (q : ℕ) × (q < k) × (get_or ts q 0 ≡ j)

-- the first h nodes are the first h registers, in their order
abbrev pub Leads : Net → ℕ → Type 0
Leads net h = (j : ℕ) → j < h → (get_or net.nodes j no_node).kind ≡ Reg j

-- one of the first h nodes, or of the first k of these numbers
abbrev pub IsKnown : ℕ → List ℕ → (first number : ℕ) → Type 0
IsKnown h ts k j = (j < h) ⊎ Among ts k j

-- all are nodes, and the operands of each come before it or are among the first h nodes
pub record IsOrdered (ns : List Node) (h : ℕ) (ts : List ℕ) : Type 0 where
  pub heads : h ≤ length ns
  pub inside : (k : ℕ) → k < length ts → get_or ts k 0 < length ns
  pub before : (k : ℕ) → k < length ts → All (λ a. IsKnown h ts k a.0) (reads_at ns (get_or ts k 0))

-- the marked nodes are the first h, and those of a list in which operands come first
pub record Taken (ns : List Node) (h : ℕ) (done : List Bool) (ts : List ℕ) : Type 0 where
  pub count : length done ≡ length ns
  pub ordered : IsOrdered ns h ts
  pub front : (j : ℕ) → j < h → IsMarked done j
  pub there : (j : ℕ) → IsMarked done j → IsKnown h ts (length ts) j

-- this is true of all nodes that outputs, registers and write ports read
abbrev pub OfPort : (ℕ → Type 0) → Option WritePort → Type 0
OfPort P None = Unit {0}
OfPort P (Some p) = P p.enable.0 × P p.address.0 × P p.value.0

pub record OfRoots (net : Net) (P : ℕ → Type 0) : Type 0 where
  pub full : P net.parts.full.0
  pub ue : P net.parts.ue.0
  pub back : P net.parts.back.0
  pub regs : (r : ℕ) → r < length net.parts.regs → OfLatch P (latch_for net r)
  pub files : (f : ℕ) → f < length net.parts.files → OfPort P (get_or net.parts.files f no_file).port

-- the marks of what is needed, from the last node down to node i
abbrev pub Needed : Net → ℕ → List Bool → Type 0
Needed net i marks = (length marks ≡ length net.nodes) × OfRoots net (IsMarked marks)
    × ((j : ℕ) → i ≤ j → j < length net.nodes → IsMarked marks j → All (λ a. IsMarked marks a.0) (reads_at net.nodes j))

-- steps, each with the operation of its target
abbrev pub no_step : Step
no_step = record { target = 0; op = Plain }

abbrev pub step_for : List Node → ℕ → Step
step_for ns t = record { target = t; op = op_for ns (get_or ns t no_node) }

abbrev pub targets : List Step → List ℕ
targets steps = map (λ s. s.target) steps

-- a step that is computed from its node itself
abbrev pub by_node : ℕ → Step
by_node t = record { target = t; op = Plain }

-- a step has the operation of its target, or is computed from the node
abbrev pub HasCode : List Node → Step → Type 0
HasCode ns s = (s.op ≡ op_for ns (get_or ns s.target no_node)) ⊎ (s.op ≡ Plain)

-- steps that compute the value of each node that is read at the end of a cycle, given those of the first h, which are registers; the last one is
-- computed from its node, so that each batch ends before it
pub record IsPlan (net : Net) (h : ℕ) (steps : List Step) : Type 0 where
  pub leads : Leads net h
  pub codes : (k : ℕ) → k < length steps → HasCode net.nodes (get_or steps k no_step)
  pub last : (k : ℕ) → k + 1 ≡ length steps → (get_or steps k no_step).op ≡ Plain
  pub ordered : IsOrdered net.nodes h (targets steps)
  pub roots : OfRoots net (IsKnown h (targets steps) (length steps))
