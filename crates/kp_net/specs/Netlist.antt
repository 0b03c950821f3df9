-- The meaning of a netlist: its state, one cycle, and its runs.
use Rattle.std.specs.Prelude.{ℕ, Bool, false, ◌&&◌, if◌then◌else◌, List, [], ◌∷◌, map, get_or, set, Option, None, Some, fold}
use Rattle.std.specs.List.{zip}
use Rattle.kp_base.specs.declared.row.Row.{Row}
use Rattle.kp_net.specs.{declared.node.Node.Node, declared.netlist.WritePort.WritePort, declared.netlist.Parts.Parts, Nodes.Cells, Nodes.at, Nodes.on}

-- the nodes, and all other parts
pub record Net : Type 0 where
  pub nodes : List Node
  pub parts : Parts

-- the inputs of a cycle: the stall word, whether the reset is raised, and a value for each sample port
pub record Input : Type 0 where
  pub ext : ℕ
  pub reset : Bool
  pub samples : List ℕ

-- the values of the registers, and the words of each file
pub record State : Type 0 where
  pub regs : List ℕ
  pub files : List (List ℕ)

abbrev pub cells_of : Input → State → Cells
cells_of i st = record {
  ext = i.ext;
  sample = λ s. get_or i.samples s 0;
  reg = λ r. get_or st.regs r 0;
  word = λ f a. get_or (get_or st.files f []) a 0;
}

-- the start state
abbrev pub start_regs : Net → List ℕ
start_regs net = map (λ r. r.start.value) net.parts.regs

abbrev pub start_of : Net → State
start_of net = record { regs = start_regs net; files = map (λ f. f.words) net.parts.files }

-- at the end of a cycle each register latches the value of its next node
abbrev pub regs_after : Net → Cells → List ℕ
regs_after net c = map (λ r. at c net.nodes r.next.0) net.parts.regs

-- and a file whose port is enabled writes one word
abbrev pub port_after : Cells → List Node → Option WritePort → List ℕ → List ℕ
port_after c ns None words = words
port_after c ns (Some p) words = if on c ns p.enable.0 then set words (at c ns p.address.0) (at c ns p.value.0) else words

abbrev pub files_after : Net → Cells → List (List ℕ) → List (List ℕ)
files_after net c files = map (λ p. port_after c net.nodes p.0.port p.1) (zip net.parts.files files)

-- whether this cycle resets the netlist
abbrev pub resets : Net → Input → Bool
resets net i = net.parts.reset && i.reset

-- the state after a cycle; a reset sets each register to its start value, and changes no file
abbrev pub state_after : Net → Input → State → State
state_after net i st =
    if resets net i then record { regs = start_regs net; files = st.files }
    else record { regs = regs_after net (cells_of i st); files = files_after net (cells_of i st) st.files }

-- the values of the outputs in a cycle
abbrev pub row_of : Net → Input → State → Row
row_of net i st = let c = cells_of i st in record {
  full = at c net.nodes net.parts.full.0;
  ue = at c net.nodes net.parts.ue.0;
  back = at c net.nodes net.parts.back.0;
}

-- from a state on: the state before each cycle and after the last, and the row of each cycle
abbrev pub states_from : Net → State → List Input → List State
states_from net st [] = st ∷ []
states_from net st (i ∷ inputs) = st ∷ states_from net (state_after net i st) inputs

abbrev pub rows_from : Net → State → List Input → List Row
rows_from net st [] = []
rows_from net st (i ∷ inputs) = row_of net i st ∷ rows_from net (state_after net i st) inputs

pub record Run : Type 0 where
  pub states : List State
  pub rows : List Row

-- the run of a netlist over a list of inputs
abbrev pub run : Net → List Input → Run
run net inputs = record { states = states_from net (start_of net) inputs; rows = rows_from net (start_of net) inputs }

-- the state after all inputs
abbrev pub last_from : Net → State → List Input → State
last_from net st inputs = fold (λ s i. state_after net i s) st inputs

abbrev pub last_of : Net → List Input → State
last_of net inputs = last_from net (start_of net) inputs

-- the same netlist, with files that start with these words
abbrev pub restarted : Net → List (List ℕ) → Net
restarted net files = record { nodes = net.nodes; parts = record net.parts { files = map (λ p. record p.0 { words = p.1 }) (zip net.parts.files files) } }

-- a cycle with this stall word, no reset, and no sample ports
abbrev pub stalled : ℕ → Input
stalled ext = record { ext = ext; reset = false; samples = [] }

-- the run over stall words alone
abbrev pub run_stalled : Net → List ℕ → Run
run_stalled net exts = run net (map stalled exts)
