-- A simulator as its callers see it: its inputs and its outputs.
use Rattle.std.specs.Prelude.{ℕ, Bool, ◌<◌, ◌≤◌, ◌≡◌, if◌then◌else◌, List, [], length, get_or, map, Option, None, Some}
use Rattle.kp_bits.specs.{Word.Word, Word.word, Operators.no_word}
use Rattle.kp_net.specs.{Widths.wide, declared.node.Node.Node, declared.netlist.WritePort.WritePort, Nodes.Cells, Nodes.at, Nodes.on}
use Rattle.kp_net.specs.{Netlist.Net, Netlist.Input, Netlist.State, Netlist.cells_of, Netlist.resets, Parts.no_port, Parts.no_reg, Parts.no_file}

-- a netlist, its present state, and its slots, each of which holds a state once it was saved
pub record Running : Type 0 where
  pub net : Net
  pub state : State
  pub slots : List (Option State)

-- the state that is saved in a slot, if the slot exists and was saved
abbrev pub saved_in : Running → ℕ → Option State
saved_in s slot = get_or s.slots slot None

-- full and ue are as wide as ext, which has at most 12 bits, and back has 4
pub record ShowsRows (net : Net) : Type 0 where
  pub ext : net.parts.ext ≤ 12
  pub full : wide net.nodes net.parts.full.0 ≡ net.parts.ext
  pub ue : wide net.nodes net.parts.ue.0 ≡ net.parts.ext
  pub back : wide net.nodes net.parts.back.0 ≡ 4

-- the inputs of a call: the stall word, whether the reset is raised, and the values of the sample ports
abbrev pub given : ℕ → Bool → List Word → Input
given ext rst samples = record { ext = ext; reset = rst; samples = map (λ w. w.value) samples }

-- there is a value for each sample port, with its width
pub record SamplesFit (net : Net) (samples : List Word) : Type 0 where
  pub count : length samples ≡ length net.parts.samples
  pub widths : (s : ℕ) → s < length samples → (get_or samples s no_word).width ≡ (get_or net.parts.samples s no_port).width

-- a register, and a word of a file
abbrev pub reg_shown : Running → ℕ → Word
reg_shown s r = word (get_or s.net.parts.regs r no_reg).start.width (get_or s.state.regs r 0)

abbrev pub word_shown : Running → ℕ → ℕ → Word
word_shown s f a = word (get_or s.net.parts.files f no_file).width (get_or (get_or s.state.files f []) a 0)

-- The address that the write port of a file writes in a cycle: that of its address node, if the port is enabled and the cycle doesn't reset the netlist.
abbrev pub port_writes : Cells → List Node → Option WritePort → Option ℕ
port_writes c ns None = None
port_writes c ns (Some p) = if on c ns p.enable.0 then Some (at c ns p.address.0) else None

abbrev pub written_in : Net → Input → State → ℕ → Option ℕ
written_in net i st f = if resets net i then None else port_writes (cells_of i st) net.nodes (get_or net.parts.files f no_file).port
