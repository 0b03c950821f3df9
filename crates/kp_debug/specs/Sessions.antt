-- A session: a run of a netlist, and its current cycle.
use Rattle.std.specs.Prelude.{ℕ, ◌+◌, ◌*◌, ◌-◌, ◌<◌, ◌≡◌, false, min, List, [], ◌∷◌, length, get_or, take, drop, slice_get, Option}
use Rattle.kp_base.specs.declared.row.Row.{Row}
use Rattle.kp_bits.specs.{Word.Word, Operators.no_word}
use Rattle.kp_net.specs.{Netlist.Net, Netlist.Input, Netlist.State, Netlist.run, Parts.no_port}
use Rattle.kp_cycle.specs.Steps.{Running, given}

-- the netlist, the inputs of each cycle of the run, and how many cycles have passed
pub record Debugged : Type 0 where
  pub net : Net
  pub inputs : List Input
  pub cycle : ℕ

-- the inputs of the cycles with these stall words, with a value for each of the given number of sample ports in each cycle; the reset isn't raised
abbrev pub inputs_of : ℕ → List ℕ → List Word → List Input
inputs_of ports [] samples = []
inputs_of ports (ext ∷ exts) samples = given ext false (take ports samples) ∷ inputs_of ports exts (drop ports samples)

-- there is a value of the right width for each sample port in each of the given number of cycles
pub record SamplesFitCycles (net : Net) (cycles : ℕ) (samples : List Word) : Type 0 where
  pub count : length samples ≡ cycles * length net.parts.samples
  pub widths : (cycle s : ℕ) → cycle < cycles → s < length net.parts.samples
      → (get_or samples (cycle * length net.parts.samples + s) no_word).width ≡ (get_or net.parts.samples s no_port).width

abbrev pub no_state : State
no_state = record { regs = []; files = [] }

-- the state of the run in the current cycle, and its row, if a cycle is left
abbrev pub state_there : Debugged → State
state_there d = get_or (run d.net d.inputs).states d.cycle no_state

abbrev pub row_there : Debugged → Option Row
row_there d = slice_get (run d.net d.inputs).rows d.cycle

-- the run of the netlist in the current cycle, as a simulator without slots
abbrev pub shown : Debugged → Running
shown d = record { net = d.net; state = state_there d; slots = [] }

-- n cycles forward, at most to the end of the run, and n cycles back, at most to its start
abbrev pub forward : ℕ → Debugged → Debugged
forward n d = record d { cycle = min (d.cycle + n) (length d.inputs) }

abbrev pub back : ℕ → Debugged → Debugged
back n d = record d { cycle = d.cycle - n }
