-- The checkpoints of earlier states that a session stores.
use Rattle.std.specs.Prelude.{ℕ, ◌*◌, ◌<◌, ◌≤◌, ◌≡◌, false, List, [], length, take, Some}
use Rattle.kp_bits.specs.Word.{Word}
use Rattle.kp_net.specs.Netlist.{Net, Input, last_of}
use Rattle.kp_cycle.specs.Steps.{Running, saved_in}
use Rattle.kp_debug.specs.Sessions.{inputs_of, SamplesFitCycles}

-- the default for an input that doesn't exist
abbrev pub no_input : Input
no_input = record { ext = 0; reset = false; samples = [] }

-- a simulator that has run the given number of cycles of these inputs
abbrev pub HasRun : Running → List Input → ℕ → Type 0
HasRun sim inputs cycle = sim.state ≡ last_of sim.net (take cycle inputs)

-- the first slots contain the states at the cycles 0, 2048, 4096 and so on
abbrev pub HasKept : Running → List Input → ℕ → Type 0
HasKept sim inputs kept = (k : ℕ) → k < kept → saved_in sim k ≡ Some (last_of sim.net (take (k * 2048) inputs))

-- a session after the given number of cycles: the simulator has run these, each multiple of 2048 up to there has a checkpoint, and one more slot is
-- free
pub record IsSession (sim : Running) (exts : List ℕ) (samples : List Word) (cycle copies : ℕ) : Type 0 where
  pub few : length exts ≤ 100000
  pub fits : SamplesFitCycles sim.net (length exts) samples
  pub there : cycle ≤ length exts
  pub run : HasRun sim (inputs_of (length sim.net.parts.samples) exts samples) cycle
  pub slots : length sim.slots ≡ 50
  pub at_most : copies ≤ 49
  pub reached : cycle < copies * 2048
  pub kept : HasKept sim (inputs_of (length sim.net.parts.samples) exts samples) copies
