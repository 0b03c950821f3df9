-- The sources and the states of two netlists, matched by name.
use Rattle.std.specs.Prelude.{ℕ, ◌<◌, ◌≡◌, [], length, get_or}
use Rattle.kp_net.specs.{Nodes.Cells, Netlist.Net, Netlist.State}
use Rattle.kp_equiv.specs.Alike.{reg_name, file_name, sample_name}

pub record SameCells (a b : Net) (c d : Cells) : Type 0 where
  pub ext : c.ext ≡ d.ext
  pub sample : (s t : ℕ) → s < length a.parts.samples → t < length b.parts.samples → sample_name a s ≡ sample_name b t → c.sample s ≡ d.sample t
  pub reg : (r q : ℕ) → r < length a.parts.regs → q < length b.parts.regs → reg_name a r ≡ reg_name b q → c.reg r ≡ d.reg q
  pub word : (f g x : ℕ) → f < length a.parts.files → g < length b.parts.files → file_name a f ≡ file_name b g → c.word f x ≡ d.word g x

-- each file has the words of its namesake
pub record SameFiles (a b : Net) (s t : State) : Type 0 where
  pub first : length s.files ≡ length a.parts.files
  pub second : length t.files ≡ length b.parts.files
  pub files : (f g : ℕ) → f < length a.parts.files → g < length b.parts.files → file_name a f ≡ file_name b g → get_or s.files f [] ≡ get_or t.files g []

-- and each register its value
pub record SameStates (a b : Net) (s t : State) : Type 0 where
  pub words : SameFiles a b s t
  pub regs : (r q : ℕ) → r < length a.parts.regs → q < length b.parts.regs → reg_name a r ≡ reg_name b q → get_or s.regs r 0 ≡ get_or t.regs q 0
