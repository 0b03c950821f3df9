-- TWO NETLISTS RUN ALIKE: the same rows, and the same values of all registers and file words, by name, for every list of inputs.
use Rattle.std.specs.Prelude.{ℕ, ◌<◌, ◌≤◌, ◌≡◌, List, [], length, get_or}
use Rattle.kp_net.specs.Netlist.{Net, Input, State, run}
use Rattle.kp_equiv.specs.Alike.{reg_name, file_name}

abbrev pub no_state : State
no_state = record { regs = []; files = [] }

-- the value of a register, and the word of a file at an address, in a state
abbrev pub reg_value : State → ℕ → ℕ
reg_value st r = get_or st.regs r 0

abbrev pub file_word : State → (file address : ℕ) → ℕ
file_word st f x = get_or (get_or st.files f []) x 0

-- the state after the first T cycles
abbrev pub state_at : Net → List Input → ℕ → State
state_at net ins T = get_or (run net ins).states T no_state

-- each register and each file of one netlist has its namesake in the other
pub record HasNamesakes (a b : Net) : Type 0 where
  pub regs : (r : ℕ) → r < length a.parts.regs → (q : ℕ) × (q < length b.parts.regs) × (reg_name b q ≡ reg_name a r)
  pub files : (f : ℕ) → f < length a.parts.files → (g : ℕ) × (g < length b.parts.files) × (file_name b g ≡ file_name a f)

pub record RunAlike (a b : Net) : Type 0 where
  pub there : HasNamesakes a b
  pub back : HasNamesakes b a
  pub rows : (ins : List Input) → (run a ins).rows ≡ (run b ins).rows
  pub regs : (ins : List Input) (T r q : ℕ) → T ≤ length ins → r < length a.parts.regs → q < length b.parts.regs → reg_name a r ≡ reg_name b q
      → reg_value (state_at a ins T) r ≡ reg_value (state_at b ins T) q
  pub files : (ins : List Input) (T f g x : ℕ) → T ≤ length ins → f < length a.parts.files → g < length b.parts.files → file_name a f ≡ file_name b g
      → file_word (state_at a ins T) f x ≡ file_word (state_at b ins T) g x
