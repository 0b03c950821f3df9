-- The first of a list of roots that does not agree.
use Rattle.std.specs.Prelude.{ℕ, ◌+◌, ◌<◌, ◌≡◌, true, false, List, [], ◌∷◌, ◌++◌, length, map, get_or, Option, None, Some}
use Rattle.kp_net.specs.{Names.among, Netlist.Net}
use Rattle.kp_equiv.specs.{Alike.reg_name, Named.reg_names, Named.file_names}
use Rattle.kp_equiv.specs.Agreement.{Root, Agrees, Ports, Register, File, Full, Ue, Back, names_of_second}

abbrev pub AgreeUpTo : Net → Net → List Root → ℕ → Type 0
AgreeUpTo a b rs n = (k : ℕ) → k < n → Agrees a b (get_or rs k Ports)

pub record Differing (a b : Net) (rs : List Root) (n : ℕ) : Type 0 where
  pub there : n < length rs
  pub before : AgreeUpTo a b rs n
  pub differs : Agrees a b (get_or rs n Ports) → ⊥

-- no root, or this one
abbrev pub FirstOf : Net → Net → List Root → Option ℕ → Type 0
FirstOf a b rs None = AgreeUpTo a b rs (length rs)
FirstOf a b rs (Some n) = Differing a b rs n

-- the roots after all registers
abbrev pub behind_regs : Net → List Root
behind_regs a = map File (file_names a) ++ (Full ∷ Ue ∷ Back ∷ [])

-- the roots after the first one
abbrev pub behind_ports : Net → Net → List Root
behind_ports a b = map Register (reg_names a) ++ (map Register (names_of_second a b) ++ behind_regs a)

-- a register of the netlist has a name that is not among these, and it is the first
pub record IsFirstNew (names : List (List ℕ)) (net : Net) (i : ℕ) : Type 0 where
  pub there : i < length net.parts.regs
  pub new : among names (reg_name net i) ≡ false
  pub before : (k : ℕ) → k < i → among names (reg_name net k) ≡ true

-- no register, or this one
abbrev pub FirstNew : List (List ℕ) → Net → Option ℕ → Type 0
FirstNew names net None = (k : ℕ) → k < length net.parts.regs → among names (reg_name net k) ≡ true
FirstNew names net (Some i) = IsFirstNew names net i

-- the index in the concatenation of two lists, the first of which has the given number of entries
abbrev pub joined : ℕ → Option ℕ → Option ℕ → Option ℕ
joined count (Some n) r = Some n
joined count None None = None
joined count None (Some n) = Some (count + n)
