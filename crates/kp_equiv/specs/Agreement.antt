-- THE ROOTS of a pair of netlists, and when each agrees.
use Rattle.std.specs.Prelude.{ℕ, ◌<◌, ◌≡◌, not, List, [], ◌∷◌, ◌++◌, length, map, get_or, Option, None, Some}
use Rattle.std.specs.List.{filter}
use Rattle.kp_net.specs.{declared.netlist.NetReg.NetReg, declared.netlist.NetFile.NetFile, declared.netlist.WritePort.WritePort, Names.among, Netlist.Net}
use Rattle.kp_net.specs.Parts.{no_reg, no_file}
use Rattle.kp_equiv.specs.{Alike.Alike, Alike.reg_name, Alike.file_name, Named.reg_names, Named.file_names}

-- what is compared: the inputs, a register or a file by name, and the three outputs
pub data Root : Type 0 where
  Ports : Root
  Register : List ℕ → Root
  File : List ℕ → Root
  Full : Root
  Ue : Root
  Back : Root

-- the registers that only the second netlist has
abbrev pub names_of_second : Net → Net → List (List ℕ)
names_of_second a b = filter (λ n. not (among (reg_names a) n)) (reg_names b)

-- THE ROOTS, in their order. They are counted from 0.
unfoldable pub roots : Net → Net → List Root
roots a b =
    Ports ∷ (map Register (reg_names a) ++ (map Register (names_of_second a b) ++ (map File (file_names a) ++ (Full ∷ Ue ∷ Back ∷ []))))

-- registers with the same start value and equivalent next values
pub record RegsAlike (a b : Net) (r q : NetReg) : Type 0 where
  pub start : r.start ≡ q.start
  pub next : Alike a b r.next q.next

-- no write port on either side, or equivalent write ports
abbrev pub WritesAlike : Net → Net → Option WritePort → Option WritePort → Type 0
WritesAlike a b None None = Unit {0}
WritesAlike a b (Some p) (Some q) = Alike a b p.enable q.enable × Alike a b p.address q.address × Alike a b p.value q.value
WritesAlike a b _ _ = ⊥

pub record FilesAlike (a b : Net) (f g : NetFile) : Type 0 where
  pub words : f.words ≡ g.words
  pub port : WritesAlike a b f.port g.port

pub record PortsAgree (a b : Net) : Type 0 where
  pub reset : a.parts.reset ≡ b.parts.reset
  pub ext : a.parts.ext ≡ b.parts.ext
  pub samples : a.parts.samples ≡ b.parts.samples

-- both have a register with this name, and these are equivalent
pub record RegisterAgrees (a b : Net) (name : List ℕ) : Type 0 where
  pub first : ℕ
  pub second : ℕ
  pub in_first : first < length a.parts.regs
  pub in_second : second < length b.parts.regs
  pub named_first : reg_name a first ≡ name
  pub named_second : reg_name b second ≡ name
  pub alike : RegsAlike a b (get_or a.parts.regs first no_reg) (get_or b.parts.regs second no_reg)

pub record FileAgrees (a b : Net) (name : List ℕ) : Type 0 where
  pub first : ℕ
  pub second : ℕ
  pub in_first : first < length a.parts.files
  pub in_second : second < length b.parts.files
  pub named_first : file_name a first ≡ name
  pub named_second : file_name b second ≡ name
  pub alike : FilesAlike a b (get_or a.parts.files first no_file) (get_or b.parts.files second no_file)

-- WHEN A ROOT AGREES
abbrev pub Agrees : Net → Net → Root → Type 0
Agrees a b Ports = PortsAgree a b
Agrees a b (Register name) = RegisterAgrees a b name
Agrees a b (File name) = FileAgrees a b name
Agrees a b Full = Alike a b a.parts.full b.parts.full
Agrees a b Ue = Alike a b a.parts.ue b.parts.ue
Agrees a b Back = Alike a b a.parts.back b.parts.back

abbrev pub root : Net → Net → ℕ → Root
root a b k = get_or (roots a b) k Ports

-- the first n roots agree
abbrev pub AgreeBelow : Net → Net → ℕ → Type 0
AgreeBelow a b n = (k : ℕ) → k < n → Agrees a b (root a b k)

-- all roots agree
pub record AllAgree (a b : Net) : Type 0 where
  pub agree : AgreeBelow a b (length (roots a b))

-- root n is the first that doesn't agree
pub record IsFirstDifference (a b : Net) (n : ℕ) : Type 0 where
  pub there : n < length (roots a b)
  pub before : AgreeBelow a b n
  pub differs : Agrees a b (root a b n) → ⊥
