-- WHICH NETLISTS ARE COMPARED, and the meaning of a verdict on their roots.
use Rattle.std.specs.Prelude.{ℕ, ◌<◌, ◌≡◌, List, length, get_or}
use Rattle.kp_net.specs.{declared.netlist.NetFile.NetFile, Netlist.Net, Parts.no_file}
use Rattle.kp_equiv.specs.{Named.HasNames, Agreement.AllAgree, Agreement.IsFirstDifference, declared.verdict.Verdict.Verdict}
use Rattle.kp_equiv.specs.declared.verdict.Verdict.TheVariants.{Same, Differs}

-- THE MEANING OF A VERDICT
abbrev pub IsVerdict : Net → Net → Verdict → Type 0
IsVerdict a b Same = AllAgree a b
IsVerdict a b (Differs n) = IsFirstDifference a b n

-- the same file in two netlists: its name and its widths
pub record IsSameFile (f g : NetFile) : Type 0 where
  pub name : f.name ≡ g.name
  pub width : f.width ≡ g.width
  pub address : f.address_width ≡ g.address_width

-- each file of the first is among those of the second
abbrev pub HasFiles : List NetFile → List NetFile → Type 0
HasFiles fs gs = (f : ℕ) → f < length fs → (g : ℕ) × (g < length gs) × IsSameFile (get_or fs f no_file) (get_or gs g no_file)

-- WHICH NETLISTS ARE COMPARED: both have the same files with the same widths, and names that differ
pub record IsComparable (a b : Net) : Type 0 where
  pub first : HasNames a
  pub second : HasNames b
  pub there : HasFiles a.parts.files b.parts.files
  pub back : HasFiles b.parts.files a.parts.files
