-- What a module declares.
use Rattle.std.specs.Prelude.{ℕ, ◌+◌, ◌^◌, ◌==◌, List, [], ◌∷◌, ◌++◌, codes, find, map, Bool, false, ◌||◌, ◌&&◌, if◌then◌else◌, Option, Some, None}
use Rattle.std.specs.List.{list_all}
use Rattle.kp_net.specs.Names.{same}
use Rattle.kp_base.specs.Characters.{is_digit}
use Rattle.kp_vlog.specs.declared.tree.{Range.Range, VPort.VPort, Item.Item}
use Rattle.kp_vlog.specs.declared.tree.Item.TheVariants.{Reg, File, Integer, Wire, Assign}
use Rattle.kp_vlog.specs.declared.tree.VModule.{VModule}

-- `n` and decimal digits
abbrev pub is_wire_name : List ℕ → Bool
is_wire_name (a ∷ b ∷ rest) = a == 110 && list_all is_digit (b ∷ rest)
is_wire_name _ = false

abbrev pub is_output_name : List ℕ → Bool
is_output_name n = same n (codes "full") || same n (codes "ue") || same n (codes "back")

-- how many names come before this one
abbrev pub place_of : List (List ℕ) → List ℕ → ℕ
place_of [] n = 0
place_of (k ∷ ks) n = if same n k then 0 else place_of ks n + 1

-- the width of the range `[high:0]`
abbrev pub width_of : Range → ℕ
width_of r = r.high.value + 1

-- the widths that an address may have
abbrev pub address_widths : List ℕ
address_widths = 1 ∷ 2 ∷ 3 ∷ 4 ∷ 5 ∷ 6 ∷ 7 ∷ 8 ∷ 9 ∷ 10 ∷ 11 ∷ 12 ∷ 13 ∷ 14 ∷ 15 ∷ 16 ∷ []

-- the width a of an address, if the words are numbered `[0:last]` and last + 1 is 2^a
abbrev pub address_width : ℕ → Option ℕ
address_width last = find (λ a. last + 1 == 2 ^ a) address_widths

-- the number of the last word in the second range of a file, `[0:last]`
abbrev pub last_of : Range → ℕ
last_of w = w.low.value

abbrev pub or_zero : Option ℕ → ℕ
or_zero (Some n) = n
or_zero None = 0

-- an object with a range: its name, its width, and for a file the width of an address
pub record Sized : Type 0 where
  pub name : List ℕ
  pub width : ℕ
  pub address : ℕ

abbrev pub Sizes : Type 0
Sizes = List Sized

abbrev pub width_in : Sizes → List ℕ → ℕ
width_in [] n = 0
width_in (s ∷ ss) n = if same n s.name then s.width else width_in ss n

abbrev pub address_in : Sizes → List ℕ → ℕ
address_in [] n = 0
address_in (s ∷ ss) n = if same n s.name then s.address else address_in ss n

abbrev pub port_size : VPort → Sized
port_size p = record { name = p.port.name; width = width_of p.range; address = 0 }

abbrev pub item_sizes : List Item → Sizes
item_sizes [] = []
item_sizes (Reg r n ∷ xs) = record { name = n.name; width = width_of r; address = 0 } ∷ item_sizes xs
item_sizes (File r n w ∷ xs) = record { name = n.name; width = width_of r; address = or_zero (address_width (last_of w)) } ∷ item_sizes xs
item_sizes (Integer n ∷ xs) = item_sizes xs
item_sizes (Wire r n ∷ xs) = record { name = n.name; width = width_of r; address = 0 } ∷ item_sizes xs
item_sizes (Assign t r ∷ xs) = item_sizes xs

abbrev pub sizes_of : VModule → Sizes
sizes_of m = port_size m.ext ∷ map port_size m.samples ++ (port_size m.full ∷ port_size m.ue ∷ port_size m.back ∷ item_sizes m.items)

-- the registers and the files, in the order of declaration
abbrev pub reg_names : List Item → List (List ℕ)
reg_names [] = []
reg_names (Reg r n ∷ xs) = n.name ∷ reg_names xs
reg_names (File r n w ∷ xs) = reg_names xs
reg_names (Integer n ∷ xs) = reg_names xs
reg_names (Wire r n ∷ xs) = reg_names xs
reg_names (Assign t r ∷ xs) = reg_names xs

abbrev pub file_names : List Item → List (List ℕ)
file_names [] = []
file_names (Reg r n ∷ xs) = file_names xs
file_names (File r n w ∷ xs) = n.name ∷ file_names xs
file_names (Integer n ∷ xs) = file_names xs
file_names (Wire r n ∷ xs) = file_names xs
file_names (Assign t r ∷ xs) = file_names xs

-- widths by names, and the names by which sample ports, registers and files are numbered
pub record Scope : Type 0 where
  pub sizes : Sizes
  pub samples : List (List ℕ)
  pub regs : List (List ℕ)
  pub files : List (List ℕ)

abbrev pub scope_of : VModule → Scope
scope_of m = record {
  sizes = sizes_of m;
  samples = map (λ p. p.port.name) m.samples;
  regs = reg_names m.items;
  files = file_names m.items;
}
