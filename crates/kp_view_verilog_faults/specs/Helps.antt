-- What helps where a rule of Verilog texts is violated: for which violations there is a line of help, and what of the violation it prints.
use Rattle.std.specs.Prelude.{◌≡◌, ◌==◌, ◌||◌, ◌+◌, ◌*◌, ◌^◌, ◌<◌, ◌≤◌, ℕ, if◌then◌else◌, List, [], ◌∷◌, Option, Some, None, decimal}
use Rattle.kp_view_help.specs.Texts.{bits_text, shown}
use Rattle.kp_vread_rules.specs.declared.fault.{DriverFault.DriverFault, Kind.Kind, ModuleFault.ModuleFault, NameFault.NameFault, Wanted.Wanted, WidthFault.WidthFault}
use Rattle.kp_view_verilog_faults.specs.declared.reading_fault.ReadingFault.{ReadingFault}
use Rattle.kp_vread_rules.specs.declared.fault.DriverFault.TheVariants as drivers
use Rattle.kp_view_verilog_faults.specs.declared.reading_fault.ReadingFault.TheVariants as readings
use Rattle.kp_vread_rules.specs.declared.fault.Kind.TheVariants as kinds
use Rattle.kp_vread_rules.specs.declared.fault.ModuleFault.TheVariants as modules
use Rattle.kp_vread_rules.specs.declared.fault.NameFault.TheVariants as names
use Rattle.kp_vread_rules.specs.declared.fault.Wanted.TheVariants as wanted
use Rattle.kp_vread_rules.specs.declared.fault.WidthFault.TheVariants as widths

-- THE HELP for a violation of V1 or V2, by the name that it prints; none where nothing is known to help.
abbrev pub reading_help : ReadingFault → Option (List (List ℕ))
reading_help (readings.NoToken byte) = if byte == 96 || byte == 33 || byte == 47 || byte == 37 then Some [] else None
reading_help _ = None

-- a wire is no source of an `assign`
abbrev pub wire_help : Kind → Wanted → List ℕ → Option (List (List ℕ))
wire_help kinds.Wire wanted.Source name = Some (shown name ∷ [])
wire_help _ _ name = None

-- THE HELP for a violation of V3 by this name.
abbrev pub name_help : List ℕ → NameFault → Option (List (List ℕ))
name_help name (names.WrongPort port) = Some []
name_help name names.NoPort = Some []
name_help name (names.DeclaredLate declared) = Some []
name_help name (names.WrongKind kind declared place) = wire_help kind place name
name_help name names.NoWire = Some (shown name ∷ [])
name_help name _ = None

-- the number has this many bits, and the highest one is 1
abbrev pub HasBits : ℕ → ℕ → Type 0
HasBits width value = (value < 2 ^ width) × (2 ^ width ≤ 2 * value + 1)

-- the help prints the literal of this value, with as many bits as it needs
abbrev pub IsLiteral : ℕ → Option (List (List ℕ)) → Type 0
IsLiteral value help = (width : ℕ) × HasBits width value × (help ≡ Some (bits_text width ∷ decimal width ∷ decimal value ∷ []))

-- THE HELP for a violation of V4 at this name, by the words that it prints: the literal with the bits that it needs, or the loop over the words of the file.
abbrev pub HelpsWidth : List ℕ → WidthFault → Option (List (List ℕ)) → Type 0
HelpsWidth name (widths.LiteralValue value width) help = IsLiteral value help
HelpsWidth name (widths.Loop words) help = help ≡ Some (decimal words ∷ shown name ∷ [])
HelpsWidth name _ help = help ≡ None

-- THE HELP for a violation of V5 by this name.
abbrev pub driver_help : List ℕ → DriverFault → Option (List (List ℕ))
driver_help name drivers.NeverAssigned = Some (shown name ∷ [])
driver_help name drivers.NoValue = Some (shown name ∷ [])
driver_help name drivers.NoStart = Some (shown name ∷ [])
driver_help name drivers.NoUpdate = Some (shown name ∷ [])
driver_help name drivers.NoFill = Some (shown name ∷ [])
driver_help name drivers.Itself = Some []
driver_help name (drivers.UpdatedAgain first) = Some []
driver_help name (drivers.AssignedAgain first) = Some []
driver_help name (drivers.AssignedLate assigned) = Some []
driver_help name drivers.Wide = Some []
driver_help name drivers.NoResetList = Some []
driver_help name _ = None

-- THE HELP for a violation of V3 to V5 by this name.
abbrev pub HelpsModule : List ℕ → ModuleFault → Option (List (List ℕ)) → Type 0
HelpsModule name (modules.Name fault) help = help ≡ name_help name fault
HelpsModule name (modules.Width fault) help = HelpsWidth name fault help
HelpsModule name (modules.Driver fault) help = help ≡ driver_help name fault
