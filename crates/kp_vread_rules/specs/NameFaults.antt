-- How a name violates V3, among all names of a module.
use Rattle.std.specs.Prelude.{ℕ, List, [], ◌∷◌, codes, Bool, true, false, if◌then◌else◌, Option, Some, None}
use Rattle.kp_base.specs.Check.{answer}
use Rattle.kp_net.specs.Names.{same, among, is_reg_name, is_file_name, is_sample_name}
use Rattle.kp_vlog.specs.{Occurrences.Role, Occurrences.Occurrence, Rules.name_fits, Rules.learns, Scope.is_wire_name, declared.tree.Named.Named}
use Rattle.kp_vlog.specs.Occurrences as roles
use Rattle.kp_vread_rules.specs.declared.fault.{Found.Found, Kind.Kind, NameFault.NameFault, Wanted.Wanted}
use Rattle.kp_vread_rules.specs.declared.role.PortName.{PortName}
use Rattle.kp_vread_rules.specs.{Faults.found, Firsts.declares, Firsts.first_that, Firsts.first_at, Ports.port_name}
use Rattle.kp_vread_rules.specs.declared.fault.Form.TheVariants as forms
use Rattle.kp_vread_rules.specs.declared.fault.Kind.TheVariants as kinds
use Rattle.kp_vread_rules.specs.declared.fault.ModuleFault.TheVariants as modules
use Rattle.kp_vread_rules.specs.declared.fault.NameFault.TheVariants as faults
use Rattle.kp_vread_rules.specs.declared.fault.Wanted.TheVariants as wanted
use Rattle.kp_vread_rules.specs.declared.role.PortName.TheVariants as ports

-- the port with this name
abbrev pub port_of : List ℕ → PortName
port_of n =
    if same n (codes "clk") then ports.Clk else
    if same n (codes "rst") then ports.Rst else
    if same n (codes "ext") then ports.Ext else
    if same n (codes "full") then ports.Full else
    if same n (codes "ue") then ports.Ue else ports.Back

-- what a name denotes that is declared in this role
abbrev pub kind_of : Role → Kind
kind_of (roles.declares_port k) = kinds.Port
kind_of roles.declares_sample = kinds.Sample
kind_of roles.declares_reg = kinds.Register
kind_of roles.declares_file = kinds.File
kind_of roles.declares_integer = kinds.Integer
kind_of _ = kinds.Wire

-- a declaration whose name has its form is the second one
abbrev pub wrong_declaration : List Occurrence → Named → Bool → NameFault → NameFault
wrong_declaration all n has_form fault = if has_form then faults.DeclaredAgain (first_at declares n all) else fault

-- the port itself is used
abbrev pub is_port : Wanted → List ℕ → Bool
is_port (wanted.Port port) n = same n (port_name port)
is_port _ n = false

-- a use, by whether the name is declared before it, and its first declaration in the module
abbrev pub wrong_use : Wanted → List ℕ → Bool → Option Occurrence → NameFault
wrong_use place n known None = if is_port place n then faults.NoPort else faults.Undeclared place
wrong_use place n true (Some o) = faults.WrongKind (kind_of o.role) o.named.at place
wrong_use place n false (Some o) = faults.DeclaredLate o.named.at

abbrev pub wrong_use_of : List Occurrence → List (List ℕ) → Named → Wanted → NameFault
wrong_use_of all known n place = wrong_use place n.name (among known n.name) (first_that declares n.name all)

abbrev pub name_fault : List Occurrence → List (List ℕ) → Role → Named → NameFault
name_fault all known roles.names_module n = faults.WrongForm forms.Module
name_fault all known (roles.declares_port k) n = wrong_declaration all n (same n.name k) (faults.WrongPort (port_of k))
name_fault all known roles.declares_sample n = wrong_declaration all n (is_sample_name n.name) (faults.WrongForm forms.Sample)
name_fault all known roles.declares_reg n = wrong_declaration all n (is_reg_name n.name) (faults.WrongForm forms.Register)
name_fault all known roles.declares_file n = wrong_declaration all n (is_file_name n.name) (faults.WrongForm forms.File)
name_fault all known roles.declares_integer n = wrong_declaration all n (same n.name (codes "i")) (faults.WrongForm forms.Integer)
name_fault all known roles.declares_wire n = wrong_declaration all n (is_wire_name n.name) (faults.WrongForm forms.Wire)
name_fault all known roles.gives n = wrong_use_of all known n wanted.WireOrOutput
name_fault all known roles.uses_wire n = wrong_use_of all known n wanted.Wire
name_fault all known roles.uses_source n = wrong_use_of all known n wanted.Source
name_fault all known roles.uses_file n = wrong_use_of all known n wanted.File
name_fault all known roles.uses_integer n = wrong_use_of all known n wanted.Integer
name_fault all known (roles.uses_port k) n = wrong_use_of all known n (wanted.Port (port_of k))
name_fault all known roles.starts_reg n = wrong_use_of all known n wanted.Register
name_fault all known roles.starts_word n = wrong_use_of all known n wanted.File
name_fault all known roles.fills_file n = wrong_use_of all known n wanted.File
name_fault all known roles.resets_reg n = wrong_use_of all known n wanted.Register
name_fault all known roles.updates_reg n = wrong_use_of all known n wanted.Register
name_fault all known roles.updates_file n = wrong_use_of all known n wanted.File
name_fault all known _ n = faults.NoWire

-- given the names that are declared so far
abbrev pub name_answer : List Occurrence → List (List ℕ) → Occurrence → Option Found
name_answer all known o = answer (name_fits known o.role o.named.name) (found o.named.at (modules.Name (name_fault all known o.role o.named)))

-- each name in the order of the text
abbrev pub names_asked : List Occurrence → List (List ℕ) → List Occurrence → List (Option Found)
names_asked all known [] = []
names_asked all known (o ∷ os) = name_answer all known o ∷ names_asked all (learns known o.role o.named.name) os
