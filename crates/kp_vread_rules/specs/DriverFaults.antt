-- How a name violates V5, among all names of a module.
use Rattle.std.specs.Prelude.{ℕ, nat_lt, List, [], ◌∷◌, codes, Bool, if◌then◌else◌, Option, Some, None}
use Rattle.kp_base.specs.Check.{answer}
use Rattle.kp_net.specs.Names.{same, among}
use Rattle.kp_vlog.specs.{Occurrences.Role, Occurrences.Occurrence, Rules.Driven, Rules.driver_fits, Rules.drives, Scope.is_output_name, declared.tree.Named.Named}
use Rattle.kp_vlog.specs.Occurrences as roles
use Rattle.kp_vread_rules.specs.declared.fault.{DriverFault.DriverFault, Found.Found}
use Rattle.kp_vread_rules.specs.{Faults.found, Firsts.is_target, Firsts.starts, Firsts.fills, Firsts.resets, Firsts.updates, Firsts.first_that, Firsts.first_at}
use Rattle.kp_vread_rules.specs.declared.fault.DriverFault.TheVariants as faults
use Rattle.kp_vread_rules.specs.declared.fault.ModuleFault.TheVariants as modules

-- a wire that has no value so far, by the first `assign` to it: it is used in its own value if that began before the use
abbrev pub unassigned : ℕ → Option Occurrence → DriverFault
unassigned at None = faults.NeverAssigned
unassigned at (Some o) = if nat_lt o.named.at at then faults.Itself else faults.AssignedLate o.named.at

-- what a name needs of the module, by the name: of `rst` a reset list, of an output the width of `ext`, of a register in the reset list its start value
abbrev pub unmet : List Occurrence → Named → DriverFault
unmet os n =
    if same n.name (codes "rst") then faults.NoResetList else
    if is_output_name n.name then faults.Wide else faults.OtherStart (first_at starts n os)

-- given what the complete module drives
abbrev pub driver_fault : List Occurrence → Driven → Role → Named → DriverFault
driver_fault os all (roles.declares_port k) n = faults.NoValue
driver_fault os all roles.declares_wire n = faults.NeverAssigned
driver_fault os all roles.declares_reg n =
    if among all.started n.name then (if among all.updated n.name then faults.NoReset else faults.NoUpdate) else faults.NoStart
driver_fault os all roles.declares_file n = faults.NoFill
driver_fault os all roles.gives n = faults.AssignedAgain (first_at is_target n os)
driver_fault os all roles.uses_wire n = unassigned n.at (first_that is_target n.name os)
driver_fault os all roles.starts_reg n = faults.StartedAgain (first_at starts n os)
driver_fault os all roles.starts_word n = faults.FilledLate
driver_fault os all roles.fills_file n = faults.FilledAgain (first_at fills n os)
driver_fault os all roles.resets_reg n = faults.ResetAgain (first_at resets n os)
driver_fault os all roles.updates_reg n = faults.UpdatedAgain (first_at updates n os)
driver_fault os all roles.updates_file n = faults.UpdatedAgain (first_at updates n os)
driver_fault os all _ n = unmet os n

-- given what is driven so far; `resets`: there is a reset list
abbrev pub driver_answer : List Occurrence → Bool → Driven → Driven → Occurrence → Option Found
driver_answer os resets all so_far o =
    answer (driver_fits resets all so_far o.role o.named.name) (found o.named.at (modules.Driver (driver_fault os all o.role o.named)))

-- each name in the order of the text
abbrev pub drivers_asked : List Occurrence → Bool → Driven → Driven → List Occurrence → List (Option Found)
drivers_asked os resets all so_far [] = []
drivers_asked os resets all so_far (x ∷ xs) = driver_answer os resets all so_far x ∷ drivers_asked os resets all (drives so_far x.role x.named.name) xs
