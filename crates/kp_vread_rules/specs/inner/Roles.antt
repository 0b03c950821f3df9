-- The meaning of the reader's roles and occurrences.
use Rattle.kp_vlog.specs.Occurrences as roles
use Rattle.kp_vread_rules.specs.{Ports.port_name, declared.role.Role.Role}
use Rattle.kp_vread_rules.specs.declared.role.Role.TheVariants as kinds

abbrev pub role_of : Role → roles.Role
role_of kinds.NamesModule = roles.names_module
role_of (kinds.DeclaresPort k) = roles.declares_port (port_name k)
role_of kinds.DeclaresSample = roles.declares_sample
role_of kinds.DeclaresReg = roles.declares_reg
role_of kinds.DeclaresFile = roles.declares_file
role_of kinds.DeclaresInteger = roles.declares_integer
role_of kinds.DeclaresWire = roles.declares_wire
role_of kinds.Gives = roles.gives
role_of kinds.UsesWire = roles.uses_wire
role_of kinds.UsesSource = roles.uses_source
role_of kinds.UsesFile = roles.uses_file
role_of kinds.UsesInteger = roles.uses_integer
role_of (kinds.UsesPort k) = roles.uses_port (port_name k)
role_of kinds.StartsReg = roles.starts_reg
role_of kinds.StartsWord = roles.starts_word
role_of kinds.FillsFile = roles.fills_file
role_of kinds.ResetsReg = roles.resets_reg
role_of kinds.UpdatesReg = roles.updates_reg
role_of kinds.UpdatesFile = roles.updates_file
role_of kinds.GivesNoWire = roles.gives_no_wire
role_of kinds.IsGiven = roles.is_given
role_of (kinds.Needs holds) = roles.needs holds
