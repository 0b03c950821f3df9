-- What a check of widths looks up, and what is sought of a role.
use Rattle.std.specs.Prelude.{List, map, Bool}
use Rattle.kp_vlog.specs.{Occurrences.Role, Occurrences.Occurrence, Scope.Scope}
use Rattle.kp_vread_rules.specs.{Firsts.declares, Firsts.is_target, Firsts.starts, Firsts.fills, Firsts.resets, Firsts.updates}
use Rattle.kp_vread_rules.specs.inner.{Listed.occurrence_of, Sizing.by_sizes}
use Rattle.kp_vread_rules.specs.declared.{first.Sought.Sought, width_fault.Asked.Asked}
use Rattle.kp_vread_rules.specs.declared.first.Sought.TheVariants as sought

abbrev pub does : Sought → Role → Bool
does sought.Declaration = declares
does sought.Target = is_target
does sought.Start = starts
does sought.Fill = fills
does sought.Reset = resets
does sought.Update = updates

abbrev pub names_in : Asked → List Occurrence
names_in asked = map occurrence_of asked.names.now

abbrev pub scope_in : Asked → Scope
scope_in asked = by_sizes asked.sizes.now
