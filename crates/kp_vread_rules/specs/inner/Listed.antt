-- The meaning of an occurrence in the reader's list.
use Rattle.kp_vlog.specs.Occurrences.{Occurrence}
use Rattle.kp_vread_rules.specs.{declared.names.Occurrence.Occurrence as Listed, inner.Roles.role_of}

abbrev pub occurrence_of : Listed → Occurrence
occurrence_of o = record { role = role_of o.role; named = o.named.now }
