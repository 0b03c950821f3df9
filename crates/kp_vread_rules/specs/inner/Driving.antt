-- What a check of drivers looks up.
use Rattle.std.specs.Prelude.{List, map, Option}
use Rattle.kp_vlog.specs.{Occurrences.Occurrence, Rules.Driven}
use Rattle.kp_vread_rules.specs.{DriverFaults.drivers_asked, inner.Listed.occurrence_of}
use Rattle.kp_vread_rules.specs.declared.{driver_rule.Asked.Asked, fault.Found.Found}

abbrev pub asked_in : Asked → Driven → List Occurrence → List (Option Found)
asked_in asked so_far os = drivers_asked (map occurrence_of asked.names.now) asked.resets asked.all.now so_far os
