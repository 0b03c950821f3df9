-- THE FINDINGS in a module: the names that violate V3; if there are none, the parts that violate V4; and if there are none, the names that violate V5.
use Rattle.std.specs.{Prelude.ℕ, Prelude.List, Prelude.[], Prelude.◌∷◌, Option.is_some}
use Rattle.kp_base.specs.{Findings.findings, declared.finding.Finding.Finding}
use Rattle.kp_vlog.specs.{declared.tree.VModule.VModule, Occurrences.names, Rules.all_driven, Rules.nothing}
use Rattle.kp_vread_rules.specs.declared.fault.ModuleFault.{ModuleFault}
use Rattle.kp_vread_rules.specs.{Faults.in_text, NameFaults.names_asked, WidthFaults.widths_asked, DriverFaults.drivers_asked}

-- these, or the others if there are none
abbrev pub or_else : {F : Type 0} → List F → List F → List F
or_else [] others = others
or_else (f ∷ fs) others = f ∷ fs

abbrev pub name_findings : List ℕ → VModule → List (Finding ModuleFault)
name_findings text m = findings (in_text text (names_asked (names m) [] (names m)))

abbrev pub width_findings : List ℕ → VModule → List (Finding ModuleFault)
width_findings text m = findings (in_text text (widths_asked m))

abbrev pub driver_findings : List ℕ → VModule → List (Finding ModuleFault)
driver_findings text m = findings (in_text text (drivers_asked (names m) (is_some m.reset) (all_driven m) nothing (names m)))

unfoldable pub module_findings : List ℕ → VModule → List (Finding ModuleFault)
module_findings text m = or_else (name_findings text m) (or_else (width_findings text m) (driver_findings text m))
