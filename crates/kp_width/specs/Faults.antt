-- What a check of names and widths finds: a way to violate a rule, with its facts and its place.
use Rattle.std.specs.Prelude.{ℕ, Bool, true, false}
use Rattle.kp_base.specs.{Refusal.e_rule, declared.finding.Finding.Finding, declared.place.Place.Place, declared.refusal.Refusal.Refusal}
use Rattle.kp_width.specs.declared.fault.WidthFault.{WidthFault}
use Rattle.kp_width.specs.declared.fault.WidthFault.TheVariants as faults

abbrev pub WidthFinding : Type 0
WidthFinding = Finding WidthFault

-- the violation at this place
abbrev pub found_at : Place → WidthFault → WidthFinding
found_at place fault = record { place = place; fault = fault }

-- the number of the rule, as it is printed in an error message
abbrev pub rule_of : WidthFault → ℕ
rule_of (faults.DeclaredAgain found from here) = 5
rule_of (faults.NotInScope here bound) = 6
rule_of (faults.WrongKind found from wanted here) = 7
rule_of (faults.ArgumentCount found wanted function) = 7
rule_of faults.Doubtful = 7
rule_of (faults.DeclaredWidth width) = 8
rule_of (faults.LiteralWidth width) = 8
rule_of faults.JoinedWidth = 8
rule_of (faults.Operands op left right left_at right_at) = 9
rule_of (faults.Branches left right left_at right_at) = 9
rule_of (faults.Value found wanted to) = 10
rule_of (faults.Start found wanted) = 10
rule_of (faults.Target result target kind from) = 10
rule_of (faults.Condition found) = 11
rule_of (faults.Enable found from) = 11
rule_of (faults.Slice hi lo width) = 12
rule_of (faults.Extension from to) = 12
rule_of (faults.LiteralValue value width) = 13
rule_of (faults.DeclaredAddress width) = 14
rule_of (faults.Address found wanted file) = 14
rule_of (faults.CalledEarly before) = 26

abbrev pub refusal_of : WidthFinding → Refusal
refusal_of f = e_rule (rule_of f.fault) f.place

abbrev pub is_doubtful : WidthFault → Bool
is_doubtful faults.Doubtful = true
is_doubtful _ = false
