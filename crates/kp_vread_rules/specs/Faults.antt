-- A violation of one of the rules V3 to V5: its rule, its position in the text, and the verdict.
use Rattle.std.specs.Prelude.{ℕ, List, take, map, Option, option_map}
use Rattle.kp_base.specs.{Place.place_after, Refusal.v_rule, declared.finding.Finding.Finding, declared.refusal.Refusal.Refusal}
use Rattle.kp_vread_rules.specs.declared.fault.{ModuleFault.ModuleFault, Found.Found}
use Rattle.kp_vread_rules.specs.declared.fault.ModuleFault.TheVariants as faults

abbrev pub rule_of : ModuleFault → ℕ
rule_of (faults.Name fault) = 3
rule_of (faults.Width fault) = 4
rule_of (faults.Driver fault) = 5

abbrev pub refusal_of : Finding ModuleFault → Refusal
refusal_of f = v_rule (rule_of f.fault) f.place

abbrev pub found : ℕ → ModuleFault → Found
found at fault = record { at = at; fault = fault }

-- a violation at an offset, at its position in the text
abbrev pub placed : List ℕ → Found → Finding ModuleFault
placed text f = record { place = place_after (take f.at text); fault = f.fault }

abbrev pub in_text : List ℕ → List (Option Found) → List (Option (Finding ModuleFault))
in_text text answers = map (option_map (placed text)) answers
