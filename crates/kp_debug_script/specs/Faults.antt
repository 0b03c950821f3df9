-- The ways in which a line of a script violates a rule.
use Rattle.std.specs.Prelude.{◌≡◌, ℕ, List, take, Result, Ok, Err, ⊤}
use Rattle.kp_base.specs.{Place.place_after, Refusal.e_rule, declared.finding.Finding.Finding, declared.refusal.Refusal.Refusal}
use Rattle.kp_debug_script.specs.declared.fault.{Fault.Fault, Misread.Misread, ScriptFault.ScriptFault}
use Rattle.kp_debug_script.specs.declared.fault.ScriptFault.TheVariants as faults
use Rattle.kp_debug_script.specs.declared.fault.Misread.TheVariants as misread

-- the number of the rule
abbrev pub rule_of : ScriptFault → ℕ
rule_of faults.NoCommand = 39
rule_of (faults.Words verb) = 39
rule_of (faults.NoCount verb word) = 39
rule_of (faults.NoLiteral word) = 39
rule_of faults.ManyCycles = 40
rule_of faults.Undeclared = 41
rule_of (faults.NoRegister number) = 41
rule_of (faults.Width found wanted value declared) = 41
rule_of (faults.Value value width) = 41
rule_of faults.LargeValue = 41

abbrev pub ScriptFinding : Type 0
ScriptFinding = Finding ScriptFault

abbrev pub finding_of : List ℕ → Fault → ScriptFinding
finding_of text fault = record { place = place_after (take fault.at text); fault = fault.kind }

abbrev pub refusal_of : ScriptFinding → Refusal
refusal_of f = e_rule (rule_of f.fault) f.place

-- the violated rule in place of the violation
abbrev pub verdict_of : {X : Type 0} → Result X ScriptFinding → Result X Refusal
verdict_of (Ok x) = Ok x
verdict_of (Err finding) = Err (refusal_of finding)

-- what a call returns that reads a script: the outcome, where `value` maps its result to what is specified; or out of memory
abbrev pub Reads : {T X : Type 0} → Result T Misread → Result X ScriptFinding → (T → X) → Type 0
Reads (Ok t) found value = found ≡ Ok (value t)
Reads (Err (misread.Found f)) found value = found ≡ Err f
Reads (Err misread.NoMemory) found value = ⊤
