-- The ways in which a program violates a rule.
use Rattle.std.specs.Prelude.{◌≡◌, ℕ, List, take, Result, Ok, Err, ⊤}
use Rattle.kp_base.specs.{Place.place_after, Refusal.a_rule, declared.finding.Finding.Finding, declared.place.Place.Place, declared.refusal.Refusal.Refusal}
use Rattle.kp_asm.specs.declared.fault.{ProgramFault.ProgramFault, Misread.Misread}
use Rattle.kp_asm.specs.declared.fault.ProgramFault.TheVariants as faults
use Rattle.kp_asm.specs.declared.fault.Misread.TheVariants as misread

-- the number of the rule
abbrev pub rule_of : ProgramFault → ℕ
rule_of (faults.NoToken byte) = 1
rule_of (faults.LongName length) = 1
rule_of faults.NoDigits = 1
rule_of faults.NoDirective = 1
rule_of faults.NoInstruction = 2
rule_of faults.SecondLabel = 2
rule_of faults.Capitals = 2
rule_of faults.NoMnemonic = 2
rule_of (faults.WrongOperand mnemonic wanted) = 3
rule_of faults.NoRegister = 4
rule_of (faults.OutOfRange mnemonic wanted) = 5
rule_of (faults.LabelAgain first) = 6
rule_of faults.LabelNowhere = 6
rule_of faults.TooMany = 7

abbrev pub ProgramFinding : Type 0
ProgramFinding = Finding ProgramFault

abbrev pub refusal_of : ProgramFinding → Refusal
refusal_of f = a_rule (rule_of f.fault) f.place

abbrev pub place_in : List ℕ → ℕ → Place
place_in text offset = place_after (take offset text)

-- the violation at this offset
abbrev pub broken : List ℕ → ProgramFault → ℕ → ProgramFinding
broken text fault offset = record { place = place_in text offset; fault = fault }

-- what a call returns that reads a part of a program: the outcome, where `value` maps its result to what is specified; or out of memory
abbrev pub Reads : {T X : Type 0} → Result T Misread → Result X ProgramFinding → (T → X) → Type 0
Reads (Ok t) found value = found ≡ Ok (value t)
Reads (Err (misread.Found f)) found value = found ≡ Err f
Reads (Err misread.NoMemory) found value = ⊤
