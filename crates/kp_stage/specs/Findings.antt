-- What a check of stages finds: a way to violate a rule, with its facts and its place.
use Rattle.std.specs.Prelude.{ℕ, Option, Some, None, Bool, not}
use Rattle.kp_base.specs.{Check.answer, Refusal.e_rule, declared.finding.Finding.Finding, declared.place.Place.Place, declared.refusal.Refusal.Refusal}
use Rattle.kp_stage.specs.declared.fault.StageFault.{StageFault}
use Rattle.kp_stage.specs.declared.fault.StageFault.TheVariants as faults

-- a violation, or none
abbrev pub Answer : Type 0
Answer = Option (Finding StageFault)

-- the number of the rule, as it is printed in an error message
abbrev pub rule_of : StageFault → ℕ
rule_of (faults.StageCount stages) = 15
rule_of (faults.FewBlocks stages blocks) = 15
rule_of (faults.BlockNumber found wanted) = 15
rule_of (faults.BlockBeyond stages) = 15
rule_of (faults.NoStage found stages) = 15
rule_of faults.NeverPut = 16
rule_of (faults.PutAgain stage index) = 16
rule_of (faults.UsedEarly put index here) = 17
rule_of (faults.ReadLate write here) = 18
rule_of (faults.PutLate put write) = 19
rule_of (faults.SetLate write here) = 20
rule_of (faults.SetAgain index) = 21
rule_of (faults.AimedAgain stage index) = 21
rule_of (faults.SecondResult number) = 22
rule_of faults.GuessedFile = 23
rule_of faults.GuessWithoutResult = 23
rule_of (faults.GuessLate write here) = 23
rule_of (faults.EarlyWrite stage top) = 24
rule_of faults.HintAsValue = 25
rule_of faults.TooLarge = 28
rule_of (faults.TooMany counted) = 29
rule_of (faults.SampleElsewhere stage here) = 34
rule_of (faults.EarlySample stage top) = 35

abbrev pub refusal_of : Finding StageFault → Refusal
refusal_of f = e_rule (rule_of f.fault) f.place

-- the violation at this place, unless the test holds
abbrev pub broken_unless : Bool → StageFault → Place → Answer
broken_unless holds fault at = answer holds (record { place = at; fault = fault })

-- the violation at this place if something is found that passes the test, with facts of what is found
abbrev pub broken_if : {X : Type 0} → (X → Bool) → (X → StageFault) → Option X → Place → Answer
broken_if test fault None at = None
broken_if test fault (Some x) at = broken_unless (not (test x)) (fault x) at
