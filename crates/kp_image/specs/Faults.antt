-- The rule that a fault of a section violates.
use Rattle.std.specs.Prelude.{ℕ}
use Rattle.kp_base.specs.{Refusal.e_rule, declared.finding.Finding.Finding, declared.refusal.Refusal.Refusal}
use Rattle.kp_image.specs.declared.fault.SectionFault.{SectionFault}
use Rattle.kp_image.specs.declared.fault.SectionFault.TheVariants as faults

abbrev pub rule_of : SectionFault → ℕ
rule_of (faults.LiteralWidth width) = 8
rule_of (faults.ValueWidth name kind width found value) = 10
rule_of (faults.LiteralValue width value) = 13
rule_of faults.Unknown = 30
rule_of (faults.Empty kind declared) = 30
rule_of (faults.NoAddress declared) = 30
rule_of (faults.NeedlessAddress declared) = 30
rule_of (faults.AddressBeyond name words address) = 31
rule_of (faults.WordBeyond name words) = 31
rule_of (faults.SecondStart name) = 31
rule_of (faults.NoStage found stages) = 32
rule_of faults.StallStep = 32
rule_of faults.UnknownSample = 36
rule_of (faults.NoSample kind declared) = 36
rule_of faults.InputStep = 37

-- the violated rule, at the place of the finding
abbrev pub refusal_of : Finding SectionFault → Refusal
refusal_of f = e_rule (rule_of f.fault) f.place
