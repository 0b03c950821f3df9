-- The number of the rule that each message is about (docs/LANGUAGE.md, E1 to E41), and that of each warning (docs/KPVIEW.md).
use Rattle.std.specs.Prelude.{ℕ}
use Rattle.kp_image.specs.Faults.{rule_of as section_rule}
use Rattle.kp_view_message.specs.declared.reading_fault.ReadingFault.{ReadingFault}
use Rattle.kp_stage.specs.Findings.{rule_of as stage_rule}
use Rattle.kp_view_message.specs.declared.{message.Message.Message, warning.Warning.Warning}
use Rattle.kp_view_message.specs.declared.reading_fault.ReadingFault.TheVariants as reading
use Rattle.kp_view_message.specs.declared.message.Message.TheVariants as messages
use Rattle.kp_view_message.specs.declared.warning.Warning.TheVariants as warnings

abbrev pub reading_rule : ReadingFault → ℕ
reading_rule (reading.NoToken _) = 1
reading_rule (reading.LongName _) = 1
reading_rule reading.NoNumber = 2
reading_rule (reading.Unexpected _ _ _) = 4
reading_rule reading.AfterEnd = 4
reading_rule reading.TooDeep = 27

abbrev pub rule_of : Message → ℕ
rule_of (messages.Reading fault) = reading_rule fault
rule_of (messages.Stage said) = stage_rule said.fault
rule_of (messages.Section said) = section_rule said.fault
rule_of (messages.Rule number said) = number
rule_of (messages.Fixed number) = number

abbrev pub warning_number : Warning → ℕ
warning_number (warnings.NeverSet _ _) = 1
warning_number (warnings.MaybeUnset _ _ _ _ _) = 1
warning_number (warnings.SetInVain _ _ _) = 3
warning_number (warnings.UnusedPipe _) = 4
warning_number (warnings.UnusedLocal _ _) = 5
warning_number (warnings.UnusedName _ _) = 5
warning_number (warnings.NoResult _) = 6
warning_number (warnings.PutLate _ _ _) = 7
warning_number (warnings.KeywordPort _) = 8
