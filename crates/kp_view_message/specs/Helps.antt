-- What helps where a rule is violated, and what helps of a warning.
use Rattle.std.specs.Prelude.{ℕ, ◌≡◌, List, [], ◌∷◌, ◌==◌, if◌then◌else◌, Option, Some, None}
use Rattle.kp_bits.specs.declared.literal.Literal.{Literal}
use Rattle.kp_image.specs.declared.fault.SectionFault.{SectionFault}
use Rattle.kp_view_help.specs.Helps.{byte_help, HelpsAt}
use Rattle.kp_view_help.specs.declared.{help.Help.Help, word.Word.Word}
use Rattle.kp_view_help.specs.declared.help.Help.TheVariants as help
use Rattle.kp_view_message.specs.declared.reading_fault.ReadingFault.{ReadingFault}
use Rattle.kp_stage.specs.declared.fault.StageFault.{StageFault}
use Rattle.kp_view_message.specs.declared.{stage_fault.StageMessage.StageMessage, section_fault.SectionMessage.SectionMessage}
use Rattle.kp_view_message.specs.declared.{message.Message.Message, warning.Warning.Warning}
use Rattle.kp_view_message.specs.declared.reading_fault.ReadingFault.TheVariants as reading
use Rattle.kp_stage.specs.declared.fault.StageFault.TheVariants as stage
use Rattle.kp_image.specs.declared.fault.SectionFault.TheVariants as section
use Rattle.kp_view_message.specs.declared.message.Message.TheVariants as messages
use Rattle.kp_view_message.specs.declared.warning.Warning.TheVariants as warnings
use Rattle.kp_view_message.specs.Widths.{fit}

-- at a byte that begins no token, and at an unexpected token, what kp_view_help says of it
abbrev pub IsReadingHelp : ReadingFault → Option Help → Type 0
IsReadingHelp (reading.NoToken byte) result = result ≡ byte_help byte
IsReadingHelp (reading.Unexpected found expected before) result = HelpsAt found expected before result
IsReadingHelp reading.TooDeep result = result ≡ Some help.NamePart
IsReadingHelp _ result = result ≡ None

-- the name that a fault of stages is of, the first result of its target, and the line that is printed
abbrev pub stage_help_for : StageFault → Word → Word → ℕ → Option Help
stage_help_for (stage.FewBlocks _ blocks) name first line = Some (help.EmptyStage blocks)
stage_help_for stage.NeverPut name first line = Some (help.PutIt name)
stage_help_for (stage.PutAgain _ _) name first line = Some help.OnePut
stage_help_for (stage.UsedEarly put _ here) name first line = if put == here then Some (help.SameStage put) else None
stage_help_for (stage.ReadLate _ _) name first line = Some help.ReadEarlier
stage_help_for (stage.PutLate _ _) name first line = Some help.PutBefore
stage_help_for (stage.SetLate write here) name first line = Some (help.WriteLater line here write)
stage_help_for (stage.SetAgain _) name first line = Some (help.OneSet name)
stage_help_for (stage.AimedAgain _ _) name first line = Some (help.OneAim name)
stage_help_for (stage.SecondResult _) name first line = Some (help.OneResult first)
stage_help_for (stage.EarlyWrite _ _) name first line = Some help.NotWritten
stage_help_for (stage.EarlySample _ _) name first line = Some help.NotSampled
stage_help_for (stage.SampleElsewhere _ _) name first line = Some help.SamplePipe
stage_help_for _ name first line = None

abbrev pub stage_help : StageMessage → Option Help
stage_help said = stage_help_for said.fault said.name said.first said.line

-- in an entry with this name
abbrev pub section_help_for : SectionFault → Word → Option Help
section_help_for (section.NoAddress _) name = Some (help.WithNumber name)
section_help_for (section.ValueWidth _ _ width found value) name = let literal : Literal = record { width = found; value = value } in Some (fit (Some literal) found width)
section_help_for (section.LiteralValue _ value) name = Some (help.LiteralBits value)
section_help_for _ name = None

abbrev pub section_help : SectionMessage → Option Help
section_help said = section_help_for said.fault said.name

abbrev pub IsHelp : Message → Option Help → Type 0
IsHelp (messages.Reading fault) result = IsReadingHelp fault result
IsHelp (messages.Stage said) result = result ≡ stage_help said
IsHelp (messages.Section said) result = result ≡ section_help said
IsHelp (messages.Rule number said) result = result ≡ said.helps.0
IsHelp (messages.Fixed _) result = result ≡ None

abbrev pub second_help : Message → Option Help
second_help (messages.Rule number said) = said.helps.1
second_help _ = None

-- the lines of help of a message
abbrev pub AreHelps : Message → List (Option Help) → Type 0
AreHelps message result = (first : Option Help) × IsHelp message first × (result ≡ first ∷ second_help message ∷ None ∷ [])

-- and those of a warning
abbrev pub warning_helps : Warning → List (Option Help)
warning_helps (warnings.MaybeUnset result target file stage lines) =
    Some (help.SetOnlyIn result lines) ∷ Some (help.EnableIt target stage file) ∷ None ∷ []
warning_helps (warnings.SetInVain _ _ _) = Some help.FirstCounts ∷ None ∷ None ∷ []
warning_helps _ = None ∷ None ∷ None ∷ []
