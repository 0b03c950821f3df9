-- The text of a message that lists the tokens which can be at a place (E4), and that of a sentence.
use Rattle.std.specs.Prelude.{ℕ, List, ◌++◌, Option, Some, None, codes}
use Rattle.kp_view_expected.specs.Texts.{expected_text}
use Rattle.kp_view_help.specs.{Phrases.phrase_text, Phrases.terms_texts, Texts.found_text}
use Rattle.kp_view_message.specs.declared.{reading_fault.ReadingFault.ReadingFault, message.Message.Message}
use Rattle.kp_view_message.specs.declared.reading_fault.ReadingFault.TheVariants as faults
use Rattle.kp_view_message.specs.declared.message.Message.TheVariants as messages

-- `expected CLASSES, found TOKEN`; nothing is said here of the texts of other messages
abbrev pub reading_text : ReadingFault → Option (List ℕ)
reading_text (faults.Unexpected found expected before) = Some (codes "expected " ++ expected_text expected ++ codes ", found " ++ found_text found)
reading_text _ = None

abbrev pub message_text : Message → Option (List ℕ)
message_text (messages.Reading fault) = reading_text fault
message_text (messages.Rule number said) = Some (phrase_text said.text.now (terms_texts said.terms))
message_text _ = None
