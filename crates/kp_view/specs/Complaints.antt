-- A complaint: a status other than 0, and a text on standard error.
use Rattle.std.specs.Prelude.{ℕ, List, ◌++◌, Option}
use Rattle.kp_view_words.specs.Texts.{usage_text}
use Rattle.kp_view.specs.{Texts.file_text, Texts.label_wrong, Texts.names_text, Texts.refusal_said, declared.failure.Complaint.Complaint}
use Rattle.kp_view.specs.declared.failure.Complaint.TheVariants.{BadWords, WrongNames, WrongLabel, Refused, Misdirected}

abbrev pub complaint_status : Complaint → ℕ
complaint_status (BadWords topic) = 1
complaint_status (WrongNames given stages) = 1
complaint_status (WrongLabel word) = 1
complaint_status (Refused refusal) = 2
complaint_status (Misdirected said) = 2

-- the text, with the name of the file
abbrev pub said_of : List ℕ → Complaint → List ℕ
said_of name (BadWords topic) = usage_text topic
said_of name (WrongNames given stages) = names_text given stages
said_of name (WrongLabel word) = label_wrong word.items
said_of name (Refused refusal) = refusal_said name refusal
said_of name (Misdirected said) = name ++ said.items

abbrev pub complaint_text : Option (List ℕ) → Complaint → List ℕ
complaint_text file complaint = said_of (file_text file) complaint
