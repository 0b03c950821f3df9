-- WHAT IS SPECIFIED: a status and a text for what is asked, the texts of the expectation files, and the bytes of the source. The texts of statuses 0, 7 and 8 go
-- to standard output, and those of 1 and 2 to standard error.
use Rattle.std.specs.Prelude.{◌≡◌, ◌≢◌, ◌≤◌, ◌⊎◌, ℕ, ◌+◌, ◌==◌, ◌||◌, Bool, true, false, if◌then◌else◌, List, [], ◌∷◌, ◌++◌, length, codes, Option, Some, None, Result, Ok, Err}
use Rattle.std.specs.Io.KnownBytes.{Consumes, Appends, IsAtEnd}
use Rattle.kp_base.specs.{Bytes.AppendsPart, declared.refusal.Refusal.Refusal}
use Rattle.kp_command_line.specs.Words.{Text}
use Rattle.kp_ast.specs.declared.tree.Job.{Job}
use Rattle.kp_directive.specs.Directives.{directives_of}
use Rattle.kp_frontend.specs.Judging.{Judges, JudgesText}
use Rattle.kp_lex.specs.{Text.HasOutcome, declared.token.Lexed.Lexed}
use Rattle.kp_pipeline.specs.Machine.{State}
use Rattle.kp_machine.specs.Machine.{state_of}
use Rattle.kp_stage.specs.Start.{start_of}
use Rattle.kp_view_texts.specs.Heads.{rule_head}
use Rattle.kp_until.specs.Expected.{End, Script}
use Rattle.kp_until_run.specs.{Ending.Ends, Missed.AreMet, Missed.IsMissed, declared.missed.Missed.Missed}
use Rattle.kp_runner.specs.Words.{Asked, Settings, bad_words, help, version, run, reads_input}
use Rattle.kp_runner.specs.Reading.{Complaint, File, Reading, named, reading_of}
use Rattle.kp_runner.specs.Texts.{end_line, end_name, end_status, state_text, verdict_text}
use Rattle.kp_runner.specs.declared.texts.TheConstants.{HELP, USAGE, VERSION}

-- ---- the end of a run

-- how many lines expect something
abbrev pub lines_of : List Script → ℕ
lines_of [] = 0
lines_of (s ∷ ss) = s.lines + lines_of ss

-- the first expectation that isn't met, in the order of the files and of their lines
abbrev pub FirstMissed : Job → List Script → End → Option Missed → Type 0
FirstMissed job [] e missed = missed ≡ None
FirstMissed job (s ∷ ss) e missed =
    (AreMet job s.checks e × FirstMissed job ss e missed) ⊎ ((m : Missed) × (missed ≡ Some m) × IsMissed job s.checks e m)

-- THE END OF A RUN of a job: where the first condition holds, or at the limit; and the first expectation that isn't met there.
pub record IsEnd (job : Job) (s : Settings) (read : Reading) (status : ℕ) (text : List ℕ) : Type 0 where
  pub which : Option ℕ
  pub retired : ℕ
  pub cycles : ℕ
  pub state : State
  pub ends : Ends job read.untils s.limit which retired cycles state
  pub missed : Option Missed
  pub first : FirstMissed job read.scripts (record { state = state; retired = retired; cycles = cycles }) missed
  pub status_is : status ≡ end_status which missed
  pub text_is : text ≡ end_line (end_name s.until which) retired cycles
      ++ ((if s.quiet then [] else state_text job (state_of job (start_of job)) state read.only) ++ verdict_text job (lines_of read.scripts) retired cycles missed)

-- ---- the outcome

abbrev pub BeginsWith : List ℕ → List ℕ → Type 0
BeginsWith front text = (rest : List ℕ) × (text ≡ front ++ rest)

abbrev pub Complains : Complaint → ℕ → List ℕ → Type 0
Complains c status text = (status ≡ c.status) × BeginsWith c.begins text

-- the outcome for what was read of the words, the directives and the files
abbrev pub DueOfReading : Job → Settings → Result Reading Complaint → ℕ → List ℕ → Type 0
DueOfReading job s (Ok read) status text = IsEnd job s read status text
DueOfReading job s (Err complaint) status text = Complains complaint status text

-- the outcome for a job, which the file `own` has; its directives are those before its `end`
abbrev pub DueOfJob : Settings → File → List File → Job → ℕ → List ℕ → Type 0
DueOfJob s own files job status text =
    (lexed : Lexed) × HasOutcome own.text (Ok lexed) × DueOfReading job s (reading_of job s own (directives_of own.text lexed.rest) files) status text

abbrev pub file_name : Option Text → Text
file_name None = codes "<stdin>"
file_name (Some name) = name

-- the outcome for a verdict on an input: a violated rule is named at its place
abbrev pub DueOfVerdict : Settings → File → List File → Result Job Refusal → ℕ → List ℕ → Type 0
DueOfVerdict s own files (Ok job) status text = DueOfJob s own files job status text
DueOfVerdict s own files (Err refusal) status text = (status ≡ 2) × BeginsWith (rule_head own.name refusal) text

-- the outcome for an input that is not too long
abbrev pub DueOfText : Settings → File → List File → ℕ → List ℕ → Type 0
DueOfText s own files status text = (verdict : Result Job Refusal) × JudgesText own.text verdict × DueOfVerdict s own files verdict status text

abbrev pub Says : ℕ → List ℕ → ℕ → List ℕ → Type 0
Says s t status text = (status ≡ s) × (text ≡ t)

-- an input, as the file with this name
abbrev pub input_of : Option Text → List ℕ → File
input_of name input = named (file_name name) input

abbrev pub DueFor : Asked → List File → List ℕ → ℕ → List ℕ → Type 0
DueFor bad_words files input status text = Says 1 USAGE.now status text
DueFor help files input status text = Says 0 HELP.now status text
DueFor version files input status text = Says 0 VERSION.now status text
DueFor (run s name) files input status text =
    (verdict : Result Job Refusal) × Judges input verdict × DueOfVerdict s (input_of name input) files verdict status text

-- a source was read as far as is specified: not at all; or to its end, where an input of at most 16,777,216 bytes ends; or one byte further
abbrev pub IsWhole : Bool → List ℕ → Option (List ℕ) → Type 0
IsWhole false taken left = taken ≡ []
IsWhole true taken left = (IsAtEnd left × (length taken ≤ 16777216)) ⊎ (length taken ≡ 16777217)

-- the status and the text are those specified for the bytes that were read from the source
pub record IsDue (asked : Asked) (files : List File) (old new : Option (List ℕ)) (status : ℕ) (text : List ℕ) : Type 0 where
  pub taken : List ℕ
  pub consumed : Consumes old new taken
  pub whole : IsWhole (reads_input asked) taken new
  pub due : DueFor asked files taken status text

-- a status of a specified outcome: not that of a read fault (3), a write fault (4) or of out of memory (5)
abbrev pub IsFinal : ℕ → Type 0
IsFinal status = (status ≢ 3) × (status ≢ 4) × (status ≢ 5)

-- the text of words that aren't accepted, and of a violated rule, goes to standard error
abbrev pub is_complaint : ℕ → Bool
is_complaint status = (status == 1) || (status == 2)

module _ {S T : Type 0} (held : S → Option (List ℕ)) (held_err : T → Option (List ℕ)) where
  abbrev pub PrintsOn : Bool → (old new : S) (old_err new_err : T) → List ℕ → Type 0
  PrintsOn false old new old_err new_err text = Appends (held old) (held new) text × (new_err ≡ old_err)
  PrintsOn true old new old_err new_err text = (new ≡ old) × Appends (held_err old_err) (held_err new_err) text

  abbrev pub PrintsPartOn : Bool → (old new : S) (old_err new_err : T) → List ℕ → Type 0
  PrintsPartOn false old new old_err new_err text = AppendsPart (held old) (held new) text × (new_err ≡ old_err)
  PrintsPartOn true old new old_err new_err text = (new ≡ old) × AppendsPart (held_err old_err) (held_err new_err) text

  -- the complete text was appended where it belongs, and nothing was written to the other sink
  abbrev pub Prints : (old new : S) (old_err new_err : T) → ℕ → List ℕ → Type 0
  Prints old new old_err new_err status text = PrintsOn (is_complaint status) old new old_err new_err text

  -- the same of a prefix of the text
  abbrev pub PrintsPart : (old new : S) (old_err new_err : T) → ℕ → List ℕ → Type 0
  PrintsPart old new old_err new_err status text = PrintsPartOn (is_complaint status) old new old_err new_err text
