-- What is due: a status and a text for the words and the bytes of the source.
use Rattle.std.specs.Prelude.{◌≡◌, ◌≢◌, ◌≤◌, ◌⊎◌, Bool, true, false, ℕ, List, [], length, nat_lt, if◌then◌else◌, Ok, Err, Some, None, Option, Result}
use Rattle.std.specs.Io.KnownBytes.{Consumes, Appends, IsAtEnd}
use Rattle.kp_base.specs.{Bytes.AppendsPart, declared.refusal.Refusal.Refusal}
use Rattle.kp_ast.specs.declared.tree.Job.{Job}
use Rattle.kp_stage.specs.Counts.{summary_of}
use Rattle.kp_asm.specs.{Image.image_text_of, Program.assembled}
use Rattle.kp_words.specs.declared.commands.Command.{Command}
use Rattle.kp_words.specs.declared.commands.Command.TheVariants.{OnJob, Assemble, Read, Watch, Compare, Debug, Generate}
use Rattle.kp_words.specs.declared.commands.JobCommand.{JobCommand}
use Rattle.kp_words.specs.declared.commands.JobCommand.TheVariants.{Seq, Check, Sim, Pipe, Vcd, Timing}
use Rattle.kp_words.specs.Commands.{command_of, reads_input}
use Rattle.kp_frontend.specs.Judging.{Judges, too_long}
use Rattle.kp_report.specs.{Texts.bad_words, Texts.refusal_line, Texts.accepted_line, States.sequential_text, Runs.sim_text, Line.gen_text}
use Rattle.kp_vcd.specs.Dumps.{vcd_text}
use Rattle.kp_timing.specs.{Unfit.untimed, Lines.timing_text}
use Rattle.kp_tool.specs.{Saying.Says, Written.IsVerilogOf, Read.DueOfRead, Watched.DueOfWatch, Compared.DueOfCompare, Scripted.DueOfDebug}

-- the outcome of `timing N` on an accepted job: E38 if it has a guess or a sample, and otherwise its timeline
abbrev pub DueOfTiming : ℕ → Job → Option Refusal → ℕ → List ℕ → Type 0
DueOfTiming count job (Some refusal) = Says 2 (refusal_line refusal)
DueOfTiming count job None = Says 0 (timing_text job count)

-- the outcome of a command on an accepted job
abbrev pub DueOfJob : JobCommand → Job → ℕ → List ℕ → Type 0
DueOfJob (Seq count) job = Says 0 (sequential_text count job)
DueOfJob Check job = Says 0 (accepted_line job.name.name (summary_of job))
DueOfJob (Sim count) job = Says 0 (sim_text count job)
DueOfJob (Vcd count) job = Says 0 (vcd_text count job)
DueOfJob (Timing count) job = DueOfTiming count job (untimed job)
DueOfJob Pipe job = λ status text. (status ≡ 0) × IsVerilogOf job text

-- the outcome of a command for a verdict on its input
abbrev pub DueOfVerdict : JobCommand → Result Job Refusal → ℕ → List ℕ → Type 0
DueOfVerdict command (Ok job) status text = DueOfJob command job status text
DueOfVerdict command (Err refusal) status text = Says 2 (refusal_line refusal) status text

-- the words of an assembler program, or the first rule that it violates
unfoldable pub program_of : List ℕ → Result (List ℕ) Refusal
program_of input = if nat_lt 16777216 (length input) then Err too_long else assembled input

-- the outcome of `asm` on a program: the section with its words, or the rule
abbrev pub DueOfProgram : Result (List ℕ) Refusal → ℕ → List ℕ → Type 0
DueOfProgram (Ok words) status text = Says 0 (image_text_of words) status text
DueOfProgram (Err refusal) status text = Says 2 (refusal_line refusal) status text

-- the outcome of a command on an input
abbrev pub DueFor : Option Command → List ℕ → ℕ → List ℕ → Type 0
DueFor None input status text = Says 1 bad_words status text
DueFor (Some (OnJob command)) input status text =
    (verdict : Result Job Refusal) × Judges input verdict × DueOfVerdict command verdict status text
DueFor (Some Assemble) input status text = DueOfProgram (program_of input) status text
DueFor (Some Read) input status text = DueOfRead input status text
DueFor (Some (Watch count)) input status text = DueOfWatch count input status text
DueFor (Some Compare) input status text = DueOfCompare input status text
DueFor (Some Debug) input status text = DueOfDebug input status text
DueFor (Some (Generate number count)) input status text = Says 0 (gen_text number count) status text

-- the specified outcome for any arguments
abbrev pub Due : List (List ℕ) → List ℕ → ℕ → List ℕ → Type 0
Due words input status text = DueFor (command_of words) input status text

-- a source was read as far as is specified: not at all; or to its end, where an input of at most 16,777,216 bytes ends; or one byte further
abbrev pub IsWhole : Bool → List ℕ → Option (List ℕ) → Type 0
IsWhole false taken left = taken ≡ []
IsWhole true taken left = (IsAtEnd left × (length taken ≤ 16777216)) ⊎ (length taken ≡ 16777217)

-- the status and the text are those specified for the bytes that were read from the source
pub record IsDue (words : List (List ℕ)) (old new : Option (List ℕ)) (status : ℕ) (text : List ℕ) : Type 0 where
  pub taken : List ℕ
  pub consumed : Consumes old new taken
  pub whole : IsWhole (reads_input (command_of words)) taken new
  pub due : Due words taken status text

-- a status of a specified outcome: not that of a read fault (3), a write fault (4) or of out of memory (5)
abbrev pub IsFinal : ℕ → Type 0
IsFinal status = (status ≢ 3) × (status ≢ 4) × (status ≢ 5)

-- the status is the specified one, and the complete specified text was appended
abbrev pub Completes : List (List ℕ) → (left left_after held held_after : Option (List ℕ)) → ℕ → Type 0
Completes words left left_after held held_after status =
    (text : List ℕ) × IsDue words left left_after status text × Appends held held_after text

-- a prefix of the specified text was appended
abbrev pub Begins : List (List ℕ) → (left left_after held held_after : Option (List ℕ)) → Type 0
Begins words left left_after held held_after =
    (status : ℕ) × (text : List ℕ) × IsDue words left left_after status text × AppendsPart held held_after text

-- the fact holds of the bytes that were read from the source and those that were appended to the sink
abbrev pub Between : (left left_after held held_after : Option (List ℕ)) → (List ℕ → List ℕ → Type 0) → Type 0
Between left left_after held held_after Fact =
    (input : List ℕ) × (text : List ℕ) × Consumes left left_after input × Appends held held_after text × Fact input text
