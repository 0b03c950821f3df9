-- What is promised of a command follows from its specified outcome.
use Rattle.std.proofs.Common.{◌≡◌, ◌<◌, ◌^◌, ℕ, List, Option, Result, None, Some, Ok, Err, subst, arith}
use Rattle.kp_base.specs.declared.refusal.Refusal.{Refusal}
use Rattle.kp_ast.specs.declared.tree.Job.{Job}
use Rattle.kp_words.specs.declared.commands.Command.{Command, TheVariants.OnJob, TheVariants.Assemble, TheVariants.Read, TheVariants.Watch, TheVariants.Compare, TheVariants.Debug, TheVariants.Generate}
use Rattle.kp_words.specs.declared.commands.JobCommand.{JobCommand, TheVariants.Seq, TheVariants.Check, TheVariants.Sim, TheVariants.Pipe, TheVariants.Vcd, TheVariants.Timing}
use Rattle.kp_net.specs.Netlist.{Net}
use Rattle.kp_timing.specs.Unfit.{untimed}
use Rattle.kp_vcd.specs.{Accepted.IsAccepted, Accepted.IsAccepted.of_input, Dumps.vcd_dump, Dumps.vcd_text, Reading.verdict}
use Rattle.kp_debug_script.specs.{declared.command.Command.Command as Step, Scripts.script_of}
use Rattle.kp_tool.specs.Due.{DueFor, DueOfJob, DueOfTiming, DueOfProgram, program_of}
use Rattle.kp_tool.specs.{Read.DueOfVerilog, Read.read_over, Read.read_within, Scripted.DueOfScript, Headline.IsCorrect, Headline.IsCorrectFrom}
use Rattle.kp_tool.specs.{Agreeing.IsReadAsDump, Promises.Shows, Promises.Differs, Promises.Promises}
use Rattle.kp_tool.proofs.Headline.{correct_pipe, correct_alike, pipe_implements, pipe_with, sim_with, vcd_with, gen_with, debug_with, timing_is_timed, watch_is_legal, pair_is_alike, pair_with, pair_is_different}
use Rattle.kp_tool.proofs.{Agreeing.sim_is_sequential, Agreeing.check_is_right, Agreeing.pipe_is_read, Agreeing.watch_finds_a_fault, Together.pipe_is_watched}
use Rattle.kp_tool.proofs.{Refusals.refused_by_a_rule, Refusals.refused_where_broken, Misreads.misread_by_a_rule, Misreads.misread_where_broken}

-- what `timing`, a command on a job, `asm`, `read` and a script end with isn't status 7
module _ (text : List ℕ) where
  timing : (n : ℕ) (job : Job) (found : Option Refusal) → DueOfTiming n job found 7 text → ⊥
  timing n job (Some refusal) said = omega (arith, said.0)
  timing n job None said = omega (arith, said.0)

  on_job : (command : JobCommand) (job : Job) → DueOfJob command job 7 text → ⊥
  on_job (Timing n) job said = timing n job (untimed job) said
  on_job _ job said = omega (arith, said.0)

  program : (found : Result (List ℕ) Refusal) → DueOfProgram found 7 text → ⊥
  program (Ok words) said = omega (arith, said.0)
  program (Err refusal) said = omega (arith, said.0)

  verilog : (found : Result Net Refusal) → DueOfVerilog found 7 text → ⊥
  verilog (Ok net) said = omega (arith, said.0)
  verilog (Err refusal) said = omega (arith, said.0)

  script : (job : Job) (found : Result (List Step) Refusal) → DueOfScript job found 7 text → ⊥
  script job (Ok commands) said = omega (arith, said.0)
  script job (Err refusal) said = omega (arith, said.0)

differing : (command : Command) (input text : List ℕ) → DueFor (Some command) input 7 text → Differs command input text
differing (OnJob command) input text (Ok job, judged, due) = on_job text command job due
differing (OnJob command) input text (Err refusal, judged, said) = omega (arith, said.0)
differing Assemble input text due = program text (program_of input) due
differing Read input text (read_over over said) = omega (arith, said.0)
differing Read input text (read_within found within reads due) = verilog text found due
differing (Watch n) input text due = watch_finds_a_fault n input text due
differing Compare input text due = pair_is_different input text due
differing Debug input text (Ok (job, rest), judged, due) = script text job (script_of job.decls input rest) due
differing Debug input text (Err refusal, judged, said) = omega (arith, said.0)
differing (Generate number n) input text said = omega (arith, said.0)

module _ (read : (job : Job) (n : ℕ) → IsAccepted job → n < 2 ^ 64 → verdict (vcd_text n job) ≡ Ok (vcd_dump n job)) where
  dump_is_read : (n : ℕ) (input text : List ℕ) → DueFor (Some (OnJob (Vcd n))) input 0 text → IsReadAsDump n input text
  dump_is_read n input text (Ok job, judged, due) = (job, judged, λ small. rw due.1 (read job n (of_input judged) small))
  dump_is_read n input text (Err refusal, judged, due) = absurd (omega (arith, due.0))

  showing : (command : Command) (input text : List ℕ) → DueFor (Some command) input 0 text → Shows command input text
  showing (OnJob Pipe) input text due = record {
    implements = pipe_implements input text due;
    correct = pipe_with IsCorrectFrom correct_alike input text due;
    read_back = pipe_is_read input text due;
    watched = pipe_is_watched input text due;
  }
  showing (OnJob (Sim n)) input text due = (sim_with IsCorrect correct_pipe n input text due, sim_is_sequential n input text due)
  showing (OnJob (Vcd n)) input text due = (vcd_with IsCorrect correct_pipe n input text due, dump_is_read n input text due)
  showing (OnJob (Timing n)) input text due = timing_is_timed n input text due
  showing (OnJob Check) input text due = check_is_right input text due
  showing (OnJob (Seq n)) input text due = tt
  showing Assemble input text due = tt
  showing Read input text due = tt
  showing (Watch n) input text due = watch_is_legal n input text due
  showing Compare input text due = (pair_is_alike input text due, pair_with IsCorrectFrom correct_alike input text due)
  showing Debug input text due = debug_with IsCorrect correct_pipe input text due
  showing (Generate number n) input text due = gen_with IsCorrect correct_pipe number n input text due

  pub promised : (command : Command) (status : ℕ) (input text : List ℕ) → DueFor (Some command) input status text → Promises command status input text
  promised command status input text due =
      let due_at : (s : ℕ) → status ≡ s → DueFor (Some command) input s text = λ s is. subst (λ (s : ℕ). DueFor (Some command) input s text) is due in
      record {
        shows = λ zero. showing command input text (due_at 0 zero);
        differs = λ seven. differing command input text (due_at 7 seven);
        refused = λ two. refused_by_a_rule command input text (due_at 2 two);
        refused_only = λ refusal broken. refused_where_broken command input status text refusal due broken;
        misread = λ six. misread_by_a_rule command input text (due_at 6 six);
        misread_only = λ refusal broken. misread_where_broken command input status text refusal due broken;
      }
